-- Facts that functions hand to each other, beside what they return. Nobody has to believe them: each is proved where it is promised.
use Rattle.std.specs.Prelude.{◌<◌}
use Rattle.steps.specs.declared.map.Target.{Target}
use Rattle.steps.specs.declared.map.Target.TheVariants.{One, All}

-- a channel that a step concerns is 0, 1 or 2: a fact and no invariant, since anybody can write a `Target` down
abbrev pub InPart : Target → Type 0
InPart (One op c) = c < 3
InPart (All t) = Unit {0}
