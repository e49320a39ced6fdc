-- Facts that functions hand to each other, beside what they return. Nobody has to believe them: each is proved where it is promised.
use Rattle.std.specs.Prelude.{ℕ, ◌<◌, true, List, ◌≡◌, length}
use Rattle.rules.specs.Numbers.{memory_size}
use Rattle.channel.specs.Facts.{Accepted}
use Rattle.part.specs.declared.state.Part.{Part}
use Rattle.part.specs.State.{chan, window}
use Rattle.part.specs.Step.{part_in}

-- what a step that is not refused by no. 9 may rely on: a fact and no invariant of `Part`, since `part_step` answers any part and any memory
pub record Whole (p : Part) (m : List ℕ) : Type 0 where
  pub ranged : part_in p ≡ true
  pub whole : length m ≡ memory_size

-- what a step of channel c may rely on: of the three channels only this one has to be in range
pub record OneReady (p : Part) (m : List ℕ) (c : ℕ) : Type 0 where
  pub below : c < 3
  pub memory : length m ≡ memory_size
  pub accepted : Accepted (chan p c) (window c m)
