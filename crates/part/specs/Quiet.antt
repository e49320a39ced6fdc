-- Where a step leaves the part as it is: an edge that no channel waits for, and what forgets no key.
use Rattle.std.specs.Prelude.{Bool, true, false, not, if◌then◌else◌}
use Rattle.steps.specs.declared.map.Target.{Target}
use Rattle.steps.specs.declared.map.Target.TheVariants.{One, All}
use Rattle.steps.specs.Keys.{op_writes}
use Rattle.part.specs.declared.state.Part.{Part}
use Rattle.part.specs.State.{chan}

-- no channel has TE 1
unfoldable pub unarmed_of : Part → Bool
unarmed_of p =
    if (chan p 0).head.regs.te then false else
    if (chan p 1).head.regs.te then false else not (chan p 2).head.regs.te

-- some A5h is pending
unfoldable pub keyed_of : Part → Bool
keyed_of p =
    if (chan p 0).head.key then true else
    if (chan p 1).head.key then true else
    if (chan p 2).head.key then true else p.key

-- whether a step may forget a key: one of a single channel only where it writes, and then only what is pending
abbrev pub may_forget : Part → Target → Bool
may_forget p (One op c) = if op_writes op then keyed_of p else false
may_forget p (All t) = keyed_of p
