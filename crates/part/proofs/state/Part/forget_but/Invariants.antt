-- `part::state::Part::forget_but` meets its contract: the channels whose key went.
use Rattle.std.proofs.Common.{◌≡◌}
use Rattle.part.proofs.Laws.Keys.{but_first}
use Rattle.part.proofs.state.Part.forget_but.Given as goal

abbrev pub invariant-loop-i : goal.invariant-loop-i
invariant-loop-i l = l.channel-items ≡ but_first l.c l.i l.initial.channel-items
