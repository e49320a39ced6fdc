-- `part::state::Part::trigger` meets its contract: the channels that the edge reached.
use Rattle.part.proofs.Laws.Steps.{Edged}
use Rattle.part.proofs.state.Part.trigger.Given as goal

abbrev pub invariant-loop-c : goal.invariant-loop-c
invariant-loop-c l = Edged l.edge l.initial.self l.c l.self l.actions
