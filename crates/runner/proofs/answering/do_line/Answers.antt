-- `runner::answering::do_line` meets its contract: a part and a memory in range do the step that no. 9 does not refuse.
use Rattle.std.proofs.Common.{◌∙◌, sym}
use Rattle.runner.proofs.Laws.Run.{step_answered, step_left, none_answered, none_left}
use Rattle.runner.proofs.answering.do_line.Goals as goal

pub returns-in-Some-clause-answer : goal.returns-in-Some-clause-answer
returns-in-Some-clause-answer c = step_answered _ _ _ _ _ _ c.requires (sym c.read_line.ensures ∙ c.in-Some.is) (rw c.target_of.ensures.0 at c.serve.ensures.0)

pub returns-in-Some-clause-after : goal.returns-in-Some-clause-after
returns-in-Some-clause-after c =
    step_left _ _ _ _ _ _ _ c.requires (sym c.read_line.ensures ∙ c.in-Some.is) (rw c.target_of.ensures.0 at c.serve.ensures.0) (rw c.target_of.ensures.0 at c.serve.ensures.1)

pub returns-in-None-clause-answer : goal.returns-in-None-clause-answer
returns-in-None-clause-answer c = none_answered _ _ _ _ (sym c.read_line.ensures ∙ c.in-None.is) c.unreadable.ensures

pub returns-in-None-clause-after : goal.returns-in-None-clause-after
returns-in-None-clause-after c = none_left _ _ _ (sym c.read_line.ensures ∙ c.in-None.is)
