-- `steps::answer::act_at` meets its contract.
use Rattle.steps.proofs.Laws.Acts.{only_at_lem}
use Rattle.steps.proofs.answer.act_at.Goals as goal

pub returns : goal.returns
returns c = rw (c.act_if-3.ensures, c.act_if-2.ensures, c.act_if.ensures) (only_at_lem _ _ c.requires)
