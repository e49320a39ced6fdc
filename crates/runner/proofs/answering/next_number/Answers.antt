-- `runner::answering::next_number` meets its contract.
use Rattle.std.proofs.Common.{◌∙◌}
use Rattle.runner.proofs.Laws.Feeding.{number_is}
use Rattle.runner.proofs.answering.next_number.Goals as goal

pub returns : goal.returns
returns c = c.saturating_add.ensures ∙ number_is c.args.step c.ranges.step.fits
