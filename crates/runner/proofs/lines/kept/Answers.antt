-- `runner::lines::kept` meets its contract.
use Rattle.std.proofs.Common.{◌∙◌, arith}
use Rattle.script.specs.Grammar.{line_room}
use Rattle.runner.proofs.Laws.Lines.{kept_min}
use Rattle.runner.proofs.lines.kept.Goals as goal

pub returns : goal.returns
unfolding line_room
returns c = (c.min.ensures ∙ kept_min c.args.len, omega (arith, c.min.ensures))
