-- `runner::lines::lengthen` meets its contract: what is left of the bytes lengthens what has come to be.
use Rattle.std.proofs.Common.{◌≡◌, drop}
use Rattle.runner.specs.Lines.{lengthened}
use Rattle.runner.proofs.lines.lengthen.Given as goal

abbrev pub invariant-loop-b : goal.invariant-loop-b
invariant-loop-b l = lengthened l.initial.line l.more ≡ lengthened l.line (drop l.b-index l.more)
