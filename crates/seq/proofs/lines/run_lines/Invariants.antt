-- `seq::lines::run_lines` meets its contract: a turn does one line, and what is left to do gives what all gives.
use Rattle.std.proofs.Common.{◌-◌, length, ◌≡◌}
use Rattle.runner.specs.Run.{start}
use Rattle.seq.proofs.Laws.Lines.{Going}
use Rattle.seq.proofs.lines.run_lines.Given as goal

abbrev pub invariant-loop-from : goal.invariant-loop-from
invariant-loop-from l = (length l.mem ≡ length l.initial.mem) × Going l.text (start l.initial.part l.initial.mem) l.initial.tally l.part l.mem l.tally l.from

abbrev pub decreases-loop-from : goal.decreases-loop-from
decreases-loop-from l = length l.text - l.from
