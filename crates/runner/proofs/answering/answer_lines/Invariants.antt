-- `runner::answering::answer_lines` meets its contract: each turn answers one line, and what is left to answer is the same as at the start.
use Rattle.std.proofs.Common.{◌≡◌, ◌-◌, length}
use Rattle.runner.proofs.Laws.Feeding.{Going}
use Rattle.runner.proofs.answering.answer_lines.Given as goal

abbrev pub invariant-loop-end : goal.invariant-loop-end
invariant-loop-end l = (length l.out ≡ length l.initial.out) × Going l.block l.initial.c l.initial.mem l.initial.out l.c l.mem l.out l.end

abbrev pub decreases-loop-end : goal.decreases-loop-end
decreases-loop-end l = length l.block - l.c.from
