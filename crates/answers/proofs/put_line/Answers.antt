-- `answers::put_line` meets its contract: six texts, one after the other.
use Rattle.answers.proofs.Laws.Writing.{put_then}
use Rattle.answers.specs.Answer.{answer_line}
use native.Mathlib.Omega.{arith}
use Rattle.answers.proofs.put_line.Goals as goal

pub returns : goal.returns
unfolding answer_line
returns c = (
  put_then c.put_decimal-at.ensures.0
      (put_then c.put-at.ensures
      (put_then c.put_decimal-at-2.ensures.0 (put_then c.put_middle-at.ensures (put_then c.put_actions-at.ensures.0 c.put.ensures)))),
  omega (arith, c.put_decimal-at.ensures.1, c.put-at.ensures.place, c.put_decimal-at-2.ensures.1, c.put_middle-at.ensures.place, c.put_actions-at.ensures.1, c.put.ensures.place),
)
