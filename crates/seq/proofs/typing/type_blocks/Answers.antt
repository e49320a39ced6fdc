-- `seq::typing::type_blocks` meets its contract: seven texts, one after the other.
use Rattle.std.proofs.Common.{arith}
use Rattle.answers.proofs.Laws.Writing.{put_then}
use Rattle.seq.proofs.Laws.Typing.{blocks_text}
use Rattle.seq.proofs.typing.type_blocks.Goals as goal

pub returns : goal.returns
returns c = (
  rw (blocks_text c.args.base c.args.count _ _ _)
      (put_then c.put_write-at.ensures.0
      (put_then c.put_write-at-2.ensures.0
      (put_then c.put_write-at-3.ensures.0
      (put_then c.put_each-at.ensures.0
      (put_then c.put_each-at-2.ensures.0 (put_then c.put_each-at-3.ensures.0 c.put_write.ensures.0)))))),
  omega (
    arith,
    c.put_write.ensures.1,
    c.put_each-at-3.ensures.1,
    c.put_each-at-2.ensures.1,
    c.put_each-at.ensures.1,
    c.put_write-at-3.ensures.1,
    c.put_write-at-2.ensures.1,
    c.put_write-at.ensures.1,
    c.requires,
  ),
)
