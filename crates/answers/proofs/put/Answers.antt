-- `answers::put` meets its contract.
use Rattle.answers.proofs.Laws.Writing.{put_part}
use Rattle.answers.proofs.put.Goals as goal

pub returns : goal.returns
returns c = put_part _ _ _ _ c.requires c.copy_from_slice.ensures.after
