-- `seq::typing::put_each` meets its contract: what is put from a byte on, there, is what is put from the start.
use Rattle.seq.proofs.Laws.Typing.{eaches}
use Rattle.seq.proofs.typing.put_each.Goals as goal

pub loop-v-preserved : goal.loop-v-preserved
loop-v-preserved c = search eaches

pub returns : goal.returns
returns c = search eaches
