-- `sequence::wires::store` meets its contract.
use Rattle.sequence.proofs.Laws.Storing.{current_in}
use Rattle.sequence.proofs.wires.store.Goals as goal

pub bounds-mem-i : goal.bounds-mem-i
bounds-mem-i c = search current_in depth 12
