-- `seq::input` meets its contract.
use Rattle.std.proofs.Common.{ℕ}
use Rattle.std.proofs.lemmas.List.{length-replicate}
use Rattle.seq.specs.Lines.{input_room}
use Rattle.seq.proofs.input.Goals as goal

pub returns : goal.returns
returns c = length-replicate {A = ℕ} input_room 0
