-- `bench::Buffers::new` meets its contract.
use Rattle.std.proofs.Common.{ℕ, ◌*◌}
use Rattle.std.proofs.lemmas.List.{length-replicate}
use Rattle.answers.specs.Answer.{answer_room}
use Rattle.bench.specs.Talk.{block_size}
use Rattle.bench.proofs.Buffers.new.Goals as goal

pub returns-clause-sizes : goal.returns-clause-sizes
returns-clause-sizes c = (length-replicate {A = ℕ} block_size 0, length-replicate {A = ℕ} (answer_room * block_size) 0)
