-- A byte that is awaited is one of the buffer.
use Rattle.std.specs.Prelude.{ℕ, ◌+◌, ◌<◌, List, ◌≡◌, get_or}
use Rattle.std.proofs.Common.{arith}
use Rattle.rules.specs.Numbers.{buffer_size}
use Rattle.rules.specs.Tables.{start_of}
use Rattle.rules.proofs.Laws.Tables.{start_next}
use Rattle.sequence.specs.Facts.{Counting}

pub current_in : (l q : List ℕ) (n s k len : ℕ) → Counting l q n → s ≡ start_of l n → k ≡ get_or q n 0 → len ≡ buffer_size → s + k < len
current_in l q n s k len r p e w = let g = start_next l n (get_or l 0 0) r.running.below in omega arith
