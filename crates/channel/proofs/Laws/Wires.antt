-- What a walk may rely on.
use mathlib.Core.Path.{◌≡◌}
use mathlib.Core.List.{List}
use Prim.Native.Nat.{ℕ, ◌+◌, ◌<◌}
use native.Mathlib.Omega.{arith}
use lib.ListN.{get_or}
use Rattle.sequence.specs.declared.wires.Next.{Next}
use Rattle.sequence.specs.declared.wires.Next.TheVariants.{More}
use Rattle.rules.specs.Numbers.{buffer_size}
use Rattle.rules.specs.Tables.{start_of}
use Rattle.rules.proofs.Laws.Tables.{start_next}
use Rattle.rules.specs.Facts.{Running}
use Rattle.sequence.specs.Facts.{Ready}

-- one byte more is one of the buffer
pub byte_in : (l : List ℕ) (n k len : ℕ) (x : Next) → Running l n → Ready x k (get_or l (n + 1) 0) → x ≡ More → len ≡ buffer_size → start_of l n + k < len
byte_in l n k len x r y q e =
    let h : k < get_or l (n + 1) 0 = rw q at y in
    let g = start_next l n (get_or l 0 0) r.below in omega arith
