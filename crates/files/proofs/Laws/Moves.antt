-- Bytes put over others, a part lent at a time; lengths summed one by one; and the header compared.
use Prim.Native.Nat.{ℕ, ◌-◌, ◌≤◌}
use mathlib.Core.List.{List}
use mathlib.Core.Path.{◌≡◌, sym}
use native.Mathlib.Omega.{arith}
use lib.ListN.{length, take, drop, length-drop}
use lib.Seq.{take_all, length-take-le}

-- ---- bytes put over others

-- the rest of m from n on, lent as a part, is all of it
pub rest_all : (m : List ℕ) (n : ℕ) → take (length m - n) (drop n m) ≡ drop n m
rest_all m n = take_all (length m - n) (drop n m) (let e = length-drop n m in omega (arith, e))

pub take_count : (n : ℕ) (l : List ℕ) → n ≤ length l → n ≡ length (take n l)
take_count n l h = sym (length-take-le n l h)
