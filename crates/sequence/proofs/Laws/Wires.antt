-- The last frame of FRAMECNT, by the number of those before it.
use Rattle.std.specs.Prelude.{true, false, ◌≡◌, ℕ, ◌+◌, ◌-◌, ◌<◌, ◌≤◌, ltb}
use Rattle.std.proofs.Common.{arith, lt-ltb, le-ltb}
use Rattle.laws.specs.Cases.{cases}

pub frames-left : (n all : ℕ) → n < all - 1 → ltb (n + 1) all ≡ true
frames-left n all h = lt-ltb (n + 1) all (omega arith)

pub frames-over : (n all : ℕ) → all - 1 ≤ n → ltb (n + 1) all ≡ false
frames-over n all h = let g : all ≤ n + 1 = omega arith in le-ltb _ _ g

pub ruleset frames = (frames-left, frames-over, cases)
