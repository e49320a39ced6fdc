-- A line against a form, by its length and the pairs of a letter and a byte; what stands past a line's end.
use Rattle.std.specs.Prelude.{ℕ, ◌≤◌, Bool, true, false, List, [], ◌∷◌, ◌≡◌, refl, ◌&&◌, length, if◌then◌else◌}
use Rattle.std.specs.List.{zip, list_all}
use Rattle.std.proofs.Common.{arith}
use Rattle.std.proofs.Math.ListN.{get_or-eq_default}
use Rattle.script.specs.Grammar.{is_hex, hex_of, digit_at, suiting, in_form}

-- every pair suits
abbrev all_suit : List ℕ → List ℕ → Bool
all_suit f l = list_all (λ (p : ℕ × ℕ). suiting p.0 p.1) (zip f l)

pub all_fit : (f l : List ℕ) → length f ≡ length l → all_suit f l ≡ in_form f l
unfolding in_form
all_fit [] [] h = refl
all_fit [] (b ∷ l) h = absurd (omega arith)
all_fit (letter ∷ form) [] h = absurd (omega arith)
all_fit (letter ∷ form) (b ∷ l) h = cases (suiting letter b) (all_fit form l (omega arith))
  where
    cases : (t : Bool) → all_suit form l ≡ in_form form l → (t && all_suit form l) ≡ (if t then in_form form l else false)
    cases true e = e
    cases false e = refl

pub digit_past : (l : List ℕ) (i : ℕ) → length l ≤ i → 0 ≡ digit_at l i
unfolding hex_of is_hex
digit_past l i h = rw (get_or-eq_default l 0 h)
