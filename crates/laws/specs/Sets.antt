-- Values put one after the other from a place on.
use Rattle.std.specs.Prelude.{ℕ, suc, ◌+◌, List, [], ◌∷◌, ◌++◌, ◌≡◌, length}
use Rattle.std.proofs.Common.{◌∙◌, ap, arith}
use Rattle.std.proofs.lemmas.List.Edits.{sets}

-- two lists in turn are put as one
pub sets_append : (l xs ys : List ℕ) (i : ℕ) → sets l i (xs ++ ys) ≡ sets (sets l i xs) (i + length xs) ys
sets_append l [] ys i = let e : i + 0 ≡ i = omega arith in rw e
sets_append l (x ∷ xs) ys i =
    let e : suc i + length xs ≡ i + suc (length xs) = omega arith in
    sets_append _ xs ys (suc i) ∙ ap (λ (k : ℕ). sets (sets l i (x ∷ xs)) k ys) e
