-- A function done to the first elements of a list, one by one.
use Rattle.std.specs.Prelude.{ℕ, zero, suc, ◌<◌, List, [], ◌∷◌, map, ◌≡◌, refl, length, get_or, set}
use Rattle.std.proofs.Common.{ap, arith}

-- the first i of m are what f makes of the first i of l
abbrev pub put_first : {A B : Type 0} → (A → B) → ℕ → List A → List B → List B
put_first f zero l m = m
put_first f (suc i) [] m = m
put_first f (suc i) (x ∷ l) [] = []
put_first f (suc i) (x ∷ l) (y ∷ m) = f x ∷ put_first f i l m

module _ {A B : Type 0} (f : A → B) where
  -- the next one is not touched yet
  pub next_first : (i : ℕ) (l : List A) (m : List B) (d : B) → get_or (put_first f i l m) i d ≡ get_or m i d
  next_first zero l m d = refl
  next_first (suc i) [] m d = refl
  next_first (suc i) (x ∷ l) [] d = refl
  next_first (suc i) (x ∷ l) (y ∷ m) d = next_first i l m d

  -- and then it is
  pub one_first : (i : ℕ) (l : List A) (m : List B) (d : A) → i < length l → set (put_first f i l m) i (f (get_or l i d)) ≡ put_first f (suc i) l m
  one_first i [] m d h = absurd (omega (arith, h))
  one_first zero (x ∷ l) [] d h = refl
  one_first zero (x ∷ l) (y ∷ m) d h = refl
  one_first (suc i) (x ∷ l) [] d h = refl
  one_first (suc i) (x ∷ l) (y ∷ m) d h = ap (λ (t : List B). f x ∷ t) (one_first i l m d (omega (arith, h)))

  -- and in the end all are
  pub all_first : (l : List A) (m : List B) → length l ≡ length m → put_first f (length l) l m ≡ map f l
  all_first [] [] e = refl
  all_first [] (y ∷ m) e = absurd (omega (arith, e))
  all_first (x ∷ l) [] e = absurd (omega (arith, e))
  all_first (x ∷ l) (y ∷ m) e = ap (λ (t : List B). f x ∷ t) (all_first l m (omega (arith, e)))
