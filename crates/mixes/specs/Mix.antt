-- What the theorem on mixed runs speaks of: mixes of three lists, machines, and their runs. A reader has to believe this page, and nothing of
-- the proof (proofs/Laws/).
use Rattle.std.specs.Prelude.{ℕ, ◌<◌, List, [], ◌∷◌, eqb, if◌then◌else◌}

-- m has the elements of three lists, each list's in its own order, mixed in any way: an element of m is the next one of the first, of the
-- second or of the third list, until all three are used up
pub data Mix (A : Type 0) : List A → List A → List A → List A → Type 0 where
  done : Mix A [] [] [] []
  first : {a : A} {k l n m : List A} → Mix A k l n m → Mix A (a ∷ k) l n (a ∷ m)
  second : {a : A} {k l n m : List A} → Mix A k l n m → Mix A k (a ∷ l) n (a ∷ m)
  third : {a : A} {k l n m : List A} → Mix A k l n m → Mix A k l (a ∷ n) (a ∷ m)

-- of a list, what is of channel c, in its order; `owner` says which channel an element is of
abbrev pub list_of : {A : Type 0} → (A → ℕ) → ℕ → List A → List A
list_of owner c [] = []
list_of owner c (a ∷ l) = if eqb (owner a) c then a ∷ list_of owner c l else list_of owner c l

-- a machine: what a step answers in a state, the state after it, and which channel it is a step of
pub record Machine (S Step Ans : Type 0) : Type 0 where
  pub answer : S → Step → Ans
  pub after : S → Step → S
  pub owner : Step → ℕ

module _ {S Step Ans : Type 0} where
  -- the state after a list of steps
  abbrev pub ends : Machine S Step Ans → S → List Step → S
  ends M s [] = s
  ends M s (a ∷ l) = ends M (M.after s a) l

  -- each step of a list with the answer that it gets, in order
  abbrev pub log : Machine S Step Ans → S → List Step → List (Step × Ans)
  log M s [] = []
  log M s (a ∷ l) = (a, M.answer s a) ∷ log M (M.after s a) l

  -- a step of channel 0, 1 or 2
  abbrev pub OfSome : Machine S Step Ans → Step → Type 0
  OfSome M a = M.owner a < 3

  -- of a list of steps, those of channel c, in their order
  abbrev pub steps_of : Machine S Step Ans → ℕ → List Step → List Step
  steps_of M c l = list_of M.owner c l

  -- of a log, what concerns channel c
  abbrev pub only : Machine S Step Ans → ℕ → List (Step × Ans) → List (Step × Ans)
  only M c l = list_of (λ x. M.owner x.0) c l
