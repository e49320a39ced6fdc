-- No line of `line_room` bytes or more can be read, so whoever keeps the first `line_room` bytes of a line reads it as it is.
use Rattle.std.specs.Prelude.{Bool, true, false, List, [], ◌∷◌, ◌≡◌, refl, ℕ, suc, ◌≤◌, leb, ltb, length, take, None}
use Rattle.std.proofs.Common.{sym, ◌∙◌, ap, arith, leb-true, leb-false, ltb-true, take_all, length-take-le}
use Rattle.laws.specs.Cases.{pick_holds}
use Rattle.script.specs.Grammar.{line_room, suiting, in_form, fault_line, clock_line, event_line, edge_line, line_of}

pub fit_length : (f l : List ℕ) → (length f ≡ length l → ⊥) → false ≡ in_form f l
unfolding in_form
fit_length [] [] h = absurd (h refl)
fit_length [] (b ∷ l) h = refl
fit_length (a ∷ f) [] h = refl
fit_length (a ∷ f) (b ∷ l) h =
    pick_holds (λ (r : Bool). false ≡ r) (suiting a b) (λ _. fit_length f l (λ e. h (ap suc e))) (λ _. refl)

module _ (l : List ℕ) (h : line_room ≤ length l) where
  unfit : (f : List ℕ) → ltb (length f) line_room ≡ true → in_form f l ≡ false
  unfit f t = let k = ltb-true (length f) line_room t in sym (fit_length f l (λ e. omega arith))

  -- every form is shorter
  pub long_unreadable : line_of l ≡ None
  unfolding line_room line_of edge_line event_line clock_line fault_line
  long_unreadable = simp unfit

by_length : (l : List ℕ) (b : Bool) → leb line_room (length l) ≡ b → line_of (take line_room l) ≡ line_of l
by_length l true e =
    let h = leb-true line_room (length l) e in
    let k : line_room ≤ length (take line_room l) = rw (length-take-le line_room l h) (omega arith) in
    long_unreadable (take line_room l) k ∙ sym (long_unreadable l h)
by_length l false e = let h = leb-false line_room (length l) e in ap line_of (take_all line_room l (omega arith))

pub first_bytes_lem : (l : List ℕ) → line_of (take line_room l) ≡ line_of l
first_bytes_lem l = by_length l (leb line_room (length l)) refl
