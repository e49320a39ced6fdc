-- The lines of a block, one by one, and the text of their answers.
use Rattle.std.specs.Prelude.{ℕ, ◌+◌, ◌-◌, ◌<◌, ◌≤◌, Bool, true, false, ◌≡◌, refl, eqb, min, take, drop, Option, Some, None}
use mathlib.Core.List.{List, [], ◌∷◌, ◌++◌, append-nil, append_assoc}
use Rattle.std.proofs.Common.{sym, ◌∙◌, add-one, arith, subst}
use Rattle.std.proofs.Math.Path.{ap}
use Rattle.std.proofs.Math.Nat.{add-sub_cancel_left}
use borrow.Author.Tests.{le-leb, eqb-true, eqb-false}
use Rattle.std.proofs.Math.ListN.{length, length-drop}
use Rattle.std.proofs.Math.Seq.{drop-drop, length-sets}
use Rattle.laws.specs.Cases.{pick_holds}
use Rattle.std.proofs.Math.Nat.{min-eq_left}
use Rattle.steps.specs.declared.answer.PartAnswer.{PartAnswer}
use Rattle.part.specs.declared.state.Part.{Part}
use Rattle.part.specs.Registers.{interrupt_of}
use Rattle.part.proofs.Laws.Kept.{whole-kept}
use Rattle.part.specs.Facts.{Whole}
use Rattle.steps.specs.declared.map.Step.{Step}
use Rattle.script.specs.Grammar.{line_of}
use Rattle.answers.specs.Answer.{Put, text_if, answer_room, roomy, answer_line}
use Rattle.runner.specs.declared.answering.Course.{Course}
use Rattle.answers.proofs.Laws.Writing.{put_then}
use Rattle.independent.specs.Statement.{State}
use Rattle.runner.specs.Run.{start, line_answer, after_line}
use Rattle.runner.specs.Lines.{first_lf, line_end}
use Rattle.runner.specs.Text.{Desk, ended_lines, rest_of, after_one, reply_to, after_all, replies_to, number_after}
use Rattle.runner.specs.Feeding.{desk_of, lines_from, Room, Answered}
use Rattle.runner.proofs.Laws.Lines.{end_after}

-- ---- the next line of some bytes
pub next_line : (line l : List ℕ) → first_lf l < length l → ended_lines line l ≡ (line ++ take (first_lf l) l) ∷ ended_lines [] (drop (first_lf l + 1) l)
unfolding ended_lines
next_line line [] h = absurd (omega (arith, h))
next_line line (b ∷ l) h = cases (eqb b 10) refl (λ i. next_line (line ++ (b ∷ [])) l i)
  where
    cases : (t : Bool) → eqb b 10 ≡ t
        → (first_lf l < length l → ended_lines (line ++ (b ∷ [])) l ≡ ((line ++ (b ∷ [])) ++ take (first_lf l) l) ∷ ended_lines [] (drop (first_lf l + 1) l))
        → ended_lines line (b ∷ l) ≡ (line ++ take (first_lf (b ∷ l)) (b ∷ l)) ∷ ended_lines [] (drop (first_lf (b ∷ l) + 1) (b ∷ l))
    cases true e f = rw (e, append-nil line)
    cases false e f =
        let n = first_lf l in
        let t : take (n + 1) (b ∷ l) ≡ b ∷ take n l = rw (add-one n) in
        let d : drop (n + 1 + 1) (b ∷ l) ≡ drop (n + 1) l = rw (add-one (n + 1)) in
        rw (e, t, d) (f (omega (arith, rw e at h)) ∙ ap (λ (x : List ℕ). x ∷ ended_lines [] (drop (first_lf l + 1) l)) (append_assoc line (b ∷ []) (take (first_lf l) l)))

pub next_rest : (line l : List ℕ) → first_lf l < length l → rest_of line l ≡ rest_of [] (drop (first_lf l + 1) l)
unfolding rest_of
next_rest line [] h = absurd (omega (arith, h))
next_rest line (b ∷ l) h = cases (eqb b 10) refl (λ i. next_rest (line ++ (b ∷ [])) l i)
  where
    cases : (t : Bool) → eqb b 10 ≡ t → (first_lf l < length l → rest_of (line ++ (b ∷ [])) l ≡ rest_of [] (drop (first_lf l + 1) l))
        → rest_of line (b ∷ l) ≡ rest_of [] (drop (first_lf (b ∷ l) + 1) (b ∷ l))
    cases true e f = rw e
    cases false e f =
        let n = first_lf l in
        let d : drop (n + 1 + 1) (b ∷ l) ≡ drop (n + 1) l = rw (add-one (n + 1)) in
        rw (e, d) (f (omega (arith, rw e at h)))

pub no_line-ends : (line l : List ℕ) → length l ≤ first_lf l → ended_lines line l ≡ []
unfolding ended_lines
no_line-ends line [] h = refl
no_line-ends line (b ∷ l) h = cases (eqb b 10) refl (λ i. no_line-ends (line ++ (b ∷ [])) l i)
  where
    cases : (t : Bool) → eqb b 10 ≡ t → (length l ≤ first_lf l → ended_lines (line ++ (b ∷ [])) l ≡ []) → ended_lines line (b ∷ l) ≡ []
    cases true e f = absurd (omega (arith, rw e at h))
    cases false e f = rw e (f (omega (arith, rw e at h)))

pub all_rest : (line l : List ℕ) → length l ≤ first_lf l → rest_of line l ≡ line ++ l
unfolding rest_of
all_rest line [] h = sym (append-nil line)
all_rest line (b ∷ l) h = cases (eqb b 10) refl (λ i. all_rest (line ++ (b ∷ [])) l i)
  where
    cases : (t : Bool) → eqb b 10 ≡ t → (length l ≤ first_lf l → rest_of (line ++ (b ∷ [])) l ≡ (line ++ (b ∷ [])) ++ l) → rest_of line (b ∷ l) ≡ line ++ (b ∷ l)
    cases true e f = absurd (omega (arith, rw e at h))
    cases false e f = rw e (f (omega (arith, rw e at h)) ∙ append_assoc line (b ∷ []) l)

-- ---- no. 9 refuses nothing on the way
line_whole : (p : Part) (m : List ℕ) (l : Option Step) → Whole p m → Whole (after_line (start p m) l).part (after_line (start p m) l).memory
line_whole p m (Some s) w = whole-kept p m s w
line_whole p m None w = w

pub after_whole-one : (d : Desk) (l : List ℕ) → Whole d.state.part d.state.memory → Whole (after_one d l).state.part (after_one d l).state.memory
unfolding after_one
after_whole-one d l w = line_whole d.state.part d.state.memory (line_of l) w

-- ---- the number of a step
pub number_is : (n : ℕ) → n < 18446744073709551616 → min (n + 1) 18446744073709551615 ≡ number_after n
unfolding number_after
number_is n h =
    pick_holds (λ (x : ℕ). min (n + 1) 18446744073709551615 ≡ x) (eqb n 18446744073709551615)
    (λ t. let e = eqb-true n 18446744073709551615 t in omega arith)
    (λ t. let e = eqb-false n 18446744073709551615 t in min-eq_left (lt_of_ne n e h))
  where
    lt_of_ne : (k : ℕ) → (k ≡ 18446744073709551615 → ⊥) → k < 18446744073709551616 → k + 1 ≤ 18446744073709551615
    lt_of_ne k e f = omega arith

-- ---- the loop

pub put-length : (l : List ℕ) (at : ℕ) (text : List ℕ) (r : ℕ) (m : List ℕ) → Put l at text r m → length m ≡ length l
put-length l at text r m w = ap length w.bytes ∙ length-sets l at text

-- after some turns: what is left to answer is the same as at the start, behind what was told
pub record Going (block : List ℕ) (s₀ : Course) (m₀ o₀ : List ℕ) (s : Course) (m o : List ℕ) (end : ℕ) : Type 0 where
  pub whole : Whole s.part m
  pub told : List ℕ
  pub texts : replies_to (desk_of s₀.part m₀ s₀.step) (lines_from block s₀.from) ≡ told ++ replies_to (desk_of s.part m s.step) (lines_from block s.from)
  pub ends : after_all (desk_of s₀.part m₀ s₀.step) (lines_from block s₀.from) ≡ after_all (desk_of s.part m s.step) (lines_from block s.from)
  pub rests : rest_of [] (drop s₀.from block) ≡ rest_of [] (drop s.from block)
  pub put : Put o₀ s₀.at told s.at o
  pub room : Room block s.from s.at o
  pub here : end ≡ line_end block s.from
  pub inside : s.from ≤ length block

module _ (block : List ℕ) (s₀ : Course) (m₀ o₀ : List ℕ) (s : Course) (m o : List ℕ) (end : ℕ) (w : Going block s₀ m₀ o₀ s m o end) where
  bytes : List ℕ
  bytes = take (end - s.from) (drop s.from block)

  size : end - s.from ≡ first_lf (drop s.from block)
  unfolding line_end
  size = ap (λ (x : ℕ). x - s.from) w.here ∙ add-sub_cancel_left s.from _

  next : end < length block → lines_from block s.from ≡ bytes ∷ lines_from block (end + 1)
  unfolding bytes line_end
  next i =
      let n = length-drop s.from block in
      let q = w.here in
      let j : end + 1 ≡ s.from + (first_lf (drop s.from block) + 1) = omega (arith, q) in
      next_line [] (drop s.from block) (omega (arith, i, n, size, q))
      ∙ rw (size, j, drop-drop (first_lf (drop s.from block) + 1) s.from)

  next_rest_of : end < length block → rest_of [] (drop s.from block) ≡ rest_of [] (drop (end + 1) block)
  unfolding line_end
  next_rest_of i =
      let n = length-drop s.from block in
      let q = w.here in
      let j : end + 1 ≡ s.from + (first_lf (drop s.from block) + 1) = omega (arith, q) in
      next_rest [] (drop s.from block) (omega (arith, i, n, size, q))
      ∙ rw (j, drop-drop (first_lf (drop s.from block) + 1) s.from)

  -- room for this answer
  room_here : end < length block → roomy (length o) s.at ≡ true
  room_here i =
      let e = end_after block s.from in
      le-leb (s.at + answer_room) (length o) (omega (arith, i, e, w.here, w.room))

  desk_at : State → ℕ → Desk
  desk_at x step = record { state = x; step = step }

  -- a turn: the line is done, INT is the level after it, and its answer is put
  pub going_on_lem : (answer : PartAnswer) (p : Part) (int : Bool) (m' o' : List ℕ) (step at end' : ℕ) → end < length block
      → answer ≡ line_answer (start s.part m) (line_of (take (end - s.from) (drop s.from block)))
      → start p m' ≡ after_line (start s.part m) (line_of (take (end - s.from) (drop s.from block)))
      → step ≡ number_after s.step → int ≡ interrupt_of p
      → Put o s.at (text_if (roomy (length o) s.at) (answer_line step answer int)) at o' → at ≤ s.at + answer_room → end' ≡ line_end block (end + 1)
      → Going block s₀ m₀ o₀ (record { part = p; step = step; from = end + 1; at = at }) m' o' end'
  unfolding bytes desk_at after_all replies_to after_one reply_to text_if
  going_on_lem answer p int m' o' step at end' i replied left n level put fits e =
      let d = desk_of s.part m s.step in
      let d' = desk_of p m' step in
      let line = answer_line step answer int in
      let after : after_one d bytes ≡ d' = ap (λ (x : State). desk_at x (number_after s.step)) (sym left) ∙ ap (desk_at (start p m')) (sym n) in
      let text : reply_to d bytes ≡ line =
      rw (← n, ← replied) (ap (λ (x : State). answer_line step answer (interrupt_of x.part)) (sym left) ∙ ap (answer_line step answer) (sym level)) in
      let new : Put o s.at line at o' = rw (room_here i) at put in
      let a = end_after block s.from in
      let z = put-length o s.at line at o' new in
      record {
        whole = subst (λ (x : State). Whole x.part x.memory) (sym left) (line_whole s.part m (line_of bytes) w.whole);
        told = w.told ++ line;
        texts =
            w.texts
            ∙ ap (λ (x : List (List ℕ)). w.told ++ replies_to d x) (next i)
            ∙ ap (λ (x : List ℕ). w.told ++ (x ++ replies_to (after_one d bytes) (lines_from block (end + 1)))) text
            ∙ ap (λ (x : Desk). w.told ++ (line ++ replies_to x (lines_from block (end + 1)))) after
            ∙ sym (append_assoc w.told line (replies_to d' (lines_from block (end + 1))));
        ends = w.ends ∙ ap (after_all d) (next i) ∙ ap (λ (x : Desk). after_all x (lines_from block (end + 1))) after;
        rests = w.rests ∙ next_rest_of i;
        put = put_then w.put new;
        room = omega (arith, w.room, fits, a, i, w.here, z);
        here = e;
        inside = omega (arith, i);
      }

  pub going_done : length block ≤ end → Answered block s₀ m₀ o₀ s m o
  unfolding after_all replies_to line_end
  going_done i =
      let n = length-drop s.from block in
      let q = w.here in
      let all : length (drop s.from block) ≤ first_lf (drop s.from block) = omega (arith, i, n, q) in
      let none : lines_from block s.from ≡ [] = no_line-ends [] (drop s.from block) all in
      let d₀ = desk_of s₀.part m₀ s₀.step in
      let d = desk_of s.part m s.step in
      let texts : replies_to d₀ (lines_from block s₀.from) ≡ w.told =
      w.texts ∙ ap (λ (x : List (List ℕ)). w.told ++ replies_to d x) none ∙ append-nil w.told in
      record {
        desk = sym (w.ends ∙ ap (after_all d) none);
        text = rw texts w.put;
        rest = sym (w.rests ∙ all_rest [] (drop s.from block) all);
        inside = w.inside;
        fits = omega (arith, w.room);
      }
