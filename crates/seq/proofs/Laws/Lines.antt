-- The lines of a text, one by one.
use Rattle.std.specs.Prelude.{ℕ, ◌+◌, ◌-◌, ◌<◌, ◌≤◌, Bool, true, false, List, [], ◌∷◌, ◌≡◌, refl, ltb, eqb, length, take, drop, Option}
use Rattle.std.proofs.Common.{sym, ◌∙◌, arith, ltb-true, ltb-false, length-drop, drop_of_length-le, drop-drop, take_all, ne_eqb}
use Rattle.std.proofs.Math.Path.{ap}
use Rattle.std.proofs.Math.Nat.{add-sub_cancel_left}
use Rattle.laws.specs.Cases.{pick-false}
use Rattle.rules.specs.Numbers.{done}
use Rattle.rules.specs.declared.parts.Device.TheVariants.{Pca9663}
use Rattle.part.specs.declared.state.Part.{Part}
use Rattle.part.specs.State.{fresh_part}
use Rattle.steps.specs.declared.answer.PartAnswer.{PartAnswer}
use Rattle.mixes.specs.Mix.{ends}
use Rattle.independent.specs.Statement.{State}
use Rattle.steps.specs.declared.map.Step.{Step}
use Rattle.script.specs.Grammar.{line_of}
use Rattle.runner.specs.Run.{start, the_script, line_answer, after_line}
use Rattle.runner.specs.Lines.{first_lf, line_end}
use Rattle.runner.specs.Text.{ended_lines, rest_of, last_line, lines_of}
use Rattle.runner.proofs.Laws.Feeding.{next_line, next_rest, no_line-ends, all_rest}
use Rattle.seq.specs.declared.lines.Refused.{Refused}
use Rattle.seq.specs.declared.lines.Tally.{Tally}
use Rattle.seq.specs.Lines.{none_yet, first_of, counted, tallied, Runs}

-- ---- a refused line counts
pub counted_refused : (t : Tally) (n : ℕ) (f : Option Refused) → (n ≡ done → ⊥) → f ≡ first_of t n
    → record { lines = t.lines + 1; refused = t.refused + 1; first = f } ≡ counted t n
unfolding counted
counted_refused t n f d e =
    let a : Tally = record { lines = t.lines + 1; refused = t.refused; first = t.first } in
    let b : Tally = record { lines = t.lines + 1; refused = t.refused + 1; first = first_of t n } in
    pick-false (eqb n done) (record { lines = t.lines + 1; refused = t.refused + 1; first = f }) a b (ne_eqb n done d)
    (ap (λ (x : Option Refused). record { lines = t.lines + 1; refused = t.refused + 1; first = x }) e)

-- ---- the next line: up to the first LF, or to the end
last_line_lem : (l : List ℕ) → 0 < length l → last_line l ≡ l ∷ []
last_line_lem [] h = absurd (omega (arith, h))
last_line_lem (b ∷ l) h = refl

by_end : (l : List ℕ) (t : Bool) → ltb (first_lf l) (length l) ≡ t → 0 < length l → lines_of l ≡ take (first_lf l) l ∷ lines_of (drop (first_lf l + 1) l)
unfolding ended_lines rest_of
by_end l true e h =
    let i = ltb-true (first_lf l) (length l) e in
    rw (next_line [] l i, next_rest [] l i)
by_end l false e h =
    let i : length l ≤ first_lf l = ltb-false (first_lf l) (length l) e in
    let past : length l ≤ first_lf l + 1 = omega arith in
    let none : drop (first_lf l + 1) l ≡ [] = drop_of_length-le l past in
    rw (no_line-ends [] l i, all_rest [] l i, none, take_all (first_lf l) l i, last_line_lem l h)

pub lines_next : (text : List ℕ) (from end : ℕ) → from < length text → end ≡ line_end text from
    → lines_of (drop from text) ≡ take (end - from) (drop from text) ∷ lines_of (drop (end + 1) text)
unfolding line_end
lines_next text from end h e =
    let l = drop from text in
    let n = length-drop from text in
    let size : end - from ≡ first_lf l = ap (λ (x : ℕ). x - from) e ∙ add-sub_cancel_left from _ in
    let next : end + 1 ≡ from + (first_lf l + 1) = omega (arith, e) in
    by_end l (ltb (first_lf l) (length l)) refl (omega (arith, n, h))
    ∙ rw (size, next, drop-drop (first_lf l + 1) from)

pub lines_none : (text : List ℕ) (from : ℕ) → length text ≤ from → lines_of (drop from text) ≡ []
unfolding ended_lines rest_of
lines_none text from h = rw (drop_of_length-le text h)

-- ---- the loop: what is left to do gives what all gives
pub record Going (text : List ℕ) (s₀ : State) (t₀ : Tally) (p : Part) (m : List ℕ) (t : Tally) (from : ℕ) : Type 0 where
  pub state : ends the_script s₀ (lines_of text) ≡ ends the_script (start p m) (lines_of (drop from text))
  pub tally : tallied s₀ t₀ (lines_of text) ≡ tallied (start p m) t (lines_of (drop from text))
  pub few : t.lines ≤ from
  pub fewer : t.refused ≤ t.lines

module _ (text : List ℕ) (s₀ : State) (t₀ : Tally) (p : Part) (m : List ℕ) (t : Tally) (from : ℕ) (g : Going text s₀ t₀ p m t from) where
  pub going_on_lem : (end : ℕ) (line : Option Step) (p' : Part) (a : PartAnswer) (m' : List ℕ) (t' : Tally) → from < length text → end ≡ line_end text from
      → line ≡ line_of (take (end - from) (drop from text)) → start p' m' ≡ after_line (start p m) line → a ≡ line_answer (start p m) line
      → t' ≡ counted t a.number → t'.lines ≡ t.lines + 1 → t'.refused ≤ t'.lines → from ≤ end → Going text s₀ t₀ p' m' t' (end + 1)
  unfolding tallied
  going_on_lem end line p' a m' t' h e read after said count n k le =
      let next = lines_next text from end h e in
      let rest = lines_of (drop (end + 1) text) in
      record {
        state =
            g.state
            ∙ ap (ends the_script (start p m)) next
            ∙ ap (λ (x : Option Step). ends the_script (after_line (start p m) x) rest) (sym read)
            ∙ ap (λ (x : State). ends the_script x rest) (sym after);
        tally =
            g.tally
            ∙ ap (tallied (start p m) t) next
            ∙ ap (λ (x : Option Step). tallied (after_line (start p m) x) (counted t (line_answer (start p m) x).number) rest) (sym read)
            ∙ ap (λ (x : State). tallied x (counted t (line_answer (start p m) line).number) rest) (sym after)
            ∙ ap (λ (x : PartAnswer). tallied (start p' m') (counted t x.number) rest) (sym said)
            ∙ ap (λ (x : Tally). tallied (start p' m') x rest) (sym count);
        few = omega (arith, n, le, g.few);
        fewer = k;
      }

pub going_done : (text m₀ m : List ℕ) (p₀ p : Part) (t₀ t : Tally) (from : ℕ) → Going text (start p₀ m₀) t₀ p m t from → length text ≤ from
    → p₀ ≡ fresh_part Pca9663 → t₀ ≡ none_yet → Runs text m₀ (record { part = p; tally = t }) m
unfolding tallied
going_done text m₀ m p₀ p t₀ t from g h fresh none =
    let left = lines_none text from h in
    record {
      state = sym (ap (λ (x : Part). ends the_script (start x m₀) (lines_of text)) (sym fresh) ∙ g.state ∙ ap (ends the_script (start p m)) left);
      tally =
          sym (ap (λ (x : Part). tallied (start x m₀) none_yet (lines_of text)) (sym fresh)
          ∙ ap (λ (x : Tally). tallied (start p₀ m₀) x (lines_of text)) (sym none)
          ∙ g.tally
          ∙ ap (tallied (start p m) t) left);
    }
