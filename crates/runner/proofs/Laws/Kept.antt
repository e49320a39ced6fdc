-- What is kept between two pieces of the input is enough: it says the same, goes on the same and ends the same.
use Rattle.std.specs.Prelude.{ℕ, zero, suc, ◌+◌, ◌<◌, ◌≤◌, Bool, true, false, ◌≡◌, eqb, length, take, drop}
use Rattle.part.specs.Facts.{Whole}
use mathlib.Core.List.{List, [], ◌∷◌, ◌++◌}
use Rattle.std.proofs.Math.Path.{refl, ap}
use Rattle.std.proofs.Common.{◌∙◌, arith, length-take, take_all}
use Rattle.std.proofs.lemmas.List.Edits.{sets-eq}
use Rattle.std.proofs.Math.Seq.{take-append_seam}
use Rattle.script.specs.Grammar.{line_room}
use Rattle.answers.specs.Answer.{Put}
use Rattle.runner.specs.Text.{ended_lines, rest_of, last_line, Desk, Sitting, after_one, after_all, replies_to, fed, said, last_said}
use Rattle.runner.specs.Lines.{first_lf}
use Rattle.runner.specs.Feeding.{shortened}
use Rattle.runner.proofs.Laws.Feeding.{no_line-ends, all_rest, after_whole-one, put-length}
use Rattle.runner.proofs.Laws.Lines.{read_in_pieces, first_more}
use Rattle.runner.proofs.Laws.Text.{fed-split, said-split, Alike, same_replies, same_after, alike_reply}

first_twice : (l : List ℕ) → take line_room (take line_room l) ≡ take line_room l
first_twice l = let n = length-take line_room l in take_all line_room (take line_room l) (omega (arith, n))

same_rest : (k l rest : List ℕ) → take line_room k ≡ take line_room l → take line_room (rest_of k rest) ≡ take line_room (rest_of l rest)
unfolding rest_of
same_rest k l [] h = h
same_rest k l (b ∷ rest) h = cases (eqb b 10) refl (same_rest (k ++ (b ∷ [])) (l ++ (b ∷ [])) rest (first_more k l b h))
  where
    cases : (t : Bool) → eqb b 10 ≡ t → take line_room (rest_of (k ++ (b ∷ [])) rest) ≡ take line_room (rest_of (l ++ (b ∷ [])) rest)
        → take line_room (rest_of k (b ∷ rest)) ≡ take line_room (rest_of l (b ∷ rest))
    cases true e i = rw e
    cases false e i = rw e i

alike_first : (l : List ℕ) → Alike (take line_room l) l
alike_first l x = read_in_pieces l x

-- ---- WHAT IS KEPT IS ENOUGH
module _ (s : Sitting) where
  pub shortened-said : (l : List ℕ) → said (shortened s) l ≡ said s l
  unfolding said
  shortened-said l = same_replies s.desk (take line_room s.line) s.line l (alike_first s.line)

  pub shortened-fed : (l : List ℕ) → shortened (fed (shortened s) l) ≡ shortened (fed s l)
  unfolding fed
  shortened-fed l =
      rw (same_after s.desk (take line_room s.line) s.line l (alike_first s.line), same_rest (take line_room s.line) s.line l (first_twice s.line))

  pub shortened_last : last_said (shortened s) ≡ last_said s
  unfolding line_room last_said replies_to
  shortened_last = by_line s.line
    where
      by_line : (l : List ℕ) → replies_to s.desk (last_line (take line_room l)) ≡ replies_to s.desk (last_line l)
      by_line [] = refl
      by_line (b ∷ l) = ap (λ (t : List ℕ). t ++ []) (alike_reply s.desk (take line_room (b ∷ l)) (b ∷ l) (alike_first (b ∷ l)))

-- ---- a line that has begun has no LF
more_unended : (k : List ℕ) (b : ℕ) → length k ≤ first_lf k → eqb b 10 ≡ false → length (k ++ (b ∷ [])) ≤ first_lf (k ++ (b ∷ []))
more_unended [] b h e = rw e (omega arith)
more_unended (x ∷ k) b h e = cases (eqb x 10) refl (λ i. more_unended k b i e)
  where
    cases : (t : Bool) → eqb x 10 ≡ t → (length k ≤ first_lf k → length (k ++ (b ∷ [])) ≤ first_lf (k ++ (b ∷ [])))
        → length ((x ∷ k) ++ (b ∷ [])) ≤ first_lf ((x ∷ k) ++ (b ∷ []))
    cases true d f = absurd (omega (arith, rw d at h))
    cases false d f = rw d (let g = f (omega (arith, rw d at h)) in omega (arith, g))

pub rest_unended : (line l : List ℕ) → length line ≤ first_lf line → length (rest_of line l) ≤ first_lf (rest_of line l)
unfolding rest_of
rest_unended line [] h = h
rest_unended line (b ∷ l) h = cases (eqb b 10) refl (rest_unended [] l (omega arith)) (λ i. rest_unended (line ++ (b ∷ [])) l i)
  where
    cases : (t : Bool) → eqb b 10 ≡ t → length (rest_of [] l) ≤ first_lf (rest_of [] l)
        → (length (line ++ (b ∷ [])) ≤ first_lf (line ++ (b ∷ [])) → length (rest_of (line ++ (b ∷ [])) l) ≤ first_lf (rest_of (line ++ (b ∷ [])) l))
        → length (rest_of line (b ∷ l)) ≤ first_lf (rest_of line (b ∷ l))
    cases true e f g = rw e f
    cases false e f g = rw e (g (more_unended line b h e))

pub take_unended : (n : ℕ) (l : List ℕ) → length l ≤ first_lf l → length (take n l) ≤ first_lf (take n l)
take_unended zero l h = omega arith
take_unended (suc n) [] h = omega arith
take_unended (suc n) (x ∷ l) h = cases (eqb x 10) refl (λ i. take_unended n l i)
  where
    cases : (t : Bool) → eqb x 10 ≡ t → (length l ≤ first_lf l → length (take n l) ≤ first_lf (take n l)) → length (x ∷ take n l) ≤ first_lf (x ∷ take n l)
    cases true e f = absurd (omega (arith, rw e at h))
    cases false e f = rw e (let g = f (omega (arith, rw e at h)) in omega (arith, g))

-- so its bytes can as well be read again, before those that follow
module _ (d : Desk) (k l : List ℕ) (h : length k ≤ first_lf k) where
  begun : fed (record { desk = d; line = [] }) k ≡ record { desk = d; line = k }
  unfolding fed after_all
  begun = rw (no_line-ends [] k h, all_rest [] k h)

  pub again_fed : fed (record { desk = d; line = [] }) (k ++ l) ≡ fed (record { desk = d; line = k }) l
  again_fed = fed-split (record { desk = d; line = [] }) k l ∙ ap (λ (s : Sitting). fed s l) begun

  silent : said (record { desk = d; line = [] }) k ≡ []
  unfolding said replies_to
  silent = rw (no_line-ends [] k h)

  pub again_said : said (record { desk = d; line = [] }) (k ++ l) ≡ said (record { desk = d; line = k }) l
  again_said =
      said-split (record { desk = d; line = [] }) k l
      ∙ ap (λ (t : List ℕ). t ++ said (fed (record { desk = d; line = [] }) k) l) silent
      ∙ ap (λ (s : Sitting). said s l) begun

-- ---- the end of the input is like an LF, if the line has a byte
pub end_said : (d : Desk) (k : List ℕ) → 0 < length k → said (record { desk = d; line = k }) (10 ∷ []) ≡ last_said (record { desk = d; line = k })
unfolding said last_said ended_lines
end_said d [] h = absurd (omega (arith, h))
end_said d (b ∷ k) h = refl

pub none_said : (d : Desk) (k : List ℕ) → length k ≡ 0 → last_said (record { desk = d; line = k }) ≡ []
unfolding last_said replies_to
none_said d [] h = refl
none_said d (b ∷ k) h = absurd (omega (arith, h))

-- ---- a text that is put at the start is what the output begins with
pub put_text : (o text : List ℕ) (at : ℕ) (o' : List ℕ) → Put o 0 text at o' → at ≤ length o' → take at o' ≡ text
put_text o text at o' w h =
    let n : at ≡ length text = w.place ∙ omega arith in
    let z = put-length o 0 text at o' w in
    rw (n, w.bytes, sets-eq text o 0 (omega (arith, n, z, h))) (take-append_seam text (drop (0 + length text) o))

-- ---- no. 9 refuses nothing on the way
pub after_whole : (d : Desk) (k : List (List ℕ)) → Whole d.state.part d.state.memory → Whole (after_all d k).state.part (after_all d k).state.memory
unfolding after_all
after_whole d [] w = w
after_whole d (l ∷ k) w = after_whole (after_one d l) k (after_whole-one d l w)
