-- The input may come in any pieces: where a script stands, and what it says, is the same.
use Rattle.std.specs.Prelude.{ℕ, Bool, true, false, List, [], ◌∷◌, ◌++◌, ◌≡◌, refl, eqb, Option}
use Rattle.std.proofs.Common.{append_assoc, append-nil, sym, ◌∙◌, ap}
use Rattle.script.specs.Grammar.{line_of}
use Rattle.steps.specs.declared.map.Step.{Step}
use Rattle.answers.specs.Answer.{header}
use Rattle.runner.specs.Run.{after_line}
use Rattle.runner.specs.Text.{ended_lines, rest_of, Desk, after_one, reply_to, after_all, replies_to, Sitting, fed, said, number_after, last_line, reset, output_of, last_said, opening}

-- ---- lines
ended_split : (line a b : List ℕ) → ended_lines line (a ++ b) ≡ ended_lines line a ++ ended_lines (rest_of line a) b
unfolding ended_lines rest_of
ended_split line [] b = refl
ended_split line (x ∷ a) b = cases (eqb x 10) refl (ended_split [] a b) (ended_split (line ++ (x ∷ [])) a b)
  where
    cases : (t : Bool) → eqb x 10 ≡ t → ended_lines [] (a ++ b) ≡ ended_lines [] a ++ ended_lines (rest_of [] a) b
        → ended_lines (line ++ (x ∷ [])) (a ++ b) ≡ ended_lines (line ++ (x ∷ [])) a ++ ended_lines (rest_of (line ++ (x ∷ [])) a) b
        → ended_lines line ((x ∷ a) ++ b) ≡ ended_lines line (x ∷ a) ++ ended_lines (rest_of line (x ∷ a)) b
    cases true e h i = rw e (ap (λ (k : List (List ℕ)). line ∷ k) h)
    cases false e h i = rw e i

rest_split : (line a b : List ℕ) → rest_of line (a ++ b) ≡ rest_of (rest_of line a) b
unfolding rest_of
rest_split line [] b = refl
rest_split line (x ∷ a) b = cases (eqb x 10) refl (rest_split [] a b) (rest_split (line ++ (x ∷ [])) a b)
  where
    cases : (t : Bool) → eqb x 10 ≡ t → rest_of [] (a ++ b) ≡ rest_of (rest_of [] a) b → rest_of (line ++ (x ∷ [])) (a ++ b) ≡ rest_of (rest_of (line ++ (x ∷ [])) a) b
        → rest_of line ((x ∷ a) ++ b) ≡ rest_of (rest_of line (x ∷ a)) b
    cases true e h i = rw e h
    cases false e h i = rw e i

-- ---- what they do
after_split : (d : Desk) (k l : List (List ℕ)) → after_all d (k ++ l) ≡ after_all (after_all d k) l
unfolding after_all
after_split d [] l = refl
after_split d (x ∷ k) l = after_split (after_one d x) k l

replies_split : (d : Desk) (k l : List (List ℕ)) → replies_to d (k ++ l) ≡ replies_to d k ++ replies_to (after_all d k) l
unfolding after_all replies_to
replies_split d [] l = refl
replies_split d (x ∷ k) l =
    ap (λ (t : List ℕ). reply_to d x ++ t) (replies_split (after_one d x) k l) ∙ sym (append_assoc (reply_to d x) (replies_to (after_one d x) k) (replies_to (after_all (after_one d x) k) l))

-- ---- PIECES
pub fed-split : (s : Sitting) (a b : List ℕ) → fed s (a ++ b) ≡ fed (fed s a) b
unfolding fed
fed-split s a b =
    rw (ended_split s.line a b, rest_split s.line a b, after_split s.desk (ended_lines s.line a) (ended_lines (rest_of s.line a) b))

pub said-split : (s : Sitting) (a b : List ℕ) → said s (a ++ b) ≡ said s a ++ said (fed s a) b
unfolding fed said
said-split s a b =
    ap (replies_to s.desk) (ended_split s.line a b) ∙ replies_split s.desk (ended_lines s.line a) (ended_lines (rest_of s.line a) b)

-- THE OUTPUT of all that was fed, and of an input in two pieces, cut anywhere
pub output_said : (input : List ℕ) → output_of input ≡ header ++ (said opening input ++ last_said (fed opening input))
unfolding output_of fed said last_said
output_said input = ap (λ (t : List ℕ). header ++ t) (replies_split reset (ended_lines [] input) (last_line (rest_of [] input)))

pub output_in_two : (a b : List ℕ) → let s = fed opening a in output_of (a ++ b) ≡ header ++ ((said opening a ++ said s b) ++ last_said (fed s b))
output_in_two a b = output_said (a ++ b) ∙ rw (said-split opening a b, fed-split opening a b)

-- ---- what is kept of a line: two starts that every end is read alike behind do the same
abbrev pub Alike : List ℕ → List ℕ → Type 0
Alike k l = (x : List ℕ) → line_of (k ++ x) ≡ line_of (l ++ x)

alike_more : (k l : List ℕ) (b : ℕ) → Alike k l → Alike (k ++ (b ∷ [])) (l ++ (b ∷ []))
alike_more k l b h x = ap line_of (append_assoc k (b ∷ []) x) ∙ h (b ∷ x) ∙ ap line_of (sym (append_assoc l (b ∷ []) x))

alike_line : (k l : List ℕ) → Alike k l → line_of k ≡ line_of l
alike_line k l h = ap line_of (sym (append-nil k)) ∙ h [] ∙ ap line_of (append-nil l)

pub same_replies : (d : Desk) (k l rest : List ℕ) → Alike k l → replies_to d (ended_lines k rest) ≡ replies_to d (ended_lines l rest)
unfolding replies_to ended_lines reply_to after_one
same_replies d k l [] h = refl
same_replies d k l (b ∷ rest) h = cases (eqb b 10) refl (same_replies d (k ++ (b ∷ [])) (l ++ (b ∷ [])) rest (alike_more k l b h))
  where
    cases : (t : Bool) → eqb b 10 ≡ t → replies_to d (ended_lines (k ++ (b ∷ [])) rest) ≡ replies_to d (ended_lines (l ++ (b ∷ [])) rest)
        → replies_to d (ended_lines k (b ∷ rest)) ≡ replies_to d (ended_lines l (b ∷ rest))
    cases true e i = rw (e, alike_line k l h)
    cases false e i = rw e i

pub alike_reply : (d : Desk) (k l : List ℕ) → Alike k l → reply_to d k ≡ reply_to d l
unfolding reply_to
alike_reply d k l h = rw (alike_line k l h)

pub same_after : (d : Desk) (k l rest : List ℕ) → Alike k l → after_all d (ended_lines k rest) ≡ after_all d (ended_lines l rest)
unfolding after_all ended_lines after_one
same_after d k l [] h = refl
same_after d k l (b ∷ rest) h = cases (eqb b 10) refl (same_after d (k ++ (b ∷ [])) (l ++ (b ∷ [])) rest (alike_more k l b h))
  where
    cases : (t : Bool) → eqb b 10 ≡ t → after_all d (ended_lines (k ++ (b ∷ [])) rest) ≡ after_all d (ended_lines (l ++ (b ∷ [])) rest)
        → after_all d (ended_lines k (b ∷ rest)) ≡ after_all d (ended_lines l (b ∷ rest))
    cases true e i = rw e (ap (λ (t : Option Step). after_all (record { state = after_line d.state t; step = number_after d.step }) (ended_lines [] rest)) (alike_line k l h))
    cases false e i = rw e i
