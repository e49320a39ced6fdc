-- Where a line ends, and that one which came in pieces is read as the whole line is.
use Rattle.std.specs.Prelude.{ℕ, ◌+◌, ◌-◌, ◌<◌, ◌≤◌, Bool, true, false, List, [], ◌∷◌, ◌++◌, ◌≡◌, refl, eqb, leb, ltb, length, min, take, drop, set, cond, Option, Some, None, if◌then◌else◌}
use Rattle.std.proofs.Common.{append-nil, append_assoc, sym, ◌∙◌, subst, ltb-true, ltb-false, leb-true, leb-false, length-append, length-take, length-set, drop-drop, length-take-le, take_all, take-suc-set}
use Rattle.std.proofs.Math.Path.{ap}
use Rattle.std.proofs.Math.Numerals.{add-one}
use native.Mathlib.Omega.{arith}
use Rattle.std.proofs.Math.ListN.{length-drop}
use Rattle.std.proofs.lemmas.List.{length-replicate, take-append-le}
use Rattle.std.proofs.lemmas.List.Edits.{sets, sets-eq}
use Rattle.std.proofs.Math.Seq.{drop-append_seam, take-append-add, take-append_seam, take-nil}
use Rattle.std.specs.List.{position_or_len}
use Rattle.std.proofs.lemmas.List.Recursion.{is_position_or_len}
use Rattle.laws.specs.Cases.{pick_holds}
use Rattle.script.specs.Grammar.{line_room, line_of}
use Rattle.script.proofs.Laws.Grammar.{first_bytes_lem}
use Rattle.runner.specs.declared.lines.Start.{Start}
use Rattle.runner.specs.Lines.{first_lf, line_end, no_line, with_byte, lengthened, kept_of, kept_bytes}

-- ---- the end of a line
first_lf_in : (l : List ℕ) → first_lf l ≤ length l
first_lf_in [] = omega arith
first_lf_in (b ∷ l) = pick_holds (λ (n : ℕ). n ≤ length (b ∷ l)) (eqb b 10) (λ _. omega arith) (λ _. let h = first_lf_in l in omega (arith, h))

module _ (block : List ℕ) (from : ℕ) where
  pub end_after : from ≤ line_end block from
  unfolding line_end
  end_after = omega arith

  pub end_in : from ≤ length block → line_end block from ≤ length block
  unfolding line_end
  end_in h = let k = first_lf_in (drop from block) in let n = length-drop from block in omega (arith, h, k, n)

-- an LF that `position` finds is the first, and where it finds none the bytes have none
first_is : (l : List ℕ) → first_lf l ≡ position_or_len (λ (b : ℕ). eqb b 10) l
first_is = is_position_or_len first_lf (λ (b : ℕ). eqb b 10) refl (λ x l. cases (eqb x 10) (first_lf l))
  where
    cases : (t : Bool) (n : ℕ) → (if t then 0 else n + 1) ≡ cond t 0 (1 + n)
    cases true n = refl
    cases false n = omega arith

module _ (l : List ℕ) (r : Option ℕ)
    (e : r ≡ cond (ltb (position_or_len (λ (b : ℕ). eqb b 10) l) (length l)) (Some (position_or_len (λ (b : ℕ). eqb b 10) l)) None) where
  pub lf_found : (n : ℕ) → r ≡ Some n → n ≡ first_lf l
  lf_found n f = cases (ltb (position_or_len (λ (b : ℕ). eqb b 10) l) (length l)) (sym f ∙ e)
    where
      cases : (t : Bool) → Some n ≡ cond t (Some (position_or_len (λ (b : ℕ). eqb b 10) l)) None → n ≡ first_lf l
      cases true g = let i = first_is l in cc
      cases false g = cc

  pub no_lf : r ≡ None → first_lf l ≡ length l
  no_lf f = cases (ltb (position_or_len (λ (b : ℕ). eqb b 10) l) (length l)) refl (sym f ∙ e)
    where
      cases : (t : Bool) → ltb (position_or_len (λ (b : ℕ). eqb b 10) l) (length l) ≡ t → None ≡ cond t (Some (position_or_len (λ (b : ℕ). eqb b 10) l)) None
          → first_lf l ≡ length l
      cases true q g = cc
      cases false q g = let h = ltb-false _ _ q in let i = first_is l in let k = first_lf_in l in omega (arith, h, i, k)

-- ---- bytes that are put somewhere, and those that follow them
behind_put : (k l : List ℕ) (a : ℕ) → a + length k ≤ length l → drop a (sets l a k) ≡ k ++ drop (a + length k) l
behind_put k l a h =
    let front : length (take a l) ≡ a = length-take-le a l (omega (arith, h)) in
    let rest = k ++ drop (a + length k) l in
    ap (drop a) (sets-eq k l a h ∙ append_assoc (take a l) k (drop (a + length k) l))
    ∙ ap (λ (x : ℕ). drop x (take a l ++ rest)) (sym front) ∙ drop-append_seam (take a l) rest

-- n bytes right before place `line_room`
pub put_before : (k block : List ℕ) (n till : ℕ) → length k ≡ n → n ≤ line_room → line_room ≤ till → till ≤ length block
    → take (till - (line_room - n)) (drop (line_room - n) (sets block (line_room - n) k)) ≡ k ++ take (till - line_room) (drop line_room block)
put_before k block n till e h i j =
    let a = line_room - n in
    let seam : a + length k ≡ line_room = omega (arith, e, h) in
    let behind : drop a (sets block a k) ≡ k ++ drop line_room block =
    behind_put k block a (omega (arith, seam, i, j)) ∙ ap (λ (x : ℕ). k ++ drop x block) seam in
    let size : till - a ≡ length k + (till - line_room) = omega (arith, e, h, i) in
    ap (take (till - a)) behind ∙ ap (λ (x : ℕ). take x (k ++ drop line_room block)) size ∙ take-append-add k (drop line_room block) (till - line_room)

-- and those from there on stay
pub put_stays : (k block : List ℕ) (n : ℕ) → length k ≡ n → n ≤ line_room → line_room ≤ length block → drop line_room (sets block (line_room - n) k) ≡ drop line_room block
put_stays k block n e h i =
    let a = line_room - n in
    let seam : a + length k ≡ line_room = omega (arith, e, h) in
    let t : a + n ≡ line_room = omega (arith, h) in
    let behind : drop a (sets block a k) ≡ k ++ drop line_room block =
    behind_put k block a (omega (arith, seam, i)) ∙ ap (λ (x : ℕ). k ++ drop x block) seam in
    ap (λ (x : ℕ). drop x (sets block a k)) (sym t)
    ∙ sym (drop-drop n a (sets block a k))
    ∙ ap (drop n) behind
    ∙ ap (λ (x : ℕ). drop x (k ++ drop line_room block)) (sym e)
    ∙ drop-append_seam k (drop line_room block)

-- one byte there
pub put_one : (block : List ℕ) (x : ℕ) → line_room + 1 ≤ length block → take 1 (drop line_room (sets block line_room (x ∷ []))) ≡ x ∷ []
put_one block x h = ap (take 1) (behind_put (x ∷ []) block line_room h) ∙ take-append_seam (x ∷ []) (drop (line_room + 1) block)

-- ---- what is kept of the bytes l: the first `line_room`
record Keeps (s : Start) (l : List ℕ) : Type 0 where
  count : s.len ≡ length (take line_room l)
  room : length s.bytes ≡ line_room
  bytes : take s.len s.bytes ≡ take line_room l

keeps_none : Keeps no_line []
keeps_none = record { count = ap length (sym (take-nil line_room)); room = length-replicate {A = ℕ} line_room 0; bytes = sym (take-nil line_room) }

module _ (s : Start) (l : List ℕ) (b : ℕ) (k : Keeps s l) where
  -- a byte that is kept
  kept_byte : s.len < line_room → Keeps (record { bytes = set s.bytes s.len b; len = s.len + 1 }) (l ++ (b ∷ []))
  kept_byte h =
      let n = length-take line_room l in
      let q : length l < line_room = omega (arith, k.count, n, h) in
      let whole : take line_room l ≡ l = take_all line_room l (omega arith) in
      let size : length (l ++ (b ∷ [])) ≡ length l + 1 = length-append l (b ∷ []) in
      let more : take line_room (l ++ (b ∷ [])) ≡ l ++ (b ∷ []) = take_all line_room (l ++ (b ∷ [])) (omega (arith, size, q)) in
      let at : s.len ≡ length l = k.count ∙ ap length whole in
      let inside : s.len < length s.bytes = omega (arith, k.room, h) in
      record {
        count = omega (arith, at, size, ap length more);
        room = length-set s.bytes s.len b ∙ k.room;
        bytes =
            ap (λ (n : ℕ). take n (set s.bytes s.len b)) (add-one s.len)
            ∙ take-suc-set s.bytes s.len b inside
            ∙ ap (λ (t : List ℕ). t ++ (b ∷ [])) (k.bytes ∙ whole)
            ∙ sym more;
      }

  -- a byte past those
  past_byte : line_room ≤ s.len → Keeps s (l ++ (b ∷ []))
  past_byte h =
      let n = length-take line_room l in
      let q : line_room ≤ length l = omega (arith, k.count, n, h) in
      let same : take line_room (l ++ (b ∷ [])) ≡ take line_room l = take-append-le line_room l (b ∷ []) q in
      record { count = k.count ∙ ap length (sym same); room = k.room; bytes = k.bytes ∙ sym same }

  with_byte_lem : Keeps (with_byte s b) (l ++ (b ∷ []))
  unfolding with_byte
  with_byte_lem = pick_holds (λ (t : Start). Keeps t (l ++ (b ∷ []))) (ltb s.len line_room) (λ t. kept_byte (ltb-true _ _ t)) (λ t. past_byte (ltb-false _ _ t))

keeps_more : (s : Start) (l rest : List ℕ) → Keeps s l → Keeps (lengthened s rest) (l ++ rest)
keeps_more s l [] k = subst (Keeps s) (sym (append-nil l)) k
keeps_more s l (b ∷ rest) k = subst (Keeps (lengthened s (b ∷ rest))) (append_assoc l (b ∷ []) rest) (keeps_more (with_byte s b) (l ++ (b ∷ [])) rest (with_byte_lem s l b k))

pub kept_few : (n : ℕ) → n ≤ line_room → kept_of n ≡ n
unfolding kept_of
kept_few n h = pick_holds (λ (x : ℕ). x ≡ n) (ltb n line_room) (λ _. refl) (λ t. let g = ltb-false n line_room t in omega arith)

pub kept_min : (n : ℕ) → min n line_room ≡ kept_of n
unfolding kept_of
kept_min n = pick_holds (λ (x : ℕ). min n line_room ≡ x) (ltb n line_room) (λ t. let h = ltb-true n line_room t in omega arith) (λ t. let h = ltb-false n line_room t in omega arith)

-- of a line's first bytes and what follows, the first are those of the line
first_and : (a b : List ℕ) (w : Bool) → leb line_room (length a) ≡ w → take line_room (take line_room a ++ b) ≡ take line_room (a ++ b)
first_and a b true e =
    let h = leb-true line_room (length a) e in
    let n : length (take line_room a) ≡ line_room = length-take line_room a ∙ omega arith in
    take-append-le line_room (take line_room a) b (omega (arith, n)) ∙ take_all line_room (take line_room a) (omega (arith, n)) ∙ sym (take-append-le line_room a b h)
first_and a b false e = let h = leb-false line_room (length a) e in ap (λ (x : List ℕ). take line_room (x ++ b)) (take_all line_room a (omega arith))

-- of a line so many bytes are kept as are there, `line_room` at most, and they are its first
pub kept_first : (a : List ℕ) → kept_bytes (lengthened no_line a) ≡ take line_room a
kept_first a =
    let s = lengthened no_line a in
    let k = keeps_more no_line [] a keeps_none in
    let n = length-take line_room a in
    let e : kept_of s.len ≡ s.len = kept_few s.len (omega (arith, k.count, n)) in
    ap (λ (j : ℕ). take j s.bytes) e ∙ k.bytes

-- A LINE IN TWO PIECES: the first `line_room` bytes of the first, with the second behind it, are read as the whole line
pub read_in_pieces : (a b : List ℕ) → line_of (take line_room a ++ b) ≡ line_of (a ++ b)
read_in_pieces a b =
    sym (first_bytes_lem (take line_room a ++ b))
    ∙ ap line_of (first_and a b (leb line_room (length a)) refl)
    ∙ first_bytes_lem (a ++ b)

-- two lines with the same first bytes have them with one more
pub first_more : (k l : List ℕ) (b : ℕ) → take line_room k ≡ take line_room l → take line_room (k ++ (b ∷ [])) ≡ take line_room (l ++ (b ∷ []))
first_more k l b h =
    sym (first_and k (b ∷ []) (leb line_room (length k)) refl)
    ∙ ap (λ (t : List ℕ). take line_room (t ++ (b ∷ []))) h
    ∙ first_and l (b ∷ []) (leb line_room (length l)) refl
