-- The laws of the tables' definitions, one for each way that a loop goes on or ends; and what a frame that fits says of a place.
use Rattle.std.specs.Prelude.{Bool, true, false, not, List, ◌≡◌, refl, ℕ, zero, suc, ◌+◌, ◌-◌, ◌<◌, ◌≤◌, eqb, leb, get_or, set, length, replicate, if◌then◌else◌}
use Rattle.std.proofs.Common.{sym, ◌∙◌, add-one, add-zero, add-suc, arith, eqb-true, le-leb, lt-ltb, le-ltb}
use Rattle.std.proofs.lemmas.Bool.{not-false, not-true, eqb-false, lt-leb}
use Rattle.std.proofs.lemmas.List.{length-replicate, take_all}
use Rattle.std.proofs.lemmas.List.Edits.{sets, sets-eq, length-between, get_or-between}
use Rattle.std.proofs.lemmas.Slice.{put_mid-paste}
use borrow.Rule.Slice.PartMut.{put_mid, mid_of}
use Rattle.laws.specs.Cases.{left-more, left_none, pick_holds}
use Rattle.rules.specs.declared.parts.Kind.{Kind}
use Rattle.rules.specs.declared.parts.Kind.TheVariants.{Fm, Ufm}
use Rattle.rules.specs.Numbers.{done_status}
use Rattle.rules.specs.Facts.{Skips}
use Rattle.rules.specs.Tables.{start_of, configured_at, reads_of, read_skipped, skipped_of, longest_skipped, sent_from, first_sent, mark_from, marked}

-- ---- start_of
pub start_none : (l : List ℕ) → 0 ≡ start_of l 0
unfolding start_of
start_none l = refl

pub start-more : (l : List ℕ) (i s x : ℕ) → s ≡ start_of l i → x ≡ get_or l (i + 1) 0 → s + x ≡ start_of l (i + 1)
unfolding start_of
start-more l i s x p q = rw (p, q, add-one)

-- ---- the lengths 1 to v, looked at one after the other
module _ (l : List ℕ) (v : ℕ) (h : v < length l) where
  pub range_length : length (mid_of 1 (v + 1 - 1) l) ≡ v
  range_length = let e = length-between l 1 (v + 1) (omega arith) in omega (arith, e)

  pub range_below : (i : ℕ) → i < length (mid_of 1 (v + 1 - 1) l) → i < v
  range_below i k = let e = range_length in omega (arith, e)

  pub range_at : (i x : ℕ) → i < v → x ≡ get_or (mid_of 1 (v + 1 - 1) l) i 0 → x ≡ get_or l (i + 1) 0
  range_at i x k e = let p : i + 1 ≡ 1 + i = omega arith in rw p (e ∙ get_or-between l 1 (v + 1) i 0 (omega arith))

-- ---- a read up to a length, which is a byte
none_longer : (n : ℕ) → leb n 0 ≡ eqb n 0
none_longer n = go (eqb n 0) refl
  where
    go : (b : Bool) → eqb n 0 ≡ b → leb n 0 ≡ eqb n 0
    go true e = rw (eqb-true n 0 e)
    go false e = rw e (lt-leb n 0 (let h = eqb-false n 0 e in omega arith))

up_to : (kind : Kind) (n : ℕ) → n < 256 → leb n (longest_skipped kind) ≡ read_skipped kind n
unfolding longest_skipped read_skipped
up_to Fm n h = none_longer n
up_to Ufm n h = le-leb n 255 (omega arith)

pub skips_of : (most sla len : ℕ) (r : Bool) → len < 256 → r ≡ (if reads_of sla then leb len most else false) → Skips most sla len r
unfolding skipped_of
skips_of most sla len r h e kind q = e ∙ rw (q, up_to kind len h)

-- ---- first_sent: the loop's three ways
pub sent_end : (c : Kind) (s l : List ℕ) (i n r : ℕ) → first_sent c s l i n ≡ r → i ≤ n → n ≤ i → n ≡ r
unfolding sent_from
sent_end c s l i n r e k h = let q : n ≡ i = omega arith in q ∙ (rw (left_none n i h) at e)

pub sent-found : (c : Kind) (s l : List ℕ) (i n r : ℕ) (b : Bool) → first_sent c s l i n ≡ r → i < n → b ≡ skipped_of c (get_or s i 0) (get_or l (i + 1) 0) → not b ≡ true → i ≡ r
unfolding sent_from
sent-found c s l i n r b e h p t = rw (left-more n i h, ← p, not-true b t) at e

pub sent-more : (c : Kind) (s l : List ℕ) (i n r : ℕ) (b : Bool) → first_sent c s l i n ≡ r → i < n → b ≡ skipped_of c (get_or s i 0) (get_or l (i + 1) 0) → not b ≡ false → first_sent c s l (i + 1) n ≡ r
unfolding sent_from
sent-more c s l i n r b e h p t = rw (left-more n i h, ← p, not-false b t) at e

-- ---- marked: what is put in the place of a part of the list
marked_sets : (s : List ℕ) (i left : ℕ) → mark_from s i left ≡ sets s i (replicate left done_status)
unfolding mark_from
marked_sets s i zero = refl
marked_sets s i (suc left) = rw add-one (marked_sets (set s i done_status) (suc i) left)

pub marked_part : (s part : List ℕ) (from to : ℕ) → from ≤ to → to ≤ length s → part ≡ replicate (length (mid_of from (to - from) s)) done_status
    → put_mid from (to - from) s part ≡ marked s from to
marked_part s part from to h g e =
    let n = length-replicate (to - from) done_status in
    let all = take_all (to - from) (replicate (to - from) done_status) (rw n (omega arith)) in
    let put = sets-eq (replicate (to - from) done_status) s from (rw n (omega arith)) in
    put_mid-paste from (to - from) s part _ (to - from) (rw (length-between s from to g) at e) refl (sym n)
    ∙ rw all (sym (marked_sets s from (to - from) ∙ (rw n at put)))

-- ---- start_of grows: a byte of a transaction of a frame that fits is one of the buffer
start_add : (l : List ℕ) (i k : ℕ) → start_of l i ≤ start_of l (i + k)
unfolding start_of
start_add l i zero = rw add-zero (omega arith)
start_add l i (suc k) = let h = start_add l i k in rw add-suc (omega arith)

pub start_next : (l : List ℕ) (i n : ℕ) → i < n → start_of l i + get_or l (i + 1) 0 ≤ start_of l n
start_next l i n h =
    let e : n ≡ (i + 1) + (n - (i + 1)) = omega arith in
    let g = start_add l (i + 1) (n - (i + 1)) in
    rw (start-more l i _ _ refl refl) (rw e g)

-- ---- configured_at, of a place that lies x behind the start of transaction i, the next one that is looked at
pub behind_none : (l : List ℕ) (at : ℕ) → start_of l 0 + at ≡ at
unfolding start_of
behind_none l at = omega arith

pub within : (l : List ℕ) (at i n x len : ℕ) → n ≡ get_or l 0 0 → start_of l i + x ≡ at → len ≡ get_or l (i + 1) 0 → i < n → x < len → true ≡ configured_at l at
unfolding configured_at
within l at i n x len c e q h k = let g = start_next l i n h in rw (← c) (sym (lt-ltb at (start_of l n) (omega arith)))

pub behind : (l : List ℕ) (at i x len : ℕ) → start_of l i + x ≡ at → len ≡ get_or l (i + 1) 0 → len ≤ x → start_of l (i + 1) + (x - len) ≡ at
behind l at i x len e q k = let g = start-more l i _ len refl q in omega arith

pub behind_all : (l : List ℕ) (at i n x : ℕ) → n ≡ get_or l 0 0 → start_of l i + x ≡ at → i ≤ n → n ≤ i → false ≡ configured_at l at
unfolding configured_at
behind_all l at i n x c e h k = let q : i ≡ n = omega arith in rw (← c, ← q) (sym (le-ltb at (start_of l i) (omega arith)))

-- ---- the transaction that first_sent finds is not skipped
sent_from_lem : (c : Kind) (s l : List ℕ) (i left : ℕ) → i ≤ sent_from c s l i left
unfolding sent_from
sent_from_lem c s l i zero = omega arith
sent_from_lem c s l i (suc left) =
    pick_holds (λ (n : ℕ). i ≤ n) (skipped_of c (get_or s i 0) (get_or l (i + 1) 0)) (λ _. let h = sent_from_lem c s l (i + 1) left in omega arith) (λ _. omega arith)

pub first_from : (c : Kind) (s l : List ℕ) (from n : ℕ) → from ≤ first_sent c s l from n
first_from c s l from n = sent_from_lem c s l from (n - from)

Unskipped : Kind → List ℕ → List ℕ → ℕ → Type 0
Unskipped c s l n = skipped_of c (get_or s n 0) (get_or l (n + 1) 0) ≡ false

sent_unskipped : (c : Kind) (s l : List ℕ) (i left : ℕ) → sent_from c s l i left < i + left → Unskipped c s l (sent_from c s l i left)
unfolding sent_from Unskipped
sent_unskipped c s l i zero h = absurd (omega arith)
sent_unskipped c s l i (suc left) h =
    pick_holds (λ (n : ℕ). n < i + suc left → Unskipped c s l n) (skipped_of c (get_or s i 0) (get_or l (i + 1) 0))
    (λ e k. sent_unskipped c s l (i + 1) left (omega arith))
    (λ e k. e)
    h

pub first_unskipped : (c : Kind) (s l : List ℕ) (from n : ℕ) → first_sent c s l from n < n → skipped_of c (get_or s (first_sent c s l from n) 0) (get_or l (first_sent c s l from n + 1) 0) ≡ false
unfolding Unskipped
first_unskipped c s l from n h =
    let k = first_from c s l from n in
    sent_unskipped c s l from (n - from) (omega arith)
