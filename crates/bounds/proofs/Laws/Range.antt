-- What the range's clauses say.
use Rattle.std.specs.Prelude.{Bool, true, false, not, List, ◌≡◌, refl, ℕ, zero, suc, ◌+◌, ◌-◌, ◌/◌, ◌%◌, ◌<◌, ◌≤◌, ◌&&◌, get_or, set, drop, length, eqb, if◌then◌else◌}
use Rattle.std.proofs.Common.{sym, ◌∙◌, ap, ⊎_elim, arith, eq-or-lt_of_le, rules, add-one, drop-cons, get_or-set_other}
use Rattle.std.specs.List.{list_all}
use Rattle.std.proofs.Math.ListN.{drop_of_length-le}
use borrow.Author.Tests.{eq-eqb, lt-ltb, le-ltb, ltb-true, ltb-false, leb-true, eqb-true, not-true}
use Rattle.laws.specs.Cases.{past, both, on, with, false_not_true}
use Rattle.rules.specs.declared.parts.Device.{Device}
use Rattle.rules.specs.declared.parts.Device.TheVariants.{Pca9663, Pcu9669}
use Rattle.rules.specs.declared.state.Phase.{Phase}
use Rattle.rules.specs.declared.state.Phase.TheVariants.{Receiving}
use Rattle.rules.specs.declared.parts.Kind.{Kind}
use Rattle.rules.specs.declared.parts.Kind.TheVariants.{Fm, Ufm}
use Rattle.rules.specs.declared.state.Ptrs.{Ptrs}
use Rattle.rules.specs.Numbers.{buffer_size}
use Rattle.rules.specs.Facts.{Running}
use Rattle.bounds.specs.Range.{pointers_in, registers_in, standing, counted_in, clear_from, clear_after, counts_in, frame_at, frame_in, kinds_in}
use Rattle.rules.specs.Parts.{other_kind, device_by}
use Rattle.rules.specs.Tables.{fitting, reads_of, read_skipped, skipped_of, first_sent}
use Rattle.rules.proofs.Laws.Tables.{first_from, first_unskipped}

-- ---- the pointers, as facts
pub record Points (p : Ptrs) : Type 0 where
  pub sla : p.sla ≤ 64
  pub count : p.count ≤ 64
  pub conf : p.conf ≤ 65
  pub buf : p.buf ≤ buffer_size

pub points_of : (p : Ptrs) → pointers_in p ≡ true → Points p
unfolding pointers_in
points_of p e =
    let a = past _ _ e in
    let b = past _ _ a.1 in
    let c = past _ _ b.1 in
    record {
      sla = ltb-false _ _ a.0;
      count = ltb-false _ _ b.0;
      conf = ltb-false _ _ c.0;
      buf = ltb-false _ _ (past _ _ c.1).0;
    }

pub of_points : (p : Ptrs) → Points p → pointers_in p ≡ true
unfolding pointers_in
of_points p h = on _ _ (le-ltb _ _ h.sla) (on _ _ (le-ltb _ _ h.count) (on _ _ (le-ltb _ _ h.conf) (on _ _ (le-ltb _ _ h.buf) refl)))

-- ---- TRANCONFIG entry 0, TRANSEL and INTMSK
module _ (count sel mask : ℕ) (e : registers_in count sel mask ≡ true) where
  pub registers_count : count ≤ 64
  unfolding registers_in
  registers_count = ltb-false _ _ (past _ _ e).0

  pub registers_sel : sel ≤ 63
  unfolding registers_in
  registers_sel = ltb-false _ _ (past _ _ (past _ _ e).1).0

  pub registers_mask : mask / 2 % 8 ≡ 0
  unfolding registers_in
  registers_mask = eqb-true _ _ (past _ _ (past _ _ e).1).1

pub of_registers : (count sel mask : ℕ) → count ≤ 64 → sel ≤ 63 → mask / 2 % 8 ≡ 0 → registers_in count sel mask ≡ true
unfolding registers_in
of_registers count sel mask a b e = on _ _ (le-ltb _ _ a) (on _ _ (le-ltb _ _ b) (eq-eqb _ _ e))

-- ---- a transaction at which a frame stands is one of the table's
pub standing_below : (kind : Kind) (n : ℕ) (sla lens : List ℕ) (r : Bool) → r ≡ standing kind n sla lens → r ≡ true → get_or lens 0 0 ≤ 64 → n < 64
unfolding standing
standing_below kind n sla lens r e t k =
    let h = ltb-true n (get_or lens 0 0) (both _ _ (both _ _ (sym e ∙ t)).1).0 in omega arith

pub ruleset ranges = (standing_below, rules)

-- ---- clear_after: each entry behind i is 0
clear_from_all : (l : List ℕ) (i left : ℕ) → left ≡ length l - i → list_all (λ n. eqb n 0) (drop i l) ≡ clear_from l i left
unfolding clear_from
clear_from_all l i zero e = let h : length l ≤ i = omega (arith, e) in rw (drop_of_length-le l h)
clear_from_all l i (suc left) e =
    let h : i < length l = omega (arith, e) in
    rw (drop-cons l i 0 h, add-one i) (go (eqb (get_or l i 0) 0) (clear_from_all l (suc i) left (omega (arith, e))))
  where
    go : (b : Bool) {x y : Bool} → x ≡ y → (b && x) ≡ (if b then y else false)
    go true h = h
    go false h = refl

pub clear_all : (l : List ℕ) (i : ℕ) → length l ≡ 64 → list_all (λ n. eqb n 0) (drop i l) ≡ clear_after l i
clear_all l i e = clear_from_all l i (64 - i) (omega (arith, e))

-- ---- clear_after, entry by entry
clear_from_lem : (l : List ℕ) (i left k : ℕ) → clear_from l i left ≡ true → i ≤ k → k < i + left → get_or l k 0 ≡ 0
unfolding clear_from
clear_from_lem l i zero k e h g = absurd (omega arith)
clear_from_lem l i (suc left) k e h g =
    let b = both (eqb (get_or l i 0) 0) _ e in
    ⊎_elim
    (λ (q : i ≡ k). rw (← q) (eqb-true _ _ b.0))
    (λ (n : i < k). clear_from_lem l (i + 1) left k b.1 (omega arith) (omega arith))
    (eq-or-lt_of_le h)

pub clear_at : (l : List ℕ) (i k : ℕ) → clear_after l i ≡ true → i ≤ k → k < 64 → get_or l k 0 ≡ 0
clear_at l i k e h g = clear_from_lem l i (64 - i) k e h (omega arith)

from_clear : (l : List ℕ) (i left : ℕ) → ((k : ℕ) → i ≤ k → k < i + left → get_or l k 0 ≡ 0) → clear_from l i left ≡ true
unfolding clear_from
from_clear l i zero f = refl
from_clear l i (suc left) f =
    with _ _ (eq-eqb (get_or l i 0) 0 (f i (omega arith) (omega arith)))
    (from_clear l (i + 1) left (λ k h g. f k (omega arith) (omega arith)))

pub at_clear : (l : List ℕ) (i : ℕ) → i ≤ 64 → ((k : ℕ) → i ≤ k → k < 64 → get_or l k 0 ≡ 0) → clear_after l i ≡ true
at_clear l i b f = from_clear l i (64 - i) (λ k h g. f k h (omega arith))

-- ---- a frame that stands at transaction n, as facts
pub record Stands (kind : Kind) (sla lens counts : List ℕ) (n : ℕ) : Type 0 where
  pub below : n < get_or lens 0 0
  pub few : get_or lens 0 0 ≤ 64
  pub fits : fitting lens ≡ true
  pub sent : skipped_of kind (get_or sla n 0) (get_or lens (n + 1) 0) ≡ false
  pub clear : (k : ℕ) → n < k → k < 64 → get_or counts k 0 ≡ 0

pub stands_of : (kind : Kind) (p : Phase) (sla lens counts : List ℕ) (n : ℕ) → get_or lens 0 0 ≤ 64 → frame_at kind p n sla lens counts ≡ true → Stands kind sla lens counts n
unfolding frame_at standing counts_in
stands_of kind p sla lens counts n few e =
    let f = both _ _ e in
    let a = both _ _ f.0 in
    let b = both _ _ a.1 in
    record {
      below = ltb-true _ _ b.0;
      few = few;
      fits = a.0;
      sent = not-true _ b.1;
      clear = λ k h g. clear_at counts (n + 1) k (both _ _ f.1).1 (omega arith) g;
    }

-- and what it says of the current byte
pub frame-counted : (kind : Kind) (p : Phase) (sla lens counts : List ℕ) (n : ℕ) → frame_at kind p n sla lens counts ≡ true
    → counted_in p (get_or sla n 0) (get_or lens (n + 1) 0) (get_or counts n 0) ≡ true
unfolding frame_at counts_in
frame-counted kind p sla lens counts n e = (both _ _ (both _ _ e).1).0

pub of_stands : (kind : Kind) (p : Phase) (sla lens counts : List ℕ) (n : ℕ) → Stands kind sla lens counts n
    → counted_in p (get_or sla n 0) (get_or lens (n + 1) 0) (get_or counts n 0) ≡ true → frame_at kind p n sla lens counts ≡ true
unfolding frame_at standing counts_in
of_stands kind p sla lens counts n s c =
    with _ _ (with _ _ s.fits (with _ _ (lt-ltb _ _ s.below) (ap not s.sent)))
    (with _ _ c (at_clear counts (n + 1) (omega arith) (λ k h g. s.clear k (omega arith) g)))

pub stands_running : (kind : Kind) (sla lens counts : List ℕ) (n : ℕ) → Stands kind sla lens counts n → Running lens n
unfolding fitting
stands_running kind sla lens counts n s = record { below = s.below; few = s.few; fits = leb-true _ _ s.fits }

-- the first transaction from `from` that is not skipped stands, where nothing is counted from there on
pub first_stands : (kind : Kind) (sla lens counts : List ℕ) (from : ℕ) → get_or lens 0 0 ≤ 64 → fitting lens ≡ true
    → ((k : ℕ) → from ≤ k → k < 64 → get_or counts k 0 ≡ 0)
    → first_sent kind sla lens from (get_or lens 0 0) < get_or lens 0 0
    → Stands kind sla lens counts (first_sent kind sla lens from (get_or lens 0 0))
first_stands kind sla lens counts from few fits clear h =
    let g = first_from kind sla lens from (get_or lens 0 0) in
    record {
      below = h;
      few = few;
      fits = fits;
      sent = first_unskipped kind sla lens from (get_or lens 0 0) h;
      clear = λ k a b. clear k (omega arith) b;
    }

-- the count of transaction n itself is not asked
pub stands_counted : (kind : Kind) (sla lens counts : List ℕ) (n v : ℕ) → Stands kind sla lens counts n → Stands kind sla lens (set counts n v) n
stands_counted kind sla lens counts n v s = record {
  below = s.below;
  few = s.few;
  fits = s.fits;
  sent = s.sent;
  clear = λ k h g. get_or-set_other counts n k v 0 (λ e. omega arith) ∙ s.clear k h g;
}

-- a UFm channel receives nothing: a read is skipped there
pub no_receiving : (n : ℕ) (sla lens counts : List ℕ) → get_or lens 0 0 ≤ 64 → frame_in Ufm (Receiving n) sla lens counts ≡ true → ⊥
unfolding frame_in frame_at standing counts_in counted_in skipped_of read_skipped
no_receiving n sla lens counts few e =
    let s = (stands_of Ufm (Receiving n) sla lens counts n few e).sent in
    let r = (both (reads_of (get_or sla n 0)) _ (frame-counted Ufm (Receiving n) sla lens counts n e)).0 in
    let z = false_not_true (sym (rw r at s)) in omega (arith, z)

-- ---- the kinds of the channels are those of the part that channel 1 names, and each part's are so
pub kinds_of : (a b c : Kind) → kinds_in a b c ≡ true → (a ≡ Fm) × (b ≡ other_kind (device_by b)) × (c ≡ other_kind (device_by b))
unfolding kinds_in
kinds_of Fm Fm Fm e = (refl, refl, refl)
kinds_of Fm Fm Ufm e = absurd (let z = false_not_true e in omega (arith, z))
kinds_of Fm Ufm Fm e = absurd (let z = false_not_true e in omega (arith, z))
kinds_of Fm Ufm Ufm e = (refl, refl, refl)
kinds_of Ufm b c e = absurd (let z = false_not_true e in omega (arith, z))

pub of_kinds : (d : Device) → kinds_in Fm (other_kind d) (other_kind d) ≡ true
unfolding kinds_in
of_kinds Pca9663 = refl
of_kinds Pcu9669 = refl
