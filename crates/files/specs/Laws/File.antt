-- The file's round trip: the file of blocks gives them back and is readable, and a readable file is the file of its blocks.
use Rattle.std.specs.Prelude.{ℕ, ◌+◌, ◌*◌, ◌≤◌, Bool, false, Result, Ok, Err, ◌≡◌, refl, bytes_eq, drop, if◌then◌else◌}
use Rattle.std.proofs.Math.Bool.{true}
use mathlib.Core.List.{List, ◌++◌, append_assoc}
use Rattle.std.proofs.Math.Path.{sym, ap}
use Rattle.std.proofs.Common.{◌∙◌, length-drop, drop-drop, length-take-le}
use native.Mathlib.Omega.{arith}
use borrow.Author.Tests.{ltb-false, le-ltb}
use lib.Pointwise.{bytes_decides}
use Rattle.std.proofs.Math.ListN.{length, take, length-append, take-append-drop}
use Rattle.std.proofs.Math.Seq.{take_at, drop_at}
use Rattle.rules.specs.Numbers.{buffer_size}
use Rattle.files.specs.declared.format.Fault.{Fault}
use Rattle.files.specs.File.{header_of, file_of, total, count_in, body_of, addresses_in, lengths_in, data_in, headed, body_fault, fault_of, fault_number, Readable, Blocks, over}

-- ---- bytes put over others: one piece, and another behind it
pub over-more : (x y l : List ℕ) (k : ℕ) → length x ≡ k → take k (over x l) ++ over y (drop k (over x l)) ≡ over (x ++ y) l
over-more x y l k e =
    let t : take k (over x l) ≡ x = take_at x _ k e in
    let d : drop k (over x l) ≡ drop (length x) l = drop_at x _ k e in
    rw (t, d, drop-drop (length y) (length x) l, length-append x y) (sym (append_assoc x y (drop (length x + length y) l)))

-- ---- the file of blocks
pub header-length : (n s : ℕ) → length (header_of n s) ≡ 12
unfolding header_of
header-length n s = refl

module _ (a b d : List ℕ) (h : Blocks a b d) where
  pub count_of : count_in (file_of a b d) ≡ length a
  unfolding file_of header_of
  count_of = omega arith

  behind : body_of (file_of a b d) ≡ a ++ (b ++ d)
  unfolding file_of
  behind = drop_at (header_of (length a) (length d)) _ 12 (header-length _ _)

  pub addresses_of : addresses_in (file_of a b d) ≡ a
  addresses_of = rw (count_of, behind) (take_at a (b ++ d) (length a) refl)

  behind_a : drop (length a) (body_of (file_of a b d)) ≡ b ++ d
  behind_a = rw behind (drop_at a (b ++ d) (length a) refl)

  pub lengths_of : lengths_in (file_of a b d) ≡ b
  lengths_of = rw (count_of, behind_a) (take_at b d (length a) h.each)

  pub data_of : data_in (file_of a b d) ≡ d
  data_of =
      ap (λ (n : ℕ). drop (2 * n) (body_of (file_of a b d))) count_of
      ∙ ap (λ (n : ℕ). drop n (body_of (file_of a b d))) (let q : 2 * length a ≡ length a + length a = omega arith in q)
      ∙ sym (drop-drop (length a) (length a) (body_of (file_of a b d))) ∙ ap (drop (length a)) behind_a ∙ drop_at b d (length a) h.each

  length_of_lem : length (file_of a b d) ≡ 12 + 2 * length a + length d
  unfolding file_of
  length_of_lem =
      let e1 = length-append (header_of (length a) (length d)) (a ++ (b ++ d)) in
      let e2 = length-append a (b ++ d) in
      let e3 = length-append b d in
      let e0 = header-length (length a) (length d) in
      let e4 = h.each in omega (arith, e0, e1, e2, e3, e4)

  front : take 12 (file_of a b d) ≡ header_of (length a) (length d)
  unfolding file_of
  front = take_at (header_of (length a) (length d)) _ 12 (header-length _ _)

  -- WHAT THE WRITER GIVES IS READABLE
  pub written_readable : Readable (file_of a b d)
  unfolding fault_of body_fault headed
  written_readable =
      let g = file_of a b d in
      let s : total (lengths_in g) ≡ length d = ap total lengths_of ∙ sym h.sums in
      let n : count_in g ≡ length a = count_of in
      let l : length g ≡ 12 + 2 * length a + length d = length_of_lem in
      let few = h.few in
      let fits = h.fits in
      let same : bytes_eq (take 12 g) (header_of (length a) (length d)) ≡ true = (bytes_decides _ _).1 front in
      rw (
        s,
        n,
        l,
        le-ltb (12 + 2 * length a + length d) 12 (omega arith),
        le-ltb 64 (length a) few,
        le-ltb (12 + 2 * length a + length d) (12 + 2 * length a) (omega arith),
        le-ltb buffer_size (length d) fits,
        le-ltb (12 + 2 * length a + length d) (12 + 2 * length a + length d) (omega arith),
        same,
      )

-- ---- what is no fault
unrefused : (x : Result (Unit {0}) Fault) → fault_number x ≡ 0 → x ≡ Ok tt
unrefused (Ok t) e = refl
unrefused (Err x) e = absurd (omega arith)

pub number_readable : (f : List ℕ) → fault_number (fault_of f) ≡ 0 → Readable f
number_readable f e = unrefused (fault_of f) e

no_fault : (x : Fault) → ◌≡◌ {A = Result (Unit {0}) Fault} (Err x) (Ok tt) → ⊥
no_fault x e = let n = ap fault_number e in omega (arith, n)

-- a test that finds a fault was passed
unfaulted : (b : Bool) (x : Fault) (y : Result (Unit {0}) Fault) → (if b then Err x else y) ≡ Ok tt → (b ≡ false) × (y ≡ Ok tt)
unfaulted true x y e = absurd (no_fault x e)
unfaulted false x y e = (refl, e)

sound_true : (b : Bool) (x : Fault) → ◌≡◌ {A = Result (Unit {0}) Fault} (if b then Ok tt else Err x) (Ok tt) → b ≡ true
sound_true true x e = refl
sound_true false x e = absurd (no_fault x e)

-- A READABLE FILE IS THE FILE OF ITS BLOCKS
record Parts (f : List ℕ) : Type 0 where
  few : count_in f ≤ 64
  fits : total (lengths_in f) ≤ buffer_size
  long : length f ≡ 12 + 2 * count_in f + total (lengths_in f)
  front : take 12 f ≡ header_of (count_in f) (total (lengths_in f))

parts : (f : List ℕ) → Readable f → Parts f
unfolding fault_of body_fault headed
parts f e =
    let n = count_in f in
    let s = total (lengths_in f) in
    let a = unfaulted _ _ _ e in
    let b = unfaulted _ _ _ a.1 in
    let c = unfaulted _ _ _ b.1 in
    let d = unfaulted _ _ _ c.1 in
    let g = unfaulted _ _ _ d.1 in
    let k = unfaulted _ _ _ g.1 in
    let low = ltb-false (length f) (12 + 2 * n + s) g.0 in
    let high = ltb-false (12 + 2 * n + s) (length f) k.0 in
    record {
      few = ltb-false 64 n b.0;
      fits = ltb-false buffer_size s d.0;
      long = omega (arith, low, high);
      front = (bytes_decides _ _).0 (sound_true _ _ k.1);
    }

module _ (f : List ℕ) (e : Readable f) where
  p : Parts f
  p = parts f e

  pub readable_count : count_in f ≤ 64
  readable_count = p.few

  pub readable_fits : total (lengths_in f) ≤ buffer_size
  readable_fits = p.fits

  pub readable_long : length f ≡ 12 + 2 * count_in f + total (lengths_in f)
  readable_long = p.long

  body-length : length (body_of f) ≡ 2 * count_in f + total (lengths_in f)
  body-length = let q = length-drop 12 f in let l = p.long in omega (arith, q, l)

  pub readable_addresses : length (addresses_in f) ≡ count_in f
  readable_addresses = length-take-le (count_in f) (body_of f) (let q = body-length in omega (arith, q))

  pub readable_lengths : length (lengths_in f) ≡ count_in f
  readable_lengths = length-take-le (count_in f) (drop (count_in f) (body_of f)) (let q = length-drop (count_in f) (body_of f) in let l = body-length in omega (arith, q, l))

  pub readable_data : length (data_in f) ≡ total (lengths_in f)
  readable_data = let q = length-drop (2 * count_in f) (body_of f) in let l = body-length in omega (arith, q, l)

  pub readable_blocks : Blocks (addresses_in f) (lengths_in f) (data_in f)
  readable_blocks = record {
    few = rw readable_addresses p.few;
    each = readable_lengths ∙ sym readable_addresses;
    sums = readable_data;
    fits = rw readable_data p.fits;
  }

  pieces : body_of f ≡ addresses_in f ++ (lengths_in f ++ data_in f)
  pieces =
      let n = count_in f in
      let b = body_of f in
      sym (take-append-drop n b)
      ∙ ap (λ (t : List ℕ). addresses_in f ++ t)
      (sym (take-append-drop n (drop n b))
      ∙ ap (λ (t : List ℕ). lengths_in f ++ t) (drop-drop n n b ∙ ap (λ (k : ℕ). drop k b) (let q : n + n ≡ 2 * n = omega arith in q)))

  pub readable_is : file_of (addresses_in f) (lengths_in f) (data_in f) ≡ f
  unfolding file_of
  readable_is =
      let q : header_of (length (addresses_in f)) (length (data_in f)) ≡ take 12 f = rw (readable_addresses, readable_data) (sym p.front) in
      ap (λ (t : List ℕ). t ++ (addresses_in f ++ (lengths_in f ++ data_in f))) q
      ∙ ap (λ (t : List ℕ). take 12 f ++ t) (sym pieces)
      ∙ take-append-drop 12 f
