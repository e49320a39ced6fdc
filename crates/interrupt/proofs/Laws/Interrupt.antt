-- A table of causes row by row; a channel with no CHSTATUS bit set is not pending; and BE is only ever set.
use Rattle.std.specs.Prelude.{ℕ, zero, suc, ◌+◌, ◌*◌, ◌<◌, ◌≤◌, Bool, true, not, ◌⊎◌, ◌≡◌, refl, eqb, get_or, drop, length}
use Rattle.std.proofs.Math.Bool.{false}
use mathlib.Core.List.{List, [], ◌∷◌, map}
use Rattle.std.proofs.Math.Logic.{inl, inr, ⊎_elim}
use Rattle.std.proofs.Common.{◌∙◌, sym, drop-cons}
use native.Mathlib.Omega.{arith}
use borrow.Author.Tests.{eqb-true, not-true}
use Rattle.std.specs.List.{list_any}
use Rattle.laws.specs.Cases.{false_not_true, both}
use Rattle.laws.specs.Lists.{Some}
use Rattle.rules.specs.declared.parts.Kind.{Kind}
use Rattle.rules.specs.declared.state.Flags.{Flags}
use Rattle.rules.specs.Numbers.{past_buffer}
use Rattle.rules.specs.Registers.{bit_of, weigh, chstatus_value}
use Rattle.interrupt.specs.Interrupt.{◌unless◌, on_fm, some_of, causes_of, pending_of, be_after}
use Rattle.interrupt.proofs.Laws.Bits.{bits, unset, both_none}

-- ---- rows put together
pub row : (r r' : Bool) (l l' : List Bool) → r ≡ r' → l ≡ l' → (r ∷ l) ≡ (r' ∷ l')
row r r' l l' p q = cc

pub beside : (r cause m m' : Bool) → r ≡ (cause unless m) → m ≡ m' → r ≡ (cause unless m')
beside r cause m m' p q = cc

pub on_fm_lem : (kind : Kind) (r m m' : Bool) → r ≡ on_fm kind m → m ≡ m' → r ≡ on_fm kind m'
on_fm_lem kind r m m' p q = cc

pub of_rows : (r : Bool) (l l' : List Bool) → r ≡ some_of l → l ≡ l' → r ≡ some_of l'
of_rows r l l' p q = cc

pub ruleset rows = (row, beside, on_fm_lem, of_rows, refl)

-- ---- looked through
pub some_is : (rows : List Bool) → list_any (λ row. row) rows ≡ some_of rows
unfolding some_of
some_is [] = refl
some_is (true ∷ rows) = refl
some_is (false ∷ rows) = some_is rows

-- ---- what a row says, and what some row says
module _ (cause masked : Bool) where
  pub row_says : (cause unless masked) ≡ true → (cause ≡ true) × (masked ≡ false)
  unfolding ◌unless◌
  row_says e = let h = both cause (not masked) e in (h.0, not-true masked h.1)

  pub row_holds : cause ≡ true → masked ≡ false → (cause unless masked) ≡ true
  unfolding ◌unless◌
  row_holds p q = rw (p, q)

behind : (row : Bool) (rows : List Bool) → some_of rows ≡ true → some_of (row ∷ rows) ≡ true
unfolding some_of
behind true rows h = refl
behind false rows h = h

-- the i-th row holds
pub holds_at : (rows : List Bool) (i : ℕ) → get_or rows i false ≡ true → some_of rows ≡ true
unfolding some_of
holds_at [] i e = e
holds_at (row ∷ rows) zero e = rw e
holds_at (row ∷ rows) (suc i) e = behind row rows (holds_at rows i e)

first : (row : Bool) (rows : List Bool) → some_of (row ∷ rows) ≡ true → (row ≡ true) ⊎ (some_of rows ≡ true)
unfolding some_of
first true rows e = inl refl
first false rows e = inr e

-- a row for each of these bits: some row holds exactly where some bit is 1 in the register and 0 in its mask
module _ (register mask : ℕ) where
  abbrev row_of : ℕ → Bool
  row_of w = bit_of register w unless bit_of mask w

  abbrev Unmasked : ℕ → Type 0
  Unmasked w = (bit_of register w ≡ true) × (bit_of mask w ≡ false)

  pub some_bit : (weights : List ℕ) → some_of (map row_of weights) ≡ true → Some Unmasked weights
  unfolding some_of
  some_bit [] e = absurd (omega (arith, false_not_true e))
  some_bit (w ∷ l) e = ⊎_elim (λ (h : row_of w ≡ true). inl (row_says _ _ h)) (λ (h : some_of (map row_of l) ≡ true). inr (some_bit l h)) (first (row_of w) (map row_of l) e)

  pub of_some_bit : (weights : List ℕ) → Some Unmasked weights → some_of (map row_of weights) ≡ true
  of_some_bit [] h = elim h [ ]
  of_some_bit (w ∷ l) (inl h) = holds_at (map row_of (w ∷ l)) 0 (row_holds _ _ h.0 h.1)
  of_some_bit (w ∷ l) (inr h) = behind (row_of w) (map row_of l) (of_some_bit l h)

-- ---- CHSTATUS 00h
all_off : (f : Flags) → chstatus_value f ≡ 0
    → (f.sd ≡ false) × (f.fld ≡ false) × (f.we ≡ false) × (f.re ≡ false) × (f.dae ≡ false) × (f.cle ≡ false) × (f.sse ≡ false) × (f.fe ≡ false)
unfolding chstatus_value
all_off f e =
    let b = bits f.sd f.fld f.we f.re f.dae f.cle f.sse f.fe 0 (sym e) in
    (sym b.seven, sym b.six, sym b.five, sym b.four, sym b.three, sym b.two, sym b.one, sym b.zero)

pub calm_pending : (kind : Kind) (f : Flags) (m : ℕ) → eqb (chstatus_value f) 0 ≡ true → pending_of kind f m ≡ false
unfolding pending_of causes_of some_of ◌unless◌
calm_pending kind f m e = let h = all_off f (eqb-true (chstatus_value f) 0 e) in rw (h.0, h.1, h.2, h.3, h.4, h.5, h.6, h.7)

-- the flags as the bytes of a word: it is 0 exactly where CHSTATUS is
halves : (m n : ℕ) → m + n * 0x100000000 ≡ 0 → (m ≡ 0) × (n ≡ 0)
halves m n e = (omega arith, omega arith)

bytes : (x y z u m : ℕ) → m ≡ x + y * 0x100 + z * 0x10000 + u * 0x1000000 → m ≡ 0 → (x ≡ 0) × (y ≡ 0) × (z ≡ 0) × (u ≡ 0)
bytes x y z u m e k = (omega arith, omega arith, omega arith, omega arith)

pub calm_word : (f : Flags) (r : Bool) (m n x y z u x' y' z' u' : ℕ) → r ≡ eqb (m + n * 0x100000000) 0
    → m ≡ x + y * 0x100 + z * 0x10000 + u * 0x1000000 → n ≡ x' + y' * 0x100 + z' * 0x10000 + u' * 0x1000000
    → x ≡ weigh f.sd 1 → y ≡ weigh f.fld 1 → z ≡ weigh f.we 1 → u ≡ weigh f.re 1
    → x' ≡ weigh f.dae 1 → y' ≡ weigh f.cle 1 → z' ≡ weigh f.sse 1 → u' ≡ weigh f.fe 1 → r ≡ eqb (chstatus_value f) 0
unfolding chstatus_value weigh
calm_word f r m n x y z u x' y' z' u' e em en ex ey ez eu ex' ey' ez' eu' = e ∙ both_none (m + n * 0x100000000) (chstatus_value f) down up
  where
    down : m + n * 0x100000000 ≡ 0 → chstatus_value f ≡ 0
    down k =
        let h = halves m n k in
        let l = bytes x y z u m em h.0 in
        let l' = bytes x' y' z' u' n en h.1 in
        rw (
          unset f.sd (sym ex ∙ l.0),
          unset f.fld (sym ey ∙ l.1),
          unset f.we (sym ez ∙ l.2),
          unset f.re (sym eu ∙ l.3),
          unset f.dae (sym ex' ∙ l'.0),
          unset f.cle (sym ey' ∙ l'.1),
          unset f.sse (sym ez' ∙ l'.2),
          unset f.fe (sym eu' ∙ l'.3),
        )

    up : chstatus_value f ≡ 0 → m + n * 0x100000000 ≡ 0
    up k =
        let h = all_off f k in
        rw (em, en, ex, ey, ez, eu, ex', ey', ez', eu', h.0, h.1, h.2, h.3, h.4, h.5, h.6, h.7)

-- BE, which the channels share, is only ever set: it does not tell which of two answers came first
pub be_swap : (be : Bool) (x y : ℕ) → be_after (be_after be x) y ≡ be_after (be_after be y) x
unfolding be_after
be_swap be x y = go (eqb x past_buffer) refl (eqb y past_buffer) refl
  where
    go : (a : Bool) → eqb x past_buffer ≡ a → (b : Bool) → eqb y past_buffer ≡ b → be_after (be_after be x) y ≡ be_after (be_after be y) x
    go true p true q = rw (p, q)
    go true p false q = rw (p, q)
    go false p true q = rw (p, q)
    go false p false q = rw (p, q)
