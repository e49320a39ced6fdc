-- What the rows of Interrupt.antt come to: no INTMSK masks DAE, CLE or SSE; its bits 5 and 4 have no effect on a UFm channel; and they are document 01's own sentences, each said once for all bits of a register.
use Rattle.std.specs.Prelude.{ℕ, ◌+◌, ◌*◌, ◌/◌, ◌%◌, ◌<◌, Bool, true, false, List, [], ◌∷◌, map, ◌⊎◌, ◌≡◌, refl}
use Rattle.std.proofs.Common.{inl, inr, sym, ◌∙◌, ap, arith}
use Rattle.laws.specs.Lists.{Some}
use Rattle.rules.specs.declared.parts.Kind.{Kind}
use Rattle.rules.specs.declared.parts.Kind.TheVariants.{Fm, Ufm}
use Rattle.rules.specs.declared.state.Flags.{Flags}
use Rattle.rules.specs.Parts.{heeded}
use Rattle.rules.specs.Registers.{bit_of, weigh, chstatus_value}
use Rattle.interrupt.specs.Interrupt.{◌unless◌, never, on_fm, some_of, causes_of, pending_of, pulls_of, pulled_by}
use Rattle.interrupt.proofs.Laws.Bits.{bits, no_bit, clear, same}
use Rattle.interrupt.proofs.Laws.Interrupt.{row_holds, holds_at, some_bit, of_some_bit}

-- DAE, CLE and SSE are never masked, for any mask, in range or not
pub never_masked : (kind : Kind) (f : Flags) (mask : ℕ) → (f.dae ≡ true) ⊎ (f.cle ≡ true) ⊎ (f.sse ≡ true) → pending_of kind f mask ≡ true
unfolding pending_of causes_of
never_masked kind f mask (inl e) = holds_at (causes_of kind f mask) 4 (row_holds f.dae never e refl)
never_masked kind f mask (inr (inl e)) = holds_at (causes_of kind f mask) 5 (row_holds f.cle never e refl)
never_masked kind f mask (inr (inr e)) = holds_at (causes_of kind f mask) 6 (row_holds f.sse never e refl)

-- the bits of INTMSK that a UFm channel doesn't heed, as if they were 0
pub unheeded : (kind : Kind) (f : Flags) (mask : ℕ) → pending_of kind f (heeded kind mask) ≡ pending_of kind f mask
unfolding pending_of causes_of on_fm
unheeded Fm f mask = refl
unheeded Ufm f mask = rw (same (heeded Ufm mask) mask 0x80 (omega arith), same (heeded Ufm mask) mask 0x40 (omega arith), same (heeded Ufm mask) mask 0x01 (omega arith))

-- exactly when
abbrev pub Exactly : Bool → Type 0 → Type 0
Exactly b P = (b ≡ true → P) × (P → b ≡ true)

-- among the bits with these weights, some bit of a register set whose mask bit is 0; both as they are read
abbrev pub SomeUnmasked : List ℕ → ℕ → ℕ → Type 0
SomeUnmasked weights register mask = Some (λ w. (bit_of register w ≡ true) × (bit_of mask w ≡ false)) weights

exactly : (weights : List ℕ) (register mask : ℕ) (b : Bool) → b ≡ some_of (map (λ w. bit_of register w unless bit_of mask w) weights)
    → Exactly b (SomeUnmasked weights register mask)
exactly weights register mask b e = (λ t. some_bit register mask weights (sym e ∙ t), λ s. e ∙ of_some_bit register mask weights s)

-- channel pending (some CHSTATUS bit set whose INTMSK bit is 0): for every INTMSK in range, its bits 3 to 1 are 0; of a UFm channel as if bits 5 and 4 were 0
abbrev pub all_bits : List ℕ
all_bits = 0x80 ∷ 0x40 ∷ 0x20 ∷ 0x10 ∷ 0x08 ∷ 0x04 ∷ 0x02 ∷ 0x01 ∷ []

rows_read : (kind : Kind) (f : Flags) (mask : ℕ) → mask / 2 % 8 ≡ 0 → bit_of mask 0x20 ≡ on_fm kind (bit_of mask 0x20) → bit_of mask 0x10 ≡ on_fm kind (bit_of mask 0x10)
    → causes_of kind f mask ≡ map (λ w. bit_of (chstatus_value f) w unless bit_of mask w) all_bits
unfolding causes_of chstatus_value
rows_read kind f mask e five four =
    let b = bits f.sd f.fld f.we f.re f.dae f.cle f.sse f.fe _ refl in
    rw (
      b.seven,
      b.six,
      b.five,
      b.four,
      b.three,
      b.two,
      b.one,
      b.zero,
      clear mask 0x08 (omega arith),
      clear mask 0x04 (omega arith),
      clear mask 0x02 (omega arith),
      ← five,
      ← four,
    )

as_read : (kind : Kind) (f : Flags) (mask : ℕ) → mask / 2 % 8 ≡ 0
    → causes_of kind f (heeded kind mask) ≡ map (λ w. bit_of (chstatus_value f) w unless bit_of (heeded kind mask) w) all_bits
unfolding on_fm
as_read Fm f mask e = rows_read Fm f mask e refl refl
as_read Ufm f mask e =
    let low : mask % 16 < 2 = omega arith in
    rows_read Ufm f (heeded Ufm mask) (omega arith) (clear (heeded Ufm mask) 0x20 (five (mask / 64) (mask % 16) (omega arith)))
    (clear (heeded Ufm mask) 0x10 (four (mask / 64) (mask % 16) (omega arith)))
  where
    five : (q r : ℕ) → r < 2 → (q * 64 + r) / 0x20 % 2 ≡ 0
    five q r h = let e : (q * 64 + r) / 0x20 ≡ q * 2 = omega arith in omega (arith, e)

    four : (q r : ℕ) → r < 2 → (q * 64 + r) / 0x10 % 2 ≡ 0
    four q r h = let e : (q * 64 + r) / 0x10 ≡ q * 4 = omega arith in omega (arith, e)

pub as_the_sentence : (kind : Kind) (f : Flags) (mask : ℕ) → mask / 2 % 8 ≡ 0
    → Exactly (pending_of kind f mask) (SomeUnmasked all_bits (chstatus_value f) (heeded kind mask))
unfolding pending_of
as_the_sentence kind f mask e =
    exactly all_bits (chstatus_value f) (heeded kind mask) (pending_of kind f mask) (sym (unheeded kind f mask) ∙ ap some_of (as_read kind f mask e))

-- INT is pulled exactly when BE is set and bit 7 of CTRLINTMSK is 0, or a channel is pending and its CTRLINTMSK bit is 0: by CTRLSTATUS, which has them at the
-- same bits, 7 BE, 2 to 0 channel pending
abbrev pub cause_bits : List ℕ
cause_bits = 0x80 ∷ 0x04 ∷ 0x02 ∷ 0x01 ∷ []

pub as_ctrlstatus : (be active2 active1 active0 ch2 ch1 ch0 : Bool) (ctrlstatus mask : ℕ)
    → ctrlstatus ≡ weigh be 0x80 + weigh active2 0x20 + weigh active1 0x10 + weigh active0 0x08 + weigh ch2 0x04 + weigh ch1 0x02 + weigh ch0 0x01
    → Exactly (pulled_by be mask ch0 ch1 ch2) (SomeUnmasked cause_bits ctrlstatus mask)
unfolding pulled_by pulls_of
as_ctrlstatus be active2 active1 active0 ch2 ch1 ch0 ctrlstatus mask e =
    let b = bits be false active2 active1 active0 ch2 ch1 ch0 ctrlstatus (omega (arith, e, no_bit 0x40)) in
    exactly cause_bits ctrlstatus mask (pulled_by be mask ch0 ch1 ch2) (rw (b.seven, b.two, b.one, b.zero))
