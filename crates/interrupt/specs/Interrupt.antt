-- Document 01, 'The part as the processor sees it': what CTRLINTMSK keeps, pending causes, and the interrupt; and BE, which no. 5 sets.
use Rattle.std.specs.Prelude.{ℕ, ◌+◌, ◌*◌, ◌/◌, ◌%◌, Bool, true, false, not, List, [], ◌∷◌, eqb, if◌then◌else◌}
use Rattle.rules.specs.declared.parts.Kind.{Kind}
use Rattle.rules.specs.declared.state.Flags.{Flags}
use Rattle.rules.specs.Numbers.{past_buffer}
use Rattle.rules.specs.Parts.{is_fm}
use Rattle.rules.specs.Registers.{bit_of, sdmsk, fldmsk, wemsk, remsk, femsk}

-- CTRLINTMSK: 7 BE, 2 to 0 the channels; other bits kept 0
abbrev pub ctrl_kept : ℕ → ℕ
ctrl_kept v = v / 128 * 128 + v % 8

-- its bits by their weights: 7 BEMSK, 2 CH2MSK, 1 CH1MSK, 0 CH0MSK (002, Table 31)
abbrev pub bemsk : ℕ
bemsk = 0x80

abbrev pub ch2msk : ℕ
ch2msk = 0x04

abbrev pub ch1msk : ℕ
ch1msk = 0x02

abbrev pub ch0msk : ℕ
ch0msk = 0x01

-- ---- causes, a row each: the bit that is set beside the bit that masks it

-- a row holds where the cause is set and its mask bit is 0
infix 6 ◌unless◌
unfoldable pub ◌unless◌ : Bool → Bool → Bool
cause unless masked = if cause then not masked else false

-- in place of a mask bit: DAE, CLE and SSE can't be masked
abbrev pub never : Bool
never = false

-- a mask bit that a UFm channel doesn't have: INTMSK bits 5 and 4 have no effect there (document 02, request Three)
unfoldable pub on_fm : Kind → Bool → Bool
on_fm kind masked = if is_fm kind then masked else never

-- some row holds
unfoldable pub some_of : List Bool → Bool
some_of [] = false
some_of (row ∷ rows) = if row then true else some_of rows

-- CHSTATUS beside INTMSK, bit 7 to bit 0
unfoldable pub causes_of : Kind → Flags → ℕ → List Bool
causes_of kind f mask =
    (f.sd unless bit_of mask sdmsk) ∷  -- 7
    (f.fld unless bit_of mask fldmsk) ∷  -- 6
    (f.we unless on_fm kind (bit_of mask wemsk)) ∷  -- 5
    (f.re unless on_fm kind (bit_of mask remsk)) ∷  -- 4
    (f.dae unless never) ∷  -- 3
    (f.cle unless never) ∷  -- 2
    (f.sse unless never) ∷  -- 1
    (f.fe unless bit_of mask femsk) ∷ []  -- 0

-- channel pending (some CHSTATUS bit set whose INTMSK bit is 0)
unfoldable pub pending_of : Kind → Flags → ℕ → Bool
pending_of kind f mask = some_of (causes_of kind f mask)

-- BE and the channels that are pending beside CTRLINTMSK, bit 7 and bits 2 to 0
unfoldable pub pulls_of : Bool → ℕ → Bool → Bool → Bool → List Bool
pulls_of be mask ch0 ch1 ch2 =
    (be unless bit_of mask bemsk) ∷  -- 7
    (ch2 unless bit_of mask ch2msk) ∷  -- 2
    (ch1 unless bit_of mask ch1msk) ∷  -- 1
    (ch0 unless bit_of mask ch0msk) ∷ []  -- 0

-- INT is pulled exactly when BE is set and bit 7 of CTRLINTMSK is 0, or a channel is pending and its CTRLINTMSK bit is 0
unfoldable pub pulled_by : Bool → ℕ → Bool → Bool → Bool → Bool
pulled_by be mask ch0 ch1 ch2 = some_of (pulls_of be mask ch0 ch1 ch2)

-- no. 5, buffer boundary: BE set
unfoldable pub be_after : Bool → ℕ → Bool
be_after be number = if eqb number past_buffer then true else be

-- out of range: a bit that is kept 0 set, here of CTRLINTMSK
abbrev pub mask_in : ℕ → Bool
mask_in mask = eqb (mask / 8 % 16) 0
