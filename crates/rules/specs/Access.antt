-- Document 01, 'Numbers that an answer carries': the numbers that refuse an access to a register, where the pointers go, and the reset key.
use Rattle.std.specs.Prelude.{ℕ, Bool, true, false, List, Option, Some, None, eqb, ltb, leb, if◌then◌else◌}
use Rattle.rules.specs.declared.state.Phase.{Phase}
use Rattle.rules.specs.declared.state.Phase.TheVariants.{Idle, Address, Sending, Receiving, Stopping, Waiting}
use Rattle.rules.specs.declared.registers.Register.{Register}
use Rattle.rules.specs.declared.registers.Register.TheVariants.{Status, Control, Chstatus, Intmsk, Slatable, Tranconfig, Data, Transel, Tranofs, Bytecount, Setting, Preset}
use Rattle.rules.specs.Numbers.{buffer_size, done, locked, past_table, past_buffer, many_transactions}
use Rattle.rules.specs.Registers.{active_of}
use Rattle.rules.specs.Tables.{start_of, configured_at}

-- ---- nos. 3, 4 and 6, checked in that order

-- no. 3: channel active: write to FRAMECNT to TIMEOUT
unfoldable pub busy_refusal : Phase → ℕ
busy_refusal p = if active_of p then locked else done

-- no. 3: or TRANCONFIG (except entry 0 in Waiting)
abbrev pub locked_of : Phase → ℕ → Bool
locked_of Idle at = false
locked_of (Address n) at = true
locked_of (Sending n) at = true
locked_of (Receiving n) at = true
locked_of Stopping at = true
locked_of Waiting at = ltb 0 at

-- no. 4: SLATABLE or BYTECOUNT past entry 63, TRANCONFIG past 64: past a table's last entry
unfoldable pub past_refusal : ℕ → ℕ → ℕ
past_refusal last at = if ltb last at then past_table else done

-- no. 6: TRANCONFIG entry 0 above 64
unfoldable pub too_many : ℕ → ℕ → Bool
too_many at v = if eqb at 0 then ltb 64 v else false

-- a write to SLATABLE: no. 3, no. 4
unfoldable pub sla_refusal : Phase → ℕ → ℕ
sla_refusal p at = if active_of p then locked else past_refusal 63 at

-- a write to TRANCONFIG: no. 3, no. 4, no. 6
unfoldable pub conf_refusal : Phase → ℕ → ℕ → ℕ
conf_refusal p at v = if locked_of p at then locked else if ltb 64 at then past_table else if too_many at v then many_transactions else done

-- ---- no. 5: the buffer boundary

-- TRANOFS o points at start plus o. No. 5 where the place is 4,352 or more
unfoldable pub place_refusal : ℕ → ℕ
place_refusal at = if ltb at buffer_size then done else past_buffer

-- TRANSEL v: no. 5 where v is above 63 or the place, its start, is 4,352 or more
unfoldable pub sel_refusal : List ℕ → ℕ → ℕ
sel_refusal lens v = if ltb 63 v then past_buffer else place_refusal (start_of lens v)

-- DATA uses its own pointer: the place at which it stands, one of the buffer and configured. With a sum above 4,352 both limits hold
unfoldable pub spot_of : List ℕ → ℕ → Option ℕ
spot_of lens at = if ltb at buffer_size then (if configured_at lens at then Some at else None) else None

-- DATA at 4,352, or at a place that is not configured: no. 5
abbrev pub spot_refusal : Option ℕ → ℕ
spot_refusal (Some i) = done
spot_refusal None = past_buffer

-- a write to DATA: no. 3, no. 5
unfoldable pub data_refusal : Phase → Option ℕ → ℕ
data_refusal p s = if active_of p then locked else spot_refusal s

-- ---- AIPTRRST and BPTRRST

-- AIPTRRST zeroes the two table pointers, BPTRRST BYTECOUNT's
unfoldable pub rewound : Bool → ℕ → ℕ
rewound reset at = if reset then 0 else at

-- where that is 4,352 or more, DATA points at 4,352
unfoldable pub at_most : ℕ → ℕ
at_most place = if ltb place buffer_size then place else buffer_size

-- AIPTRRST points DATA at start plus TRANOFS
unfoldable pub pointed_at : Bool → ℕ → ℕ → ℕ
pointed_at aiptrrst place at = if aiptrrst then at_most place else at

-- and the answer is no. 5
unfoldable pub overrun_of : Bool → ℕ → Bool
overrun_of aiptrrst place = if aiptrrst then leb buffer_size place else false

-- ---- the key of PRESET

-- whether a register is PRESET
abbrev pub preset_of : Register → Bool
preset_of (Status n) = false
preset_of Control = false
preset_of Chstatus = false
preset_of Intmsk = false
preset_of Slatable = false
preset_of Tranconfig = false
preset_of Data = false
preset_of Transel = false
preset_of Tranofs = false
preset_of Bytecount = false
preset_of (Setting n) = false
preset_of Preset = true

-- writing A5h to PRESET is kept; any other write at that channel's addresses forgets it. CTRLPRESET does so for the whole part
unfoldable pub key_after : Bool → ℕ → Bool
key_after preset v = if preset then eqb v 0xA5 else false

-- and then 5Ah resets
unfoldable pub resets_of : Bool → ℕ → Bool → Bool
resets_of preset v key = if preset then (if key then eqb v 0x5A else false) else false

-- ---- CONTROL writes apply TP and TE (Idle only)
unfoldable pub kept_if : Bool → Bool → Bool → Bool
kept_if active old new = if active then old else new
