-- Document 01, 'The part as the processor sees it': a channel's registers, and the bits of CONTROL, CHSTATUS and INTMSK.
use Rattle.std.specs.Prelude.{ℕ, ◌+◌, ◌-◌, ◌*◌, ◌/◌, ◌%◌, Bool, true, false, Option, Some, None, eqb, ltb, if◌then◌else◌}
use Rattle.rules.specs.declared.state.Phase.{Phase}
use Rattle.rules.specs.declared.state.Phase.TheVariants.{Idle, Address, Sending, Receiving, Stopping, Waiting}
use Rattle.rules.specs.declared.state.Flags.{Flags}
use Rattle.rules.specs.declared.registers.Command.{Command}
use Rattle.rules.specs.declared.registers.Register.{Register}
use Rattle.rules.specs.declared.registers.Register.TheVariants.{Status, Control, Chstatus, Intmsk, Slatable, Tranconfig, Data, Transel, Tranofs, Bytecount, Setting, Preset}

-- 64c + n: STATUS n of channel c
unfoldable pub status_place : ℕ → ℕ → Option Register
status_place c a = if eqb (a / 64) c then Some (Status (a % 64)) else None

-- +0 to +8: CONTROL, CHSTATUS, INTMSK, SLATABLE, TRANCONFIG, DATA, TRANSEL, TRANOFS, BYTECOUNT
unfoldable pub table_at : ℕ → Register
table_at n =
    if eqb n 0x0 then Control else
    if eqb n 0x1 then Chstatus else
    if eqb n 0x2 then Intmsk else
    if eqb n 0x3 then Slatable else
    if eqb n 0x4 then Tranconfig else
    if eqb n 0x5 then Data else
    if eqb n 0x6 then Transel else
    if eqb n 0x7 then Tranofs else Bytecount

-- +9 to +E: FRAMECNT, REFRATE, SCLL, SCLH, MODE, TIMEOUT; +F: PRESET
unfoldable pub setting_at : ℕ → Register
setting_at n = if eqb n 0xF then Preset else Setting (n - 0x9)

-- C0h, D0h, E0h + n
unfoldable pub register_at : ℕ → Register
register_at n = if ltb 0x8 n then setting_at n else table_at n

-- C0h, D0h, E0h: of channel c
unfoldable pub register_place : ℕ → ℕ → Option Register
register_place c a = if eqb (a / 16) (12 + c) then Some (register_at (a % 16)) else None

-- what stands at address a for channel c, 0 to 2
unfoldable pub place_of : ℕ → ℕ → Option Register
place_of c a = if ltb 2 c then None else if ltb a 0xC0 then status_place c a else register_place c a

-- the bit of weight w
abbrev pub bit_of : ℕ → ℕ → Bool
bit_of v w = eqb (v / w % 2) 1

-- CONTROL bits: 7 STOSEQ, 6 STA, 5 STO, 4 TP, 3 TE, 2 BPTRRST, 1 AIPTRRST
abbrev pub command_of : ℕ → Command
command_of v = record {
  stoseq = bit_of v 0x80;
  sta = bit_of v 0x40;
  sto = bit_of v 0x20;
  tp = bit_of v 0x10;
  te = bit_of v 0x08;
  bptrrst = bit_of v 0x04;
  aiptrrst = bit_of v 0x02;
}

-- a bit of weight w as a number
unfoldable pub weigh : Bool → ℕ → ℕ
weigh b w = if b then w else 0

-- CONTROL as it is read: bits 2 to 0 read 0
unfoldable pub control_value : Bool → Bool → Bool → Bool → Bool → ℕ
control_value seq sta sto tp te = weigh seq 0x80 + weigh sta 0x40 + weigh sto 0x20 + weigh tp 0x10 + weigh te 0x08

-- CHSTATUS: 7 SD, 6 FLD, 5 WE, 4 RE, 3 DAE, 2 CLE, 1 SSE, 0 FE
unfoldable pub chstatus_value : Flags → ℕ
chstatus_value f =
    weigh f.sd 0x80 + weigh f.fld 0x40 + weigh f.we 0x20 + weigh f.re 0x10
    + weigh f.dae 0x08 + weigh f.cle 0x04 + weigh f.sse 0x02 + weigh f.fe 0x01

-- INTMSK masks the same bits: 7 SDMSK, 6 FLDMSK, 5 WEMSK, 4 REMSK, 0 FEMSK (002, Table 10)
abbrev pub sdmsk : ℕ
sdmsk = 0x80

abbrev pub fldmsk : ℕ
fldmsk = 0x40

abbrev pub wemsk : ℕ
wemsk = 0x20

abbrev pub remsk : ℕ
remsk = 0x10

abbrev pub femsk : ℕ
femsk = 0x01

-- its bits 3 to 1 are kept 0
abbrev pub mask_kept : ℕ → ℕ
mask_kept v = v / 16 * 16 + v % 2

-- Active means not Idle; STA reads 1 then
abbrev pub active_of : Phase → Bool
active_of Idle = false
active_of (Address n) = true
active_of (Sending n) = true
active_of (Receiving n) = true
active_of Stopping = true
active_of Waiting = true
