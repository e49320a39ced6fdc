-- The rules that need no table: what each makes of a channel's head.
use Rattle.std.specs.Prelude.{ℕ, ◌+◌, Bool}
use Rattle.rules.specs.declared.parts.Kind.{Kind}
use Rattle.rules.specs.declared.state.Phase.{Phase}
use Rattle.rules.specs.declared.state.Phase.TheVariants.{Stopping, Receiving}
use Rattle.rules.specs.Registers.{bit_of, femsk}
use Rattle.rules.specs.declared.wires.Action.{Action}
use Rattle.rules.specs.declared.wires.Action.TheVariants.{C, P}
use Rattle.sequence.specs.declared.wires.Ending.{Ending}
use Rattle.rules.specs.declared.wires.Event.{Event}
use Rattle.sequence.specs.declared.wires.Fault.{Fault}
use Rattle.sequence.specs.declared.wires.Turn.{Turn}
use Rattle.sequence.specs.Wires.{halted_of, rest_of, ending_of, turn_of}
use Rattle.sequence.specs.Walk.{idle, waiting, to_phase, sto_recorded, seq_recorded, error_noted, nack_flags, fault_flags, late_flags, late_walk, end_flags, end_walk}
use Rattle.head.specs.declared.state.Head.{Head}
use Rattle.head.specs.State.{Headed, with_regs, with_flags, with_ptrs, with_walk, with_state, acted}

-- ---- words

-- FRAMECNT
abbrev pub framecnt_of : Head → ℕ
framecnt_of h = h.settings.framecnt

-- FE or STO recorded
abbrev pub halt_of : Head → Bool
halt_of h = halted_of h.walk.fe h.walk.sto

abbrev pub femsk_of : Head → Bool
femsk_of h = bit_of h.regs.intmsk femsk

-- Fm+ or UFm
abbrev pub kind_of : Head → Kind
kind_of h = h.straps.kind

-- what event e comes to
abbrev pub turn_at : Head → Event → Turn
turn_at h e = turn_of (kind_of h) h.walk.phase h.regs.te (framecnt_of h) e

-- ---- the walk: its phase, or a new one
abbrev pub in_phase : Head → Phase → Head
in_phase h p = with_walk h (to_phase h.walk p)

abbrev pub idled : Head → Head
idled h = with_walk h idle

-- ---- STOP: after the last, or cut short
unfoldable pub stopped : Head → Action → Headed
stopped h a = acted (in_phase h Stopping) a

-- ---- a read always answers C
unfoldable pub clocked : Head → ℕ → Headed
clocked h n = acted (in_phase h (Receiving n)) C

-- ---- NACK: WE for a write, RE for a read
abbrev pub noted : Head → Bool → Head
noted h read = with_flags h (nack_flags h.flags read)

-- unmasked: P, an error end
unfoldable pub failed : Head → Headed
failed h = acted (with_walk h (error_noted h.walk)) P

-- ---- late with FEMSK 1: FE set, no more; otherwise FE is recorded
abbrev pub late_by : Head → Head
late_by h = with_state h (late_flags h.flags (femsk_of h)) (late_walk h.walk (femsk_of h))

-- ---- SDA sets DAE, SCL CLE, ILL SSE: the channel goes Idle, no action
abbrev pub faulted : Head → Fault → Head
faulted h f = with_state h (fault_flags h.flags f) idle

-- ---- the frame's end

-- the flags and the walk that the ending leaves
abbrev pub ended_by : Head → Ending → Head
ended_by h e = with_state h (end_flags h.flags h.regs.te (framecnt_of h) e) (end_walk e)

-- frame end, first that applies
unfoldable pub frame_ended : Head → Head
frame_ended h =
    ended_by h
    (ending_of h.walk.fe h.walk.error h.walk.sto h.walk.seq (rest_of h.regs.te (framecnt_of h) h.walk.ended))

-- ---- CONTROL: Waiting, with no frame ended; STO or STOSEQ recorded
abbrev pub waits : Head → Head
waits h = with_walk h (waiting 0)

abbrev pub sto_taken : Head → Head
sto_taken h = with_walk h (sto_recorded h.walk)

abbrev pub seq_taken : Head → Head
seq_taken h = with_walk h (seq_recorded h.walk)

-- ---- a table's pointer moved by one; DATA's to a place
abbrev pub sla_next : Head → Head
sla_next h = with_ptrs h (record { sla = h.ptrs.sla + 1; conf = h.ptrs.conf; buf = h.ptrs.buf; count = h.ptrs.count })

abbrev pub conf_next : Head → Head
conf_next h = with_ptrs h (record { sla = h.ptrs.sla; conf = h.ptrs.conf + 1; buf = h.ptrs.buf; count = h.ptrs.count })

abbrev pub count_next : Head → Head
count_next h = with_ptrs h (record { sla = h.ptrs.sla; conf = h.ptrs.conf; buf = h.ptrs.buf; count = h.ptrs.count + 1 })

abbrev pub data_to : Head → ℕ → Head
data_to h n = with_ptrs h (record { sla = h.ptrs.sla; conf = h.ptrs.conf; buf = n; count = h.ptrs.count })

abbrev pub data_next : Head → Head
data_next h = data_to h (h.ptrs.buf + 1)

-- ---- registers replaced: INTMSK; TRANSEL and TRANOFS; TP and TE
abbrev pub mask_to : Head → ℕ → Head
mask_to h n = with_regs h (record { intmsk = n; transel = h.regs.transel; tranofs = h.regs.tranofs; tp = h.regs.tp; te = h.regs.te })

abbrev pub place_to : Head → ℕ → ℕ → Head
place_to h v o = with_regs h (record { intmsk = h.regs.intmsk; transel = v; tranofs = o; tp = h.regs.tp; te = h.regs.te })

abbrev pub mode_to : Head → Bool → Bool → Head
mode_to h tp te = with_regs h (record { intmsk = h.regs.intmsk; transel = h.regs.transel; tranofs = h.regs.tranofs; tp = tp; te = te })
