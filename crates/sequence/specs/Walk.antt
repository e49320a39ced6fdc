-- The changes of a walk and of the flags of CHSTATUS that the rules make.
use Rattle.std.specs.Prelude.{ℕ, Bool, true, false, if◌then◌else◌}
use Rattle.rules.specs.declared.state.Phase.{Phase}
use Rattle.rules.specs.declared.state.Phase.TheVariants.{Idle, Stopping, Waiting}
use Rattle.rules.specs.declared.state.Flags.{Flags}
use Rattle.rules.specs.declared.state.Walk.{Walk}
use Rattle.sequence.specs.declared.wires.Fault.{Fault}
use Rattle.sequence.specs.declared.wires.Fault.TheVariants.{Dae, Cle, Sse}
use Rattle.sequence.specs.declared.wires.Ending.{Ending}
use Rattle.sequence.specs.declared.wires.Ending.TheVariants.{Fe, Error, Sd, Wait}
use Rattle.sequence.specs.Wires.{fld_after}

-- Idle: nothing is recorded, and the number of ended frames is 0
abbrev pub idle : Walk
idle = record { phase = Idle; ended = 0; sto = false; seq = false; fe = false; error = false }

-- Waiting, with n frames ended and nothing recorded
abbrev pub waiting : ℕ → Walk
waiting n = record { phase = Waiting; ended = n; sto = false; seq = false; fe = false; error = false }

-- the next phase, with what is recorded
abbrev pub to_phase : Walk → Phase → Walk
to_phase w p = record { phase = p; ended = w.ended; sto = w.sto; seq = w.seq; fe = w.fe; error = w.error }

-- CHSTATUS 00h
abbrev pub no_flags : Flags
no_flags = record { sd = false; fld = false; we = false; re = false; dae = false; cle = false; sse = false; fe = false }

-- ---- CONTROL

-- STO recorded
abbrev pub sto_recorded : Walk → Walk
sto_recorded w = record { phase = w.phase; ended = w.ended; sto = true; seq = w.seq; fe = w.fe; error = w.error }

-- STOSEQ recorded
abbrev pub seq_recorded : Walk → Walk
seq_recorded w = record { phase = w.phase; ended = w.ended; sto = w.sto; seq = true; fe = w.fe; error = w.error }

-- ---- NACK

-- WE set
abbrev pub we_set : Flags → Flags
we_set f = record { sd = f.sd; fld = f.fld; we = true; re = f.re; dae = f.dae; cle = f.cle; sse = f.sse; fe = f.fe }

-- RE set
abbrev pub re_set : Flags → Flags
re_set f = record { sd = f.sd; fld = f.fld; we = f.we; re = true; dae = f.dae; cle = f.cle; sse = f.sse; fe = f.fe }

-- WE for a write, RE for a read
unfoldable pub nack_flags : Flags → Bool → Flags
nack_flags f read = if read then re_set f else we_set f

-- unmasked: P, an error end
abbrev pub error_noted : Walk → Walk
error_noted w = record { phase = Stopping; ended = w.ended; sto = w.sto; seq = w.seq; fe = w.fe; error = true }

-- ---- TICK, or a trigger edge

-- FE set
abbrev pub fe_set : Flags → Flags
fe_set f = record { sd = f.sd; fld = f.fld; we = f.we; re = f.re; dae = f.dae; cle = f.cle; sse = f.sse; fe = true }

-- FE recorded
abbrev pub fe_recorded : Walk → Walk
fe_recorded w = record { phase = w.phase; ended = w.ended; sto = w.sto; seq = w.seq; fe = true; error = w.error }

-- late with FEMSK 1: FE set, no more
unfoldable pub late_flags : Flags → Bool → Flags
late_flags f femsk = if femsk then fe_set f else f

-- otherwise FE is recorded
unfoldable pub late_walk : Walk → Bool → Walk
late_walk w femsk = if femsk then w else fe_recorded w

-- ---- SDA, SCL, ILL

-- SDA sets DAE, SCL CLE, ILL SSE
unfoldable pub fault_flags : Flags → Fault → Flags
fault_flags f Dae = record { sd = f.sd; fld = f.fld; we = f.we; re = f.re; dae = true; cle = f.cle; sse = f.sse; fe = f.fe }
fault_flags f Cle = record { sd = f.sd; fld = f.fld; we = f.we; re = f.re; dae = f.dae; cle = true; sse = f.sse; fe = f.fe }
fault_flags f Sse = record { sd = f.sd; fld = f.fld; we = f.we; re = f.re; dae = f.dae; cle = f.cle; sse = true; fe = f.fe }

-- ---- a frame's end

-- SD set, with FLD as given
abbrev pub sd_set : Flags → Bool → Flags
sd_set f fld = record { sd = true; fld = fld; we = f.we; re = f.re; dae = f.dae; cle = f.cle; sse = f.sse; fe = f.fe }

-- FE, Idle; Idle; SD, with FLD under its rule, Idle; SD, Waiting
unfoldable pub end_flags : Flags → Bool → ℕ → Ending → Flags
end_flags f te framecnt Fe = fe_set f
end_flags f te framecnt Error = f
end_flags f te framecnt Sd = sd_set f (fld_after te framecnt f.fld)
end_flags f te framecnt (Wait n) = sd_set f f.fld

-- the same: Idle, or Waiting
unfoldable pub end_walk : Ending → Walk
end_walk Fe = idle
end_walk Error = idle
end_walk Sd = idle
end_walk (Wait n) = waiting n
