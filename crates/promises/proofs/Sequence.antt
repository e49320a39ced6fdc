-- No second outcome of what crate sequence defines and functions of head and channel compute as a part of theirs.
use Rattle.std.specs.Prelude.{ℕ, ◌+◌, Bool, List, ◌≡◌, get_or, set}
use Rattle.rules.specs.declared.state.Flags.{Flags}
use Rattle.rules.specs.declared.state.Phase.{Phase}
use Rattle.rules.specs.declared.state.Walk.{Walk}
use Rattle.sequence.specs.declared.wires.Ending.{Ending}
use Rattle.sequence.specs.declared.wires.Fault.{Fault}
use Rattle.sequence.specs.Walk.{to_phase, sto_recorded, seq_recorded, error_noted, nack_flags, fault_flags, late_flags, late_walk, end_flags}
use Rattle.promises.specs.Promise.{Once, no_second}

pub to_phase_once : (w : Walk) (phase : Phase) → Once Walk (λ r. r ≡ to_phase w phase)
to_phase_once w phase = no_second (λ r h. h)

pub record_sto_once : (w : Walk) → Once Walk (λ r. r ≡ sto_recorded w)
record_sto_once w = no_second (λ r h. h)

pub record_seq_once : (w : Walk) → Once Walk (λ r. r ≡ seq_recorded w)
record_seq_once w = no_second (λ r h. h)

pub note_error_once : (w : Walk) → Once Walk (λ r. r ≡ error_noted w)
note_error_once w = no_second (λ r h. h)

pub nack_flags_once : (f : Flags) (read : Bool) → Once Flags (λ r. r ≡ nack_flags f read)
nack_flags_once f read = no_second (λ r h. h)

pub fault_flags_once : (f : Flags) (fault : Fault) → Once Flags (λ r. r ≡ fault_flags f fault)
fault_flags_once f fault = no_second (λ r h. h)

pub late_flags_once : (f : Flags) (femsk : Bool) → Once Flags (λ r. r ≡ late_flags f femsk)
late_flags_once f femsk = no_second (λ r h. h)

pub late_walk_once : (w : Walk) (femsk : Bool) → Once Walk (λ r. r ≡ late_walk w femsk)
late_walk_once w femsk = no_second (λ r h. h)

pub end_flags_once : (f : Flags) (te : Bool) (framecnt : ℕ) (e : Ending) → Once Flags (λ r. r ≡ end_flags f te framecnt e)
end_flags_once f te framecnt e = no_second (λ r h. h)

pub count_one_once : (counts : List ℕ) (n : ℕ) → Once (List ℕ) (λ counts'. counts' ≡ set counts n (get_or counts n 0 + 1))
count_one_once counts n = no_second (λ r h. h)
