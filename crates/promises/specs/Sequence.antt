-- No second outcome of crate sequence: a statement for each public function.
use Rattle.std.specs.Prelude.{ℕ, ◌≤◌, ◌+◌, Bool, List, ◌≡◌, get_or, set}
use Rattle.rules.specs.declared.parts.Kind.{Kind}
use Rattle.rules.specs.Tables.{start_of}
use Rattle.rules.specs.declared.registers.Command.{Command}
use Rattle.rules.specs.declared.state.Flags.{Flags}
use Rattle.rules.specs.declared.state.Phase.{Phase}
use Rattle.rules.specs.declared.state.Walk.{Walk}
use Rattle.rules.specs.declared.wires.Action.{Action}
use Rattle.sequence.specs.declared.wires.Ask.{Ask}
use Rattle.sequence.specs.declared.wires.Beat.{Beat}
use Rattle.sequence.specs.declared.wires.Beginning.{Beginning}
use Rattle.rules.specs.declared.wires.Edge.{Edge}
use Rattle.sequence.specs.declared.wires.Ending.{Ending}
use Rattle.rules.specs.declared.wires.Event.{Event}
use Rattle.sequence.specs.declared.wires.Move.{Move}
use Rattle.sequence.specs.declared.wires.Next.{Next}
use Rattle.sequence.specs.declared.wires.Tail.{Tail}
use Rattle.sequence.specs.declared.wires.Turn.{Turn}
use Rattle.sequence.specs.Facts.{Exists, Ready}
use Rattle.sequence.specs.Walk.{idle, waiting, no_flags, end_walk}
use Rattle.sequence.specs.Wires.{turn_of, edge_beat, halted_of, reach_of, move_of, next_of, stop_by, again_by, masked_of, beginning_of, rest_of, ending_of, fld_after, ask_of}
use Rattle.promises.specs.Promise.{Once, no_second}

-- ---- walk.rt
pub idle_walk_once : Once Walk (λ r. r ≡ idle)
idle_walk_once = no_second (λ r h. h)

pub waiting_walk_once : (ended : ℕ) → Once Walk (λ r. r ≡ waiting ended)
waiting_walk_once ended = no_second (λ r h. h)

pub no_flags_once : Once Flags (λ r. r ≡ no_flags)
no_flags_once = no_second (λ r h. h)

pub end_walk_once : (e : Ending) → Once Walk (λ r. r ≡ end_walk e)
end_walk_once e = no_second (λ r h. h)

-- ---- wires.rt
pub fld_after_once : (te : Bool) (framecnt : ℕ) (old : Bool) → Once Bool (λ r. r ≡ fld_after te framecnt old)
fld_after_once te framecnt old = no_second (λ r h. h)

pub turn_of_once : (kind : Kind) (p : Phase) (te : Bool) (framecnt : ℕ) (e : Event) → Once Turn (λ r. r ≡ turn_of kind p te framecnt e)
turn_of_once kind p te framecnt e = no_second (λ r h. h)

pub edge_beat_once : (p : Phase) (te tp : Bool) (edge : Edge) → Once Beat (λ r. r ≡ edge_beat p te tp edge)
edge_beat_once p te tp edge = no_second (λ r h. h)

pub halted_once : (fe sto : Bool) → Once Bool (λ r. r ≡ halted_of fe sto)
halted_once fe sto = no_second (λ r h. h)

pub reach_once : (kind : Kind) (halt : Bool) (n : ℕ) (sla lens : List ℕ) → Once ℕ (λ r. (r ≡ reach_of kind halt n sla lens) × (n + 1 ≤ r) × (r ≤ 64))
reach_once kind halt n sla lens = no_second (λ r h. h.0)

pub next_move_once : (halt : Bool) (to count : ℕ) → Once Move (λ r. (r ≡ move_of halt to count) × Exists r)
next_move_once halt to count = no_second (λ r h. h.0)

pub next_byte_once : (halt : Bool) (n len : ℕ) → Once Next (λ r. (r ≡ next_of halt n len) × Ready r n len)
next_byte_once halt n len = no_second (λ r h. h.0)

pub store_once : (lens counts mem : List ℕ) (n b : ℕ) → Once (List ℕ) (λ mem'. mem' ≡ set mem (start_of lens n + get_or counts n 0) b)
store_once lens counts mem n b = no_second (λ r h. h)

pub stop_by_once : (t : Tail) → Once Action (λ r. r ≡ stop_by t)
stop_by_once t = no_second (λ r h. h)

pub again_by_once : (t : Tail) (sla : ℕ) → Once Action (λ r. r ≡ again_by t sla)
again_by_once t sla = no_second (λ r h. h)

pub masked_once : (intmsk : ℕ) (read : Bool) → Once Bool (λ r. r ≡ masked_of intmsk read)
masked_once intmsk read = no_second (λ r h. h)

pub begins_once : (count : ℕ) (fit : Bool) → Once Beginning (λ r. r ≡ beginning_of count fit)
begins_once count fit = no_second (λ r h. h)

pub rest_once : (te : Bool) (framecnt ended : ℕ) → Once Ending (λ r. r ≡ rest_of te framecnt ended)
rest_once te framecnt ended = no_second (λ r h. h)

pub ends_once : (fe error sto seq : Bool) (rest : Ending) → Once Ending (λ r. r ≡ ending_of fe error sto seq rest)
ends_once fe error sto seq rest = no_second (λ r h. h)

pub ask_of_once : (p : Phase) (k : Command) (te over : Bool) → Once Ask (λ r. r ≡ ask_of p k te over)
ask_of_once p k te over = no_second (λ r h. h)
