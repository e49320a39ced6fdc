-- What a logger on the wires of one channel has, and what it counts. It sees the events that were answered 0, the actions, the channel's kind and the two
-- tables; it sees neither the phase nor BYTECOUNT.
use Rattle.std.specs.Prelude.{ℕ, ◌+◌, ◌<◌, Bool, true, false, List, [], ◌∷◌, ◌≡◌, eqb, get_or, if◌then◌else◌}
use Rattle.rules.specs.declared.parts.Kind.{Kind}
use Rattle.rules.specs.Tables.{start_of, reads_of, first_sent}
use Rattle.rules.specs.declared.wires.Event.{Event}
use Rattle.rules.specs.declared.wires.Event.TheVariants.{Ninth, Byte, Tick, Stop, Sda, Scl, Ill, Sent}
use Rattle.rules.specs.declared.wires.Level.TheVariants.{Low, High}
use Rattle.rules.specs.declared.wires.Action.{Action}
use Rattle.rules.specs.declared.wires.Action.TheVariants.{Nothing, S, R, D, C, A, Np, Nr, P}

-- an event that the channel answered with 0, or none
pub data Heard : Type 0 where
  none : Heard
  event : Event → Heard

-- a step as the logger has it: what was heard, and what the channel did
pub record Entry : Type 0 where
  pub heard : Heard
  pub action : Action

-- ---- the events that are counted

-- the ACK, NACK, BYTE and STOP events, and SENT as ACK; TICK does not count
abbrev pub cost_of : Heard → ℕ
cost_of none = 0
cost_of (event (Ninth l)) = 1
cost_of (event (Byte b)) = 1
cost_of (event Tick) = 0
cost_of (event Stop) = 1
cost_of (event Sda) = 0
cost_of (event Scl) = 0
cost_of (event Ill) = 0
cost_of (event Sent) = 1

-- SDA, SCL and ILL
abbrev pub fault_of : Heard → ℕ
fault_of none = 0
fault_of (event (Ninth l)) = 0
fault_of (event (Byte b)) = 0
fault_of (event Tick) = 0
fault_of (event Stop) = 0
fault_of (event Sda) = 1
fault_of (event Scl) = 1
fault_of (event Ill) = 1
fault_of (event Sent) = 0

abbrev pub spent : List Entry → ℕ
spent [] = 0
spent (x ∷ l) = cost_of x.heard + spent l

abbrev pub faults : List Entry → ℕ
faults [] = 0
faults (x ∷ l) = fault_of x.heard + faults l

-- a frame is over when STOP, SDA, SCL or ILL is heard
abbrev pub ends_of : Heard → Bool
ends_of none = false
ends_of (event (Ninth l)) = false
ends_of (event (Byte b)) = false
ends_of (event Tick) = false
ends_of (event Stop) = true
ends_of (event Sda) = true
ends_of (event Scl) = true
ends_of (event Ill) = true
ends_of (event Sent) = false

-- ---- between two entries: the transaction addressed last, how many of its bytes were sent, and whether the last thing sent is one of them
pub record Watch : Type 0 where
  pub at : ℕ
  pub given : ℕ
  pub out : Bool

abbrev pub addressing : ℕ → Watch
addressing n = record { at = n; given = 0; out = false }

abbrev still : Watch → Watch
still w = record { at = w.at; given = w.given; out = false }

-- whom the channel addresses: SLATABLE, and its kind, by which some are skipped
pub record Slaves : Type 0 where
  pub kind : Kind
  pub table : List ℕ

-- the first transaction from n that is not skipped, or the count
abbrev pub next_from : Slaves → List ℕ → ℕ → ℕ
next_from sla lens n = first_sent sla.kind sla.table lens n (get_or lens 0 0)

-- a START addresses the first transaction that is not skipped, a repeated START the next one
abbrev pub watch_after : Slaves → List ℕ → Watch → Action → Watch
watch_after sla lens w Nothing = w
watch_after sla lens w (S x) = addressing (next_from sla lens 0)
watch_after sla lens w (R x) = addressing (next_from sla lens (w.at + 1))
watch_after sla lens w (D b) = record { at = w.at; given = w.given + 1; out = true }
watch_after sla lens w C = still w
watch_after sla lens w A = still w
watch_after sla lens w Np = still w
watch_after sla lens w (Nr x) = addressing (next_from sla lens (w.at + 1))
watch_after sla lens w P = still w

-- ---- a data byte acknowledged (an ACK, or SENT, where one was sent last) or received
abbrev pub data_heard : Watch → Heard → Bool
data_heard w none = false
data_heard w (event (Ninth Low)) = w.out
data_heard w (event (Ninth High)) = false
data_heard w (event (Byte b)) = true
data_heard w (event Tick) = false
data_heard w (event Stop) = false
data_heard w (event Sda) = false
data_heard w (event Scl) = false
data_heard w (event Ill) = false
data_heard w (event Sent) = w.out

-- 1 where it is one of transaction k
unfoldable pub one_of : Bool → ℕ → ℕ → ℕ
one_of heard at k = if heard then (if eqb at k then 1 else 0) else 0

-- the data bytes of transaction k that were acknowledged or received
abbrev pub acknowledged : Slaves → List ℕ → ℕ → Watch → List Entry → ℕ
acknowledged sla lens k w [] = 0
acknowledged sla lens k w (x ∷ l) = one_of (data_heard w x.heard) w.at k + acknowledged sla lens k (watch_after sla lens w x.action) l

-- ---- the bytes sent of transaction k, in order
abbrev pub with_data : Bool → Action → List ℕ → List ℕ
with_data here Nothing l = l
with_data here (S x) l = l
with_data here (R x) l = l
with_data here (D b) l = if here then b ∷ l else l
with_data here C l = l
with_data here A l = l
with_data here Np l = l
with_data here (Nr x) l = l
with_data here P l = l

abbrev pub sent : Slaves → List ℕ → ℕ → Watch → List Entry → List ℕ
sent sla lens k w [] = []
sent sla lens k w (x ∷ l) = with_data (eqb w.at k) x.action (sent sla lens k (watch_after sla lens w x.action) l)

-- ---- what an action of a frame carries: a repeated START the SLATABLE byte of the next transaction that is not skipped, and there is one; a D, of a write,
-- the buffer's byte at its start plus j, where j of its bytes were sent before and j is below its length. There is no second START
abbrev pub CarriesNext : Slaves → List ℕ → ℕ → ℕ → Type 0
CarriesNext sla lens next x = (next < get_or lens 0 0) × (x ≡ get_or sla.table next 0)

abbrev pub Carries : Slaves → List ℕ → List ℕ → Watch → Action → Type 0
Carries sla lens m w Nothing = Unit {0}
Carries sla lens m w (S x) = ⊥
Carries sla lens m w (R x) = CarriesNext sla lens (next_from sla lens (w.at + 1)) x
Carries sla lens m w (D b) =
    (reads_of (get_or sla.table w.at 0) ≡ false) × (w.given < get_or lens (w.at + 1) 0) × (b ≡ get_or m (start_of lens w.at + w.given) 0)
Carries sla lens m w C = Unit {0}
Carries sla lens m w A = Unit {0}
Carries sla lens m w Np = Unit {0}
Carries sla lens m w (Nr x) = CarriesNext sla lens (next_from sla lens (w.at + 1)) x
Carries sla lens m w P = Unit {0}
