-- Document 02, request Eleven: the kinds by which a capture names actions and events. This is the one table of such numbers.
use Rattle.std.specs.Prelude.{ℕ, Bool, false, List, [], ◌∷◌, Option, Some, None, eqb, if◌then◌else◌}
use Rattle.rules.specs.declared.wires.Action.{Action}
use Rattle.rules.specs.declared.wires.Action.TheVariants.{Nothing, S, R, D, C, A, Np, Nr, P}
use Rattle.rules.specs.declared.wires.Event.{Event}
use Rattle.rules.specs.declared.wires.Event.TheVariants.{Ninth, Byte, Tick, Stop, Sda, Scl, Ill, Sent}
use Rattle.rules.specs.declared.wires.Level.TheVariants.{Low, High}
use Rattle.rules.specs.declared.tags.Tag.{Tag}

-- an entry's kind and value
abbrev pub tag : ℕ → ℕ → Tag
tag k v = record { kind = k; value = v }

-- Kinds: 1 S, 2 R, 3 D, 4 C, 5 A, 6 NP, 7 NR, 8 P; kinds 1, 2, 3 and 7 carry a value, the others 0. Where nothing is done there is no entry: 0
abbrev pub action_tag : Action → Tag
action_tag Nothing = tag 0 0
action_tag (S b) = tag 1 b
action_tag (R b) = tag 2 b
action_tag (D b) = tag 3 b
action_tag C = tag 4 0
action_tag A = tag 5 0
action_tag Np = tag 6 0
action_tag (Nr b) = tag 7 b
action_tag P = tag 8 0

-- 9 ACK, 10 BYTE, 11 NACK, 12 TICK, 13 STOP, 14 SDA, 15 SCL, 16 ILL, 20 SENT; kind 10 carries a value, the others 0
abbrev pub event_tag : Event → Tag
event_tag (Ninth Low) = tag 9 0
event_tag (Byte b) = tag 10 b
event_tag (Ninth High) = tag 11 0
event_tag Tick = tag 12 0
event_tag Stop = tag 13 0
event_tag Sda = tag 14 0
event_tag Scl = tag 15 0
event_tag Ill = tag 16 0
event_tag Sent = tag 20 0

-- ---- from a tag back to the event

-- the same kind and the same value
unfoldable pub same_tag : Tag → Tag → Bool
same_tag t u = if eqb t.kind u.kind then eqb t.value u.value else false

-- an event, if the tag is its own
unfoldable pub known_as : Tag → Event → Option Event → Option Event
known_as t e rest = if same_tag t (event_tag e) then Some e else rest

-- the first of some events whose own tag it is
abbrev pub among : Tag → List Event → Option Event
among t [] = None
among t (e ∷ l) = known_as t e (among t l)

-- all events, BYTE with the byte v
abbrev pub events_with : ℕ → List Event
events_with v = Ninth Low ∷ Byte v ∷ Ninth High ∷ Tick ∷ Stop ∷ Sda ∷ Scl ∷ Ill ∷ Sent ∷ []

-- an action's kind, an unknown kind and a value where none belongs are no event's
abbrev pub event_of : Tag → Option Event
event_of t = among t (events_with t.value)
