-- What an event meets: each turn, with the kind, the phase and the event that lead to it. One table instead of a case for each kind, phase and event.
use Rattle.std.specs.Prelude.{ℕ, Bool, true, ◌≡◌, refl}
use Rattle.laws.specs.Cases.{pick_holds}
use Rattle.rules.specs.declared.parts.Kind.{Kind}
use Rattle.rules.specs.declared.parts.Kind.TheVariants.{Fm, Ufm}
use Rattle.rules.specs.declared.state.Phase.{Phase}
use Rattle.rules.specs.declared.state.Phase.TheVariants.{Idle, Address, Sending, Receiving, Stopping, Waiting}
use Rattle.rules.specs.Registers.{active_of}
use Rattle.rules.specs.declared.wires.Event.{Event}
use Rattle.rules.specs.declared.wires.Event.TheVariants.{Ninth, Byte, Tick, Stop, Sda, Scl, Ill, Sent}
use Rattle.rules.specs.declared.wires.Level.TheVariants.{Low, High}
use Rattle.sequence.specs.declared.wires.Beat.TheVariants.{Late as LateBeat}
use Rattle.sequence.specs.declared.wires.Fault.TheVariants.{Dae, Cle, Sse}
use Rattle.sequence.specs.declared.wires.Turn.{Turn}
use Rattle.sequence.specs.declared.wires.Turn.TheVariants.{Unawaited, AckAddress, AckSending, Receive, NackAddress, NackSending, Begin, Late, End, Fault as Faulty}
use Rattle.sequence.specs.Wires.{ack_turn, byte_turn, nack_turn, stop_turn, sda_turn, scl_turn, beat_of, beat_turn, ticking_of, tick_turn, heard_turn, turn_of}

-- what tells that a byte went out: ACK, or on a UFm channel SENT
abbrev pub ack_of : Kind → Event
ack_of Fm = Ninth Low
ack_of Ufm = Sent

pub data Meeting : Kind → Phase → Event → Turn → Type 0 where
  unawaited : {k : Kind} {p : Phase} {e : Event} → Meeting k p e Unawaited
  ack_address_lem : {k : Kind} {n : ℕ} → Meeting k (Address n) (ack_of k) (AckAddress n)
  ack_sending_lem : {k : Kind} {n : ℕ} → Meeting k (Sending n) (ack_of k) (AckSending n)
  receive : {n b : ℕ} → Meeting Fm (Receiving n) (Byte b) (Receive n b)
  nack_address : {n : ℕ} → Meeting Fm (Address n) (Ninth High) (NackAddress n)
  nack_sending : {n : ℕ} → Meeting Fm (Sending n) (Ninth High) (NackSending n)
  begin : {k : Kind} → Meeting k Waiting Tick Begin
  late : {k : Kind} {p : Phase} → beat_of p ≡ LateBeat → Meeting k p Tick Late
  end : {k : Kind} → Meeting k Stopping Stop End
  sda : {n : ℕ} → Meeting Fm (Address n) Sda (Faulty Dae)
  scl : {p : Phase} → active_of p ≡ true → Meeting Fm p Scl (Faulty Cle)
  ill : {k : Kind} {p : Phase} → Meeting k p Ill (Faulty Sse)

beat : (k : Kind) (p : Phase) → Meeting k p Tick (beat_turn (beat_of p))
beat k Idle = unawaited
beat k (Address n) = late refl
beat k (Sending n) = late refl
beat k (Receiving n) = late refl
beat k Stopping = late refl
beat k Waiting = begin

ack : (k : Kind) (p : Phase) → Meeting k p (ack_of k) (ack_turn p)
ack k Idle = unawaited
ack k (Address n) = ack_address_lem
ack k (Sending n) = ack_sending_lem
ack k (Receiving n) = unawaited
ack k Stopping = unawaited
ack k Waiting = unawaited

nack : (p : Phase) → Meeting Fm p (Ninth High) (nack_turn p)
nack Idle = unawaited
nack (Address n) = nack_address
nack (Sending n) = nack_sending
nack (Receiving n) = unawaited
nack Stopping = unawaited
nack Waiting = unawaited

byte : (p : Phase) (b : ℕ) → Meeting Fm p (Byte b) (byte_turn p b)
byte Idle b = unawaited
byte (Address n) b = unawaited
byte (Sending n) b = unawaited
byte (Receiving n) b = receive
byte Stopping b = unawaited
byte Waiting b = unawaited

stop : (k : Kind) (p : Phase) → Meeting k p Stop (stop_turn p)
stop k Idle = unawaited
stop k (Address n) = unawaited
stop k (Sending n) = unawaited
stop k (Receiving n) = unawaited
stop k Stopping = end
stop k Waiting = unawaited

held : (p : Phase) → Meeting Fm p Sda (sda_turn p)
held Idle = unawaited
held (Address n) = sda
held (Sending n) = unawaited
held (Receiving n) = unawaited
held Stopping = unawaited
held Waiting = unawaited

slow : (p : Phase) → Meeting Fm p Scl (scl_turn p)
slow Idle = unawaited
slow (Address n) = scl refl
slow (Sending n) = scl refl
slow (Receiving n) = scl refl
slow Stopping = scl refl
slow Waiting = scl refl

-- what it comes to is the same
pub ack_turn_lem : (k : Kind) (p : Phase) (te : Bool) (n : ℕ) → turn_of k p te n (ack_of k) ≡ ack_turn p
unfolding turn_of heard_turn
ack_turn_lem Fm p te n = refl
ack_turn_lem Ufm p te n = refl

pub meeting : (k : Kind) (p : Phase) (te : Bool) (n : ℕ) (e : Event) → Meeting k p e (turn_of k p te n e)
unfolding turn_of heard_turn tick_turn
meeting Fm p te n (Ninth Low) = ack Fm p
meeting Fm p te n (Ninth High) = nack p
meeting Ufm p te n (Ninth l) = unawaited
meeting Fm p te n (Byte b) = byte p b
meeting Ufm p te n (Byte b) = unawaited
meeting k p te n Tick = pick_holds (Meeting k p Tick) (ticking_of te n) (λ _. beat k p) (λ _. unawaited)
meeting k p te n Stop = stop k p
meeting Fm p te n Sda = held p
meeting Ufm p te n Sda = unawaited
meeting Fm p te n Scl = slow p
meeting Ufm p te n Scl = unawaited
meeting k p te n Ill = ill
meeting Fm p te n Sent = unawaited
meeting Ufm p te n Sent = ack Ufm p
