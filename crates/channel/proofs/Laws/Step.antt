-- What a step that is not refused by no. 9 may rely on.
use Rattle.std.specs.Prelude.{Option, Some, Result, Ok}
use mathlib.Core.Bool.{Bool, true}
use mathlib.Core.List.{List}
use mathlib.Core.Path.{◌≡◌, sym, ◌∙◌, ap}
use Prim.Native.Nat.{ℕ, ◌+◌, ◌<◌, ◌≤◌}
use native.Mathlib.Omega.{arith}
use borrow.Author.Tests.{eqb-true, ltb-true}
use lib.Dec.{eqb}
use lib.ListN.{length, get_or}
use Rattle.laws.specs.Cases.{accepted, past, both}
use Rattle.rules.specs.declared.registers.Register.{Register}
use Rattle.rules.specs.declared.parts.Kind.{Kind}
use Rattle.rules.specs.declared.state.Phase.{Phase}
use Rattle.rules.specs.declared.state.Phase.TheVariants.{Sending, Receiving}
use Rattle.rules.specs.declared.wires.Event.{Event}
use Rattle.sequence.specs.declared.wires.Turn.{Turn}
use Rattle.rules.specs.declared.numbers.Refusal.{Refusal}
use Rattle.rules.specs.Numbers.{buffer_size, done, out_of_range, number_of}
use Rattle.rules.specs.Tables.{reads_of}
use Rattle.bounds.specs.Range.{counted_in, frame_at, frame_in}
use Rattle.bounds.proofs.Laws.Range.{stands_of, frame-counted, stands_running}
use Rattle.sequence.proofs.Laws.Meeting.{Meeting, meeting}
use Rattle.sequence.proofs.Laws.Meeting.Meeting.{unawaited, ack_address_lem, ack_sending_lem, receive, nack_address, nack_sending, begin, late, end, sda, scl, ill}
use Rattle.rules.specs.Facts.{Known, KnownPlace, Running}
use Rattle.head.specs.declared.state.Head.{Head}
use Rattle.head.specs.Range.{head_in}
use Rattle.head.proofs.Laws.Range.{head_count}
use Rattle.channel.specs.declared.state.Channel.{Channel}
use Rattle.channel.specs.Range.{in_range}
use Rattle.channel.specs.declared.state.Stepped.{Stepped}
use Rattle.channel.specs.State.{Served, leaving, count_of}
use Rattle.head.specs.Head.{framecnt_of, kind_of, turn_at}
use Rattle.channel.specs.Step.{range_number}
use Rattle.channel.specs.Facts.{Accepted, Meets}
use Rattle.channel.proofs.Laws.Range.{range_count, range_frame}

pub accepts : (c : Channel) (m : List ℕ) (r : Result (Unit {0}) Refusal) (t : Unit {0}) → number_of r ≡ range_number (length m) (in_range c) → r ≡ Ok t → Accepted c m
unfolding range_number
accepts c m r t e q =
    let z = rw q at e in
    let a = accepted (eqb (length m) buffer_size) _ out_of_range (omega arith) (sym z) in
    record { ranged = (accepted (in_range c) done out_of_range (omega arith) a.1).0; whole = eqb-true (length m) buffer_size a.0 }

-- a head that is in range beside a count
pub ranged_count : (h : Head) (n : ℕ) (b : Bool) → b ≡ head_in h n → b ≡ true → n ≤ 64
ranged_count h n b e t = head_count h n (sym e ∙ t)

pub ruleset ranged = (ranged_count)

-- what a step leaves, where no byte is changed
pub keeps : (m : List ℕ) (s t : Stepped) → s ≡ t → leaving m s ≡ leaving m t
keeps m s t e = rw e

-- and its two parts
pub steps : (m : List ℕ) (s : Stepped) (x : Served) → leaving m s ≡ x → (s ≡ x.stepped) × (m ≡ x.bytes)
steps m s x e = (ap (λ (y : Served). y.stepped) e, ap (λ (y : Served). y.bytes) e)

pub known_some : (p : Option Register) (reg : Register) → KnownPlace p → p ≡ Some reg → Known reg
known_some p reg h e = rw e at h

-- ---- an event meets what the range says of its phase
frame_running : (kind : Kind) (p : Phase) (n : ℕ) (sla lens counts : List ℕ) → get_or lens 0 0 ≤ 64 → frame_at kind p n sla lens counts ≡ true → Running lens n
frame_running kind p n sla lens counts k e = stands_running kind sla lens counts n (stands_of kind p sla lens counts n k e)

frame-sending : (kind : Kind) (n : ℕ) (sla lens counts : List ℕ) → frame_at kind (Sending n) n sla lens counts ≡ true → get_or counts n 0 < get_or lens (n + 1) 0
unfolding counted_in
frame-sending kind n sla lens counts e = ltb-true _ _ (past (reads_of (get_or sla n 0)) _ (frame-counted kind (Sending n) sla lens counts n e)).1

frame_receiving : (kind : Kind) (n : ℕ) (sla lens counts : List ℕ) → frame_at kind (Receiving n) n sla lens counts ≡ true → get_or counts n 0 < get_or lens (n + 1) 0
unfolding counted_in
frame_receiving kind n sla lens counts e = ltb-true _ _ (both (reads_of (get_or sla n 0)) _ (frame-counted kind (Receiving n) sla lens counts n e)).1

module _ (c : Channel) (k : count_of c ≤ 64) where
  In : Phase → Type 0
  In p = frame_in (kind_of c.head) p c.slatable c.tranconfig c.bytecount ≡ true

  met_meets : (kind : Kind) (p : Phase) (e : Event) (t : Turn) → Meeting kind p e t → In p → Meets c t
  unfolding In frame_in
  met_meets kind p e t unawaited h = tt
  met_meets kind p e t (ack_address_lem {n}) h = frame_running _ _ n _ _ _ k h
  met_meets kind p e t (ack_sending_lem {n}) h = record { running = frame_running _ _ n _ _ _ k h; short = frame-sending _ n _ _ _ h }
  met_meets kind p e t (receive {n} {b}) h = record { running = frame_running _ _ n _ _ _ k h; short = frame_receiving _ n _ _ _ h }
  met_meets kind p e t (nack_address {n}) h = frame_running _ _ n _ _ _ k h
  met_meets kind p e t (nack_sending {n}) h = frame_running _ _ n _ _ _ k h
  met_meets kind p e t begin h = k
  met_meets kind p e t (late q) h = tt
  met_meets kind p e t end h = tt
  met_meets kind p e t sda h = tt
  met_meets kind p e t (scl q) h = tt
  met_meets kind p e t ill h = tt

pub turn_meets : (c : Channel) (e : Event) (t : Turn) → in_range c ≡ true → t ≡ turn_at c.head e → Meets c t
unfolding In
turn_meets c e t r q =
    rw q (met_meets c (range_count c r) _ _ e _ (meeting (kind_of c.head) c.head.walk.phase c.head.regs.te (framecnt_of c.head) e) (range_frame c r))
