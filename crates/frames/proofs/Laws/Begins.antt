-- A step that asks for a frame, on the level of the part; and the event that a frame awaits.
use Rattle.std.specs.Prelude.{ℕ, ◌<◌, ◌≤◌, Bool, true, false, List, ◌≡◌, refl, length}
use Rattle.std.proofs.Common.{sym, ◌∙◌, ap, ap₂, arith, le-ltb, lt-ltb}
use Rattle.laws.specs.Cases.{pick_holds}
use Rattle.rules.specs.declared.parts.Kind.{Kind}
use Rattle.rules.specs.declared.parts.Kind.TheVariants.{Fm, Ufm}
use Rattle.rules.specs.declared.state.Phase.{Phase}
use Rattle.rules.specs.declared.state.Phase.TheVariants.{Idle, Address, Sending, Receiving, Stopping, Waiting}
use Rattle.rules.specs.Tables.{reads_of}
use Rattle.rules.specs.declared.wires.Event.{Event}
use Rattle.rules.specs.declared.wires.Event.TheVariants.{Byte, Stop}
use Rattle.sequence.specs.declared.wires.Next.{Next}
use Rattle.sequence.specs.declared.wires.Next.TheVariants.{Cut, More, Over}
use Rattle.sequence.specs.declared.wires.Tail.TheVariants.{Plain, Nacked}
use Rattle.bounds.specs.Range.{frame_in}
use Rattle.bounds.proofs.Laws.Range.{no_receiving}
use Rattle.sequence.specs.Wires.{heard_turn, turn_of}
use Rattle.sequence.proofs.Laws.Meeting.{ack_of, ack_turn_lem}
use Rattle.steps.specs.declared.map.Step.TheVariants.{Wire}
use Rattle.steps.specs.declared.map.Target.{Target}
use Rattle.steps.specs.declared.answer.PartAnswer.{PartAnswer}
use Rattle.steps.specs.Map.{wire_target, target_of}
use Rattle.head.specs.Head.{framecnt_of, kind_of, stopped, clocked, turn_at}
use Rattle.channel.specs.declared.state.Channel.{Channel}
use Rattle.channel.specs.declared.state.Stepped.{Stepped}
use Rattle.channel.specs.State.{Served, count_of}
use Rattle.channel.specs.Wires.{slave_of, byte_sent, send_on, ack_address, counted_one, ack_sending, receive_on, received, turned}
use Rattle.channel.specs.Step.{event_at, served_by}
use Rattle.part.specs.Step.{one_step, target_served, forgetting, part_served}
use Rattle.channel.specs.Range.{in_range}
use Rattle.channel.proofs.Laws.Range.{range_count, range_frame}
use Rattle.part.proofs.Laws.Range.{step_accepted, accepts-whole, chan-in_range}
use Rattle.mixes.specs.Mix.{Machine}
use Rattle.independent.specs.Statement.{State, Accepted, the_part}
use Rattle.independent.proofs.Laws.Keys.{no}
use Rattle.frames.specs.Wire.{Heard, Slaves, next_from, cost_of}
use Rattle.frames.specs.Wire.Heard.{event}
use Rattle.frames.specs.Deeds.{runs_of, resets_by, asks_by}
use Rattle.frames.specs.Statement.{channel_of, buffer_of, slaves_of, first_of, Awaits, Leads, Begins, Rested}
use Rattle.frames.specs.Statement.Leads.{begun as begun', skipped as skipped', empty as empty', unfit as unfit'}
use Rattle.frames.proofs.Laws.Behind.{finished_behind}
use Rattle.frames.proofs.Laws.Goes.{acks}
use Rattle.frames.proofs.Laws.Rests.{Starts, Started, head_begun, Rests, Outside}
use Rattle.frames.proofs.Laws.Rests.Starts.{first, skipped, empty, unfit}
use Rattle.frames.proofs.Laws.Rests.Outside.{rests, asks}
use Rattle.frames.proofs.Laws.Asks.{runs_unasked, asks_unreset}
use Rattle.frames.proofs.Laws.View.{felt_outside}
use Rattle.frames.proofs.Laws.Runs.{Follows, Feels, feels}

-- ---- a frame awaits an event that counts
abbrev Zero : Stepped → Type 0
Zero r = r.answer.number ≡ 0

sends : (c : Channel) (m : List ℕ) (n k : ℕ) (x : Next) → Zero (send_on c m n k x)
unfolding send_on stopped byte_sent
sends c m n k Cut = refl
sends c m n k More = refl
sends c m n k Over = (finished_behind c n Plain).done

receives : (c : Channel) (n : ℕ) (x : Next) → Zero (receive_on c n x)
unfolding receive_on stopped
receives c n Cut = refl
receives c n More = refl
receives c n Over = (finished_behind c n Nacked).done

-- the event that phase p awaits
awaited : Kind → Phase → Event
awaited k Idle = Stop
awaited k (Address n) = ack_of k
awaited k (Sending n) = ack_of k
awaited k (Receiving n) = Byte 0
awaited k Stopping = Stop
awaited k Waiting = Stop

-- in a phase that the range admits
awaited_turn : (c : Channel) (m : List ℕ) (k : Kind) (p : Phase) → count_of c ≤ 64 → frame_in k p c.slatable c.tranconfig c.bytecount ≡ true → runs_of p ≡ true
    → Zero (turned c m (turn_of k p c.head.regs.te (framecnt_of c.head) (awaited k p))).stepped
unfolding turn_of heard_turn turned ack_address ack_sending received clocked awaited
awaited_turn c m k Idle few f e = no e
awaited_turn c m k (Address n) few f e = rw (ack_turn_lem k (Address n) c.head.regs.te (framecnt_of c.head)) (pick_holds Zero (reads_of (slave_of c n)) (λ _. refl) (λ _. sends c m n 0 _))
awaited_turn c m k (Sending n) few f e = rw (ack_turn_lem k (Sending n) c.head.regs.te (framecnt_of c.head)) (sends (counted_one c n) m n _ _)
awaited_turn c m Fm (Receiving n) few f e = receives (counted_one c n) n _
awaited_turn c m Ufm (Receiving n) few f e = absurd (no_receiving n _ _ _ few f)
awaited_turn c m k Stopping few f e = refl
awaited_turn c m k Waiting few f e = no e

awaited_cost : (k : Kind) (p : Phase) → cost_of (event (awaited k p)) ≡ 1
unfolding awaited
awaited_cost k Idle = refl
awaited_cost k (Address n) = (acks k).cost
awaited_cost k (Sending n) = (acks k).cost
awaited_cost k (Receiving n) = refl
awaited_cost k Stopping = refl
awaited_cost k Waiting = refl

-- an event of channel c is answered as the channel answers it
event_number : (c : ℕ) (s : State) (e : Event) → c < 3 → Accepted s
    → (the_part.answer s (Wire c e)).number ≡ (turned (channel_of c s) (buffer_of c s) (turn_at (channel_of c s).head e)).stepped.answer.number
unfolding target_of wire_target part_served target_served forgetting one_step served_by event_at
event_number c s e low acc = rw (step_accepted s.part s.memory (Wire c e) acc, lt-ltb c 3 low, le-ltb 2 c (omega (arith, low)))

pub awaits : (c : ℕ) (s : State) → c < 3 → Accepted s → runs_of (channel_of c s).head.walk.phase ≡ true → Awaits c s
awaits c s low acc r = record {
  what = awaited (kind_of (channel_of c s).head) (channel_of c s).head.walk.phase;
  counts = awaited_cost (kind_of (channel_of c s).head) (channel_of c s).head.walk.phase;
  answered = event_number c s _ low acc ∙ awaited_turn (channel_of c s) (buffer_of c s) _ (channel_of c s).head.walk.phase (range_count _ ranged) (range_frame _ ranged) r;
}
  where
    ranged : in_range (channel_of c s) ≡ true
    ranged = chan-in_range s.part c (accepts-whole s.part s.memory acc).ranged

-- the same are skipped
same_first : (c d : Channel) → slaves_of c ≡ slaves_of d → c.tranconfig ≡ d.tranconfig → first_of c ≡ first_of d
same_first c d s l = ap₂ (λ (x : Slaves) (y : List ℕ). next_from x y 0) s l

-- ---- a step that asks for a frame
module _ {A : Type 0} (M : Machine State A PartAnswer) (aim : A → Target) (f : Follows M aim) (c : ℕ) (low : c < 3) where
  -- what the channel feels is a begin
  leads : (s : State) (a : A) (d : Served) → Feels M aim f c low s a d → slaves_of d.stepped.channel ≡ slaves_of (channel_of c s) → d.stepped.channel.tranconfig ≡ (channel_of c s).tranconfig
      → Starts (channel_of c s) d.stepped → Leads M aim c s a
  leads s a d t l n (first e p k x) = begun' e (record { accepted = t.accepted; number = low; phase = rw t.is (p ∙ ap Address (sym (same_first d.stepped.channel (channel_of c s) l n))); counts = rw t.is k }) (rw t.action x)
  leads s a d t l n (skipped e q p k x) = skipped' e q (rw t.is p) (rw t.is k) (rw t.action x)
  leads s a d t l n (empty e q p k x) = empty' e q (rw t.is p) (rw t.is k) (rw t.action x)
  leads s a d t l n (unfit e q p k x) = unfit' e q (rw t.is p) (rw t.is k) (rw t.action x)

  asked : (s : State) (h : Heard) (d : Served) (b : Bool) → Outside (channel_of c s) (buffer_of c s) h d b → b ≡ true → Started (channel_of c s) d.stepped × (d.bytes ≡ buffer_of c s)
  asked s h d false (rests r u) e = no e
  asked s h d true (asks x y q u) e = rw q (head_begun (channel_of c s) x y, refl)

  calm : (s : State) (a : A) → asks_by c s.part (aim a) ≡ true → (b : Bool) → runs_of (channel_of c s).head.walk.phase ≡ b → b ≡ false
  calm s a e true r = no (sym (runs_unasked c s.part (aim a) r) ∙ e)
  calm s a e false r = refl

  pub begins : (s : State) (a : A) → Accepted s → c < length s.part.channels → asks_by c s.part (aim a) ≡ true → Begins M aim c s a
  begins s a acc inside e =
      let q = asks_unreset c s.part (aim a) e in
      let t = feels M aim f c low s a acc inside q in
      let x = asked s _ _ _ (felt_outside s.part (buffer_of c s) c low (aim a) q (calm s a e _ refl)) e in
      record {
        slas = rw t.is x.0.slas;
        lengths = rw t.is x.0.lengths;
        bytes = t.bytes ∙ x.1;
        leads = leads s a _ t x.0.slas x.0.lengths x.0.starts;
      }

  -- ---- one that does not, outside a frame
  rests_only : (s : State) (h : Heard) (d : Served) (b : Bool) → Outside (channel_of c s) (buffer_of c s) h d b → b ≡ false → Rests (channel_of c s) d
  rests_only s h d false (rests r u) e = r
  rests_only s h d true (asks x y q u) e = no (sym e)

  pub rested : (s : State) (a : A) → Accepted s → c < length s.part.channels → runs_of (channel_of c s).head.walk.phase ≡ false
      → asks_by c s.part (aim a) ≡ false → resets_by c s.part (aim a) ≡ false → Rested M aim c s a
  rested s a acc inside r e q =
      let t = feels M aim f c low s a acc inside q in
      let x = rests_only s _ _ _ (felt_outside s.part (buffer_of c s) c low (aim a) q r) e in
      record { runs = rw t.is x.runs; counts = rw t.is x.counted; action = rw t.action x.action }
