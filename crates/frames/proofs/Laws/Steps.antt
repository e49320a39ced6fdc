-- Any step that a channel in a frame feels, a reset apart, goes as a frame does.
use Rattle.std.specs.Prelude.{ℕ, ◌+◌, ◌<◌, ◌≤◌, Bool, true, false, List, ◌≡◌, eqb, ltb, length, Option, Some, None}
use Rattle.std.proofs.Math.Path.{refl}
use Rattle.std.proofs.Common.{sym, ap, arith}
use borrow.Author.Tests.{ltb-true, eqb-true, eq-eqb}
use Rattle.laws.specs.Cases.{pick_holds, both, past}
use Rattle.rules.specs.declared.parts.Kind.{Kind}
use Rattle.rules.specs.declared.state.Phase.{Phase}
use Rattle.rules.specs.declared.state.Phase.TheVariants.{Idle, Address, Sending, Receiving, Stopping, Waiting}
use Rattle.rules.specs.declared.state.Walk.{Walk}
use Rattle.rules.specs.declared.registers.Command.{Command}
use Rattle.rules.specs.declared.registers.Register.{Register}
use Rattle.rules.specs.declared.registers.Register.TheVariants.{Status, Control, Chstatus, Intmsk, Slatable, Tranconfig, Data, Transel, Tranofs, Bytecount, Setting, Preset}
use Rattle.rules.specs.Numbers.{nowhere, address_refused, data_refused}
use Rattle.rules.specs.Registers.{active_of, command_of, place_of}
use Rattle.rules.specs.Access.{locked_of}
use Rattle.bounds.specs.Range.{frame_in, counted_in}
use Rattle.rules.specs.Tables.{reads_of}
use Rattle.rules.proofs.Laws.Access.{not_busy, sla_open, conf_open, data_unlocked}
use Rattle.bounds.proofs.Laws.Range.{frame-counted}
use Rattle.rules.specs.declared.wires.Action.TheVariants.{Nothing as NoAction}
use Rattle.sequence.specs.declared.wires.Ask.{Ask}
use Rattle.sequence.specs.declared.wires.Ask.TheVariants.{Nothing, Overrun, Begin, Wait as WaitAsk, Sto, Seq, Leave}
use Rattle.sequence.specs.declared.wires.Beat.{Beat}
use Rattle.sequence.specs.declared.wires.Beat.TheVariants.{Quiet}
use Rattle.rules.specs.declared.wires.Edge.{Edge}
use Rattle.sequence.specs.declared.wires.Ending.{Ending}
use Rattle.sequence.specs.declared.wires.Ending.TheVariants.{Fe, Error, Sd, Wait}
use Rattle.rules.specs.declared.wires.Event.{Event}
use Rattle.rules.specs.declared.wires.Event.TheVariants.{Ninth, Byte, Tick, Stop, Sda, Scl, Ill}
use Rattle.rules.specs.declared.wires.Level.TheVariants.{High}
use Rattle.sequence.specs.declared.wires.Fault.{Fault}
use Rattle.sequence.specs.declared.wires.Fault.TheVariants.{Dae, Cle, Sse}
use Rattle.sequence.specs.declared.wires.Turn.{Turn}
use Rattle.sequence.specs.declared.wires.Turn.TheVariants.{Unawaited}
use Rattle.sequence.specs.Walk.{end_walk, late_walk}
use Rattle.sequence.specs.Wires.{stop_asked, asked_in, ask_of, beat_of, matches_of, edge_beat}
use Rattle.sequence.proofs.Laws.Meeting.{Meeting, ack_of, meeting}
use Rattle.sequence.proofs.Laws.Meeting.Meeting.{unawaited as unawaited', ack_address_lem as ack_address', ack_sending_lem as ack_sending', receive as receive'}
use Rattle.sequence.proofs.Laws.Meeting.Meeting.{nack_address as nack_address', nack_sending as nack_sending', begin as begin', late as late', end as end', sda as sda', scl as scl', ill as ill'}
use Rattle.steps.specs.declared.map.Op.{Op}
use Rattle.steps.specs.declared.map.Op.TheVariants.{Write, Read, Wire}
use Rattle.head.specs.State.{plain, refused}
use Rattle.head.specs.Head.{framecnt_of, kind_of, femsk_of, late_by, faulted, frame_ended}
use Rattle.head.specs.Access.{refusal_of}
use Rattle.channel.specs.declared.state.Channel.{Channel}
use Rattle.channel.specs.declared.state.Stepped.{Stepped}
use Rattle.channel.specs.State.{Served, leaving, on, guarded, count_of, with_head}
use Rattle.channel.specs.Access.{read_by, read_of, asked, controlled, written_by, write_of, keyed, put_of}
use Rattle.channel.specs.Wires.{slave_of, bytes_of, length_of, turned, beaten, triggered}
use Rattle.channel.specs.Step.{write_at, read_at, event_at, served_by}
use Rattle.independent.proofs.Laws.Keys.{no}
use Rattle.frames.specs.Statement.{slaves_of}
use Rattle.frames.specs.Wire.{Heard, Watch, cost_of, fault_of, ends_of, data_heard}
use Rattle.frames.specs.Wire.Heard.{none, event}
use Rattle.frames.specs.Deeds.{runs_of, heard_op, place_resets, op_resets}
use Rattle.frames.proofs.Laws.Behind.{left_of, Watching}
use Rattle.frames.proofs.Laws.Goes.{acks, Answered, Goes, At, at_of, none_counted, ack_address_goes, nacked_goes, ack_sending_goes, received_goes}

-- ---- nothing of the frame moves
pub record Stays (c : Channel) (m : List ℕ) (d : Served) : Type 0 where
  pub slas : slaves_of d.stepped.channel ≡ slaves_of c
  pub lengths : d.stepped.channel.tranconfig ≡ c.tranconfig
  pub counted : d.stepped.channel.bytecount ≡ c.bytecount
  pub phase : d.stepped.channel.head.walk.phase ≡ c.head.walk.phase
  pub action : d.stepped.answer.action ≡ NoAction
  pub bytes : d.bytes ≡ m

-- a step that changes the head alone, and not its phase
head_stays : (c : Channel) (m : List ℕ) (r : Stepped) → slaves_of r.channel ≡ slaves_of c → r.channel.tranconfig ≡ c.tranconfig → r.channel.bytecount ≡ c.bytecount
    → r.channel.head.walk.phase ≡ c.head.walk.phase → r.answer.action ≡ NoAction → Stays c m (leaving m r)
head_stays c m r s l k f a = record { slas = s; lengths = l; counted = k; phase = f; action = a; bytes = refl }

-- ---- a phase in which a frame runs
runs_active : (p : Phase) → runs_of p ≡ true → active_of p ≡ false → ⊥
runs_active Idle e f = no e
runs_active (Address n) e f = no (sym f)
runs_active (Sending n) e f = no (sym f)
runs_active (Receiving n) e f = no (sym f)
runs_active Stopping e f = no (sym f)
runs_active Waiting e f = no e

runs_locked : (p : Phase) (at : ℕ) → runs_of p ≡ true → locked_of p at ≡ false → ⊥
runs_locked Idle at e f = no e
runs_locked (Address n) at e f = no (sym f)
runs_locked (Sending n) at e f = no (sym f)
runs_locked (Receiving n) at e f = no (sym f)
runs_locked Stopping at e f = no (sym f)
runs_locked Waiting at e f = no e

runs_left : (p : Phase) (lens counts : List ℕ) → runs_of p ≡ true → 1 ≤ left_of p lens counts
runs_left Idle lens counts e = no e
runs_left (Address n) lens counts e = omega arith
runs_left (Sending n) lens counts e = omega arith
runs_left (Receiving n) lens counts e = omega arith
runs_left Stopping lens counts e = omega arith
runs_left Waiting lens counts e = no e

over-left : (p : Phase) (lens counts : List ℕ) → runs_of p ≡ false → left_of p lens counts ≡ 0
over-left Idle lens counts e = refl
over-left (Address n) lens counts e = no (sym e)
over-left (Sending n) lens counts e = no (sym e)
over-left (Receiving n) lens counts e = no (sym e)
over-left Stopping lens counts e = no (sym e)
over-left Waiting lens counts e = refl

over_watch : (p : Phase) (counts : List ℕ) (w : Watch) → runs_of p ≡ false → Watching p counts w
over_watch Idle counts w e = tt
over_watch (Address n) counts w e = no (sym e)
over_watch (Sending n) counts w e = no (sym e)
over_watch (Receiving n) counts w e = no (sym e)
over_watch Stopping counts w e = tt
over_watch Waiting counts w e = tt

pub ended_runs : (e : Ending) → runs_of (end_walk e).phase ≡ false
unfolding end_walk
ended_runs Fe = refl
ended_runs Error = refl
ended_runs Sd = refl
ended_runs (Wait n) = refl

-- ---- what the range and the logger say of a frame in phase p
pub record Under (c : Channel) (w : Watch) (p : Phase) : Type 0 where
  pub at : c.head.walk.phase ≡ p
  pub few : count_of c ≤ 64
  pub wide : length c.bytecount ≡ 64
  pub watching : Watching p c.bytecount w
  pub frame : frame_in (kind_of c.head) p c.slatable c.tranconfig c.bytecount ≡ true
  pub runs : runs_of p ≡ true

module _ (c : Channel) (m : List ℕ) (w : Watch) (p : Phase) (u : Under c w p) where
  -- nothing is heard, or a TICK
  stay : (h : Heard) (d : Served) → Stays c m d → cost_of h + fault_of h ≡ 0 → data_heard w h ≡ false → ends_of h ≡ false → Answered h d.stepped → Goes p c m w h d
  stay h d s z q e a = record {
    slas = s.slas;
    lengths = s.lengths;
    width = ap length s.counted;
    left = rw (s.phase, s.counted, u.at) (omega (arith, z));
    watch = rw (s.phase, s.counted, s.action, u.at) u.watching;
    counts = λ k. rw s.counted (none_counted w h c.bytecount q k);
    paced = λ x e. let y = x e in rw (s.counted, s.action) (omega (arith, y.0), omega (arith, y.1));
    moment = rw s.action tt;
    kept = λ k j _ _ _. rw s.bytes refl;
    runs = rw (s.phase, u.at, e) u.runs;
    done = a;
  }

  pub unheard : (d : Served) → Stays c m d → Goes p c m w none d
  unheard d s = stay none d s refl refl refl tt

  -- the frame is over: no event is left
  over : (e : Event) (d : Channel) → slaves_of d ≡ slaves_of c → d.tranconfig ≡ c.tranconfig → d.bytecount ≡ c.bytecount
      → runs_of d.head.walk.phase ≡ false → cost_of (event e) + fault_of (event e) ≡ 1 → data_heard w (event e) ≡ false → ends_of (event e) ≡ true
      → Goes p c m w (event e) (leaving m (on d (plain d.head)))
  over e d s l k f z q b = record {
    slas = s;
    lengths = l;
    width = ap length k;
    left = let x = over-left d.head.walk.phase c.tranconfig d.bytecount f in let y = runs_left p c.tranconfig c.bytecount u.runs in omega (arith, x, y, z);
    watch = over_watch d.head.walk.phase d.bytecount w f;
    counts = λ i. rw k (none_counted w (event e) c.bytecount q i);
    paced = λ x e. let y = x e in rw k (omega (arith, y.0), omega (arith, y.1));
    moment = tt;
    kept = λ i j _ _ _. refl;
    runs = rw b f;
    done = refl;
  }

-- ---- a read leaves the frame, and a channel outside one, alike
reads_stay : (c : Channel) (m : List ℕ) (reg : Register) → Stays c m (leaving m (read_by c m reg))
unfolding read_by
reads_stay c m (Status n) = head_stays c m _ refl refl refl refl refl
reads_stay c m Control = head_stays c m _ refl refl refl refl refl
reads_stay c m Chstatus = head_stays c m _ refl refl refl refl refl
reads_stay c m Intmsk = head_stays c m _ refl refl refl refl refl
reads_stay c m Slatable = head_stays c m _ refl refl refl refl refl
reads_stay c m Tranconfig = head_stays c m _ refl refl refl refl refl
reads_stay c m Data = head_stays c m _ refl refl refl refl refl
reads_stay c m Transel = head_stays c m _ refl refl refl refl refl
reads_stay c m Tranofs = head_stays c m _ refl refl refl refl refl
reads_stay c m Bytecount = head_stays c m _ refl refl refl refl refl
reads_stay c m (Setting n) = head_stays c m _ refl refl refl refl refl
reads_stay c m Preset = head_stays c m _ refl refl refl refl refl

guarded_stays : (c : Channel) (m : List ℕ) (n : ℕ) (d : Served) → (n ≡ 0 → Stays c m d) → Stays c m (guarded n c m d)
unfolding guarded
guarded_stays c m n d f = pick_holds (Stays c m) (eqb n 0) (λ t. f (eqb-true n 0 t)) (λ _. head_stays c m _ refl refl refl refl refl)

pub read_stays : (c : Channel) (m : List ℕ) (p : Option Register) → Stays c m (read_at c m p)
unfolding read_at read_of
read_stays c m (Some reg) = guarded_stays c m _ _ (λ _. reads_stay c m reg)
read_stays c m None = head_stays c m _ refl refl refl refl refl

-- ---- writes

-- what a write to CONTROL can ask of a frame
abbrev pub Mild : Ask → Type 0
Mild Nothing = Unit {0}
Mild Overrun = Unit {0}
Mild Begin = ⊥
Mild WaitAsk = ⊥
Mild Sto = Unit {0}
Mild Seq = Unit {0}
Mild Leave = ⊥

mild_stop : (sto seq : Bool) → Mild (stop_asked sto seq)
unfolding stop_asked
mild_stop sto seq = pick_holds Mild sto (λ _. tt) (λ _. pick_holds Mild seq (λ _. tt) (λ _. tt))

mild_in : (p : Phase) (k : Command) (te : Bool) → runs_of p ≡ true → Mild (asked_in p k te)
unfolding asked_in
mild_in Idle k te e = no e
mild_in (Address n) k te e = mild_stop k.sto k.stoseq
mild_in (Sending n) k te e = mild_stop k.sto k.stoseq
mild_in (Receiving n) k te e = mild_stop k.sto k.stoseq
mild_in Stopping k te e = mild_stop k.sto k.stoseq
mild_in Waiting k te e = no e

pub mild : (p : Phase) (k : Command) (te over : Bool) → runs_of p ≡ true → Mild (ask_of p k te over)
unfolding ask_of
mild p k te over e = pick_holds Mild over (λ _. tt) (λ _. mild_in p k te e)

-- what holds where nothing is done, and where the phase decides, holds of a trigger edge
pub edge_holds : (Q : Beat → Type 0) (p : Phase) (te tp : Bool) (edge : Edge) → Q Quiet → Q (beat_of p) → Q (edge_beat p te tp edge)
unfolding edge_beat
edge_holds Q p te tp edge q b = pick_holds Q te (λ _. pick_holds Q (matches_of tp edge) (λ _. b) (λ _. q)) (λ _. q)

module _ (c : Channel) (m : List ℕ) (runs : runs_of c.head.walk.phase ≡ true) where
  asked_stays : (d : Channel) → slaves_of d ≡ slaves_of c → d.tranconfig ≡ c.tranconfig → d.bytecount ≡ c.bytecount
      → d.head.walk.phase ≡ c.head.walk.phase → (a : Ask) → Mild a → Stays c m (leaving m (asked d a))
  unfolding asked
  asked_stays d s l k f Nothing h = head_stays c m _ s l k f refl
  asked_stays d s l k f Overrun h = head_stays c m _ s l k f refl
  asked_stays d s l k f Begin h = absurd h
  asked_stays d s l k f WaitAsk h = absurd h
  asked_stays d s l k f Sto h = head_stays c m _ s l k f refl
  asked_stays d s l k f Seq h = head_stays c m _ s l k f refl
  asked_stays d s l k f Leave h = absurd h

  control_stays : (k : Command) → Stays c m (leaving m (controlled c k))
  unfolding controlled
  control_stays k = asked_stays _ refl refl refl refl _ (mild c.head.walk.phase k _ _ runs)

  written_stays : (reg : Register) (v : ℕ) → refusal_of c.head c.tranconfig reg v ≡ 0 → Stays c m (written_by c m reg v)
  unfolding refusal_of written_by
  written_stays (Status n) v e = head_stays c m _ refl refl refl refl refl
  written_stays Control v e = control_stays (command_of v)
  written_stays Chstatus v e = head_stays c m _ refl refl refl refl refl
  written_stays Intmsk v e = head_stays c m _ refl refl refl refl refl
  written_stays Slatable v e = absurd (runs_active c.head.walk.phase runs (sla_open c.head.walk.phase c.head.ptrs.sla e).0)
  written_stays Tranconfig v e = absurd (runs_locked c.head.walk.phase c.head.ptrs.conf runs (conf_open c.head.walk.phase c.head.ptrs.conf v e).0)
  written_stays Data v e = absurd (runs_active c.head.walk.phase runs (data_unlocked c.head.walk.phase _ e))
  written_stays Transel v e = head_stays c m _ refl refl refl refl refl
  written_stays Tranofs v e = head_stays c m _ refl refl refl refl refl
  written_stays Bytecount v e = head_stays c m _ refl refl refl refl refl
  written_stays (Setting n) v e = absurd (runs_active c.head.walk.phase runs (not_busy c.head.walk.phase e))
  written_stays Preset v e = head_stays c m _ refl refl refl refl refl

  write_stays : (reg : Register) (v : ℕ) → Stays c m (write_of c m reg v)
  unfolding write_of
  write_stays reg v = guarded_stays c m _ _ (written_stays reg v)

  -- ---- a beat is late, or does nothing
  late_stays : Stays c m (leaving m (on c (plain (late_by c.head))))
  unfolding late_walk
  late_stays = head_stays c m _ refl refl refl (pick_holds (λ (x : Walk). x.phase ≡ c.head.walk.phase) (femsk_of c.head) (λ _. refl) (λ _. refl)) refl

  late_beats : (p : Phase) → runs_of p ≡ true → Stays c m (leaving m (beaten c (beat_of p)))
  unfolding beaten
  late_beats Idle e = no e
  late_beats (Address n) e = late_stays
  late_beats (Sending n) e = late_stays
  late_beats (Receiving n) e = late_stays
  late_beats Stopping e = late_stays
  late_beats Waiting e = no e

  edge_stays : (edge : Edge) → Stays c m (leaving m (triggered c edge))
  unfolding triggered beaten
  edge_stays edge =
      edge_holds (λ b. Stays c m (leaving m (beaten c b))) c.head.walk.phase c.head.regs.te c.head.regs.tp edge
      (head_stays c m _ refl refl refl refl refl) (late_beats c.head.walk.phase runs)

  same_stays : Stays c m (leaving m (on c (plain c.head)))
  same_stays = head_stays c m _ refl refl refl refl refl

put_stays : (c : Channel) (m : List ℕ) → runs_of c.head.walk.phase ≡ true → (p : Option Register) (v : ℕ) → place_resets c p v ≡ false → Stays c m (write_at c m p v)
unfolding write_at put_of
put_stays c m r (Some reg) v e =
    let s = write_stays (keyed c reg v) m r reg v in
    rw e (record { slas = s.slas; lengths = s.lengths; counted = s.counted; phase = s.phase; action = s.action; bytes = s.bytes })
put_stays c m r None v e = head_stays c m _ refl refl refl refl refl

-- ---- events
heard-done : (e : Event) (number : ℕ) → number ≡ 0 → heard_op (Wire e) number ≡ event e
unfolding heard_op
heard-done e number z = rw (eq-eqb number 0 z)

module _ (c : Channel) (m : List ℕ) (w : Watch) where
  -- an event with what it comes to
  abbrev Hears : Phase → Event → Served → Type 0
  Hears p e d = Goes p c m w (heard_op (Wire e) d.stepped.answer.number) d

  -- what was done is heard
  done : (p : Phase) (e : Event) (d : Served) → Goes p c m w (event e) d → Hears p e d
  done p e d g = rw (heard-done e d.stepped.answer.number g.done) g

  address_at : (n : ℕ) → Under c w (Address n) → At c n × (bytes_of c n ≡ 0)
  unfolding frame_in counted_in
  address_at n u = (at_of (Address n) c n u.few u.frame, eqb-true _ _ (frame-counted _ (Address n) _ _ _ n u.frame))

  sending_at : (n : ℕ) → Under c w (Sending n) → At c n × (bytes_of c n < length_of c n) × (reads_of (slave_of c n) ≡ false)
  unfolding frame_in counted_in
  sending_at n u =
      let b = past (reads_of (slave_of c n)) _ (frame-counted _ (Sending n) _ _ _ n u.frame) in
      (at_of (Sending n) c n u.few u.frame, ltb-true _ _ b.1, b.0)

  receiving_at : (n : ℕ) → Under c w (Receiving n) → At c n × (bytes_of c n < length_of c n) × (reads_of (slave_of c n) ≡ true)
  unfolding frame_in counted_in
  receiving_at n u =
      let b = both (reads_of (slave_of c n)) _ (frame-counted _ (Receiving n) _ _ _ n u.frame) in
      (at_of (Receiving n) c n u.few u.frame, ltb-true _ _ b.1, b.0)

  inside : (n : ℕ) → length c.bytecount ≡ 64 → At c n → n < length c.bytecount
  inside n wide a = let x = a.below in let y = a.few in rw wide (omega (arith, x, y))

  faulty : (p : Phase) → Under c w p → (e : Event) (x : Fault) → cost_of (event e) + fault_of (event e) ≡ 1 → data_heard w (event e) ≡ false → ends_of (event e) ≡ true
      → Hears p e (leaving m (on c (plain (faulted c.head x))))
  faulty p u e x z q b = done p e _ (over c m w p u e (with_head c (faulted c.head x)) refl refl refl refl z q b)

  not_awaited_lem : (p : Phase) → Under c w p → (e : Event) → Hears p e (turned c m Unawaited)
  unfolding turned heard_op
  not_awaited_lem p u e = unheard c m w p u _ (head_stays c m _ refl refl refl refl refl)

  -- EACH EVENT IN A FRAME, by what it meets
  met_goes : (k : Kind) (p : Phase) (e : Event) (t : Turn) → Meeting k p e t → Under c w p → Hears p e (turned c m t)
  unfolding turned frame_ended
  met_goes k p e t unawaited' u = not_awaited_lem p u e
  met_goes _ p e t (ack_address' {k} {n}) u = let a = address_at n u in done (Address n) (ack_of k) _ (ack_address_goes c m n a.0 w (ack_of k) (acks k) a.1 u.watching)
  met_goes _ p e t (ack_sending' {k} {n}) u = let a = sending_at n u in done (Sending n) (ack_of k) _ (ack_sending_goes c m n a.0 w (inside n u.wide a.0) a.1 (ack_of k) (acks k) a.2 u.watching)
  met_goes k p e t (receive' {n} {b}) u =
      let a = receiving_at n u in
      done (Receiving n) (Byte b) _ (received_goes c m n a.0 w (inside n u.wide a.0) a.1 b u.at a.2 u.watching)
  met_goes k p e t (nack_address' {n}) u =
      let a = address_at n u in
      let x = a.0.below in
      let y = a.0.room in
      let z = a.0.next in
      done (Address n) (Ninth High) _ (nacked_goes c m n a.0 w (Address n) address_refused u.watching.0 (omega (arith, x, y, z)))
  met_goes k p e t (nack_sending' {n}) u =
      let a = sending_at n u in
      let x = a.1 in
      let y = a.0.room in
      let z = a.0.next in
      done (Sending n) (Ninth High) _ (nacked_goes c m n a.0 w (Sending n) data_refused u.watching.0 (omega (arith, x, y, z)))
  met_goes k p e t begin' u = no u.runs
  met_goes k p e t (late' q) u = done p Tick _ (stay c m w p u (event Tick) _ (late_stays c m (rw u.at u.runs)) refl refl refl refl)
  met_goes k p e t end' u = done Stopping Stop _ (over c m w Stopping u Stop (with_head c (frame_ended c.head)) refl refl refl (ended_runs _) refl refl refl)
  met_goes k p e t (sda' {n}) u = faulty (Address n) u Sda Dae refl refl refl
  met_goes k p e t (scl' q) u = faulty p u Scl Cle refl refl refl
  met_goes k p e t ill' u = faulty p u Ill Sse refl refl refl

-- ---- a step of the channel that does not reset it
module _ (c : Channel) (m : List ℕ) (number : ℕ) (w : Watch) (u : Under c w c.head.walk.phase) where
  abbrev GoesOn : Heard → Served → Type 0
  GoesOn h d = Goes c.head.walk.phase c m w h d

  stays_goes : (d : Served) → Stays c m d → GoesOn none d
  stays_goes d s = unheard c m w c.head.walk.phase u d s

  event_goes : (e : Event) → Hears c m w c.head.walk.phase e (event_at c m number e)
  unfolding event_at heard_op
  event_goes e =
      pick_holds (λ d. Hears c m w c.head.walk.phase e d) (ltb 2 number)
      (λ _. stays_goes (leaving m (on c (refused c.head nowhere))) (head_stays c m _ refl refl refl refl refl))
      (λ _. met_goes c m w _ c.head.walk.phase e _ (meeting (kind_of c.head) _ c.head.regs.te (framecnt_of c.head) e) u)

  pub own_goes : (op : Op) → op_resets c number op ≡ false → GoesOn (heard_op op (served_by c m number op).stepped.answer.number) (served_by c m number op)
  unfolding served_by heard_op
  own_goes (Write a v) e = stays_goes _ (put_stays c m u.runs (place_of number a) v e)
  own_goes (Read a) e = stays_goes _ (read_stays c m (place_of number a))
  own_goes (Wire e) q = event_goes e

  pub edge_goes : (edge : Edge) → GoesOn none (leaving m (triggered c edge))
  edge_goes edge = stays_goes _ (edge_stays c m u.runs edge)

  -- a step that does not concern it
  pub other_goes : GoesOn none (leaving m (on c (plain c.head)))
  other_goes = stays_goes _ (same_stays c m u.runs)
