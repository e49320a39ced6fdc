-- A step that asks for a frame meets none under way, and resets nothing; and STA, TICK and a trigger edge ask for one.
use Rattle.std.specs.Prelude.{ℕ, zero, suc, ◌+◌, ◌*◌, ◌<◌, Bool, true, false, ◌≡◌, refl, eqb, Option, Some, None}
use Rattle.std.proofs.Common.{arith, eq-eqb, lt-ltb}
use Rattle.laws.specs.Cases.{pick_holds, both}
use Rattle.rules.specs.declared.parts.Kind.{Kind}
use Rattle.rules.specs.declared.state.Phase.{Phase}
use Rattle.rules.specs.declared.state.Phase.TheVariants.{Idle, Address, Sending, Receiving, Stopping, Waiting}
use Rattle.rules.specs.declared.registers.Register.{Register}
use Rattle.rules.specs.declared.registers.Register.TheVariants.{Control}
use Rattle.rules.specs.Access.{kept_if, overrun_of, resets_of}
use Rattle.rules.specs.Registers.{table_at, register_at, register_place, command_of, place_of}
use Rattle.sequence.specs.declared.wires.Ask.{Ask}
use Rattle.sequence.specs.declared.wires.Ask.TheVariants.{Nothing, Overrun, Begin, Wait, Sto, Seq, Leave}
use Rattle.rules.specs.declared.wires.Edge.{Edge}
use Rattle.rules.specs.declared.wires.Event.{Event}
use Rattle.rules.specs.declared.wires.Event.TheVariants.{Tick}
use Rattle.sequence.specs.declared.wires.Turn.{Turn}
use Rattle.sequence.specs.Wires.{heard_turn, start_asked, asked_in, ask_of, beat_of, ticking_of, tick_turn, turn_of, matches_of, edge_beat}
use Rattle.sequence.proofs.Laws.Meeting.{Meeting, meeting}
use Rattle.sequence.proofs.Laws.Meeting.Meeting.{unawaited as unawaited', ack_address_lem as ack_address', ack_sending_lem as ack_sending', receive as receive'}
use Rattle.sequence.proofs.Laws.Meeting.Meeting.{nack_address as nack_address', nack_sending as nack_sending', begin as begin', late as late', end as end', sda as sda', scl as scl', ill as ill'}
use Rattle.steps.specs.declared.map.Op.{Op}
use Rattle.steps.specs.declared.map.Op.TheVariants.{Write, Read, Wire}
use Rattle.steps.specs.declared.map.Step.TheVariants.{Write as WriteStep, Wire as WireStep, Trigger}
use Rattle.steps.specs.declared.map.Target.{Target}
use Rattle.steps.specs.declared.map.Target.TheVariants.{One, All}
use Rattle.steps.specs.declared.map.Wide.TheVariants.{CtrlWrite, CtrlRead, AllTrigger, AllReset, Beyond}
use Rattle.steps.specs.Map.{channel_at, write_target, wire_target, target_of}
use Rattle.head.specs.Access.{data_place, te_after}
use Rattle.head.specs.Head.{framecnt_of, kind_of}
use Rattle.channel.specs.declared.state.Channel.{Channel}
use Rattle.part.specs.declared.state.Part.{Part}
use Rattle.part.specs.State.{chan}
use Rattle.independent.proofs.Laws.Keys.{no}
use Rattle.frames.specs.Deeds.{runs_of, place_resets, op_resets, resets_by, ask_begins, ask_at, is_control, turn_begins, beat_begins, place_begins, op_begins, asks_by, begins_by}
use Rattle.frames.proofs.Laws.Steps.{Mild, mild, edge_holds}
use Rattle.frames.proofs.Laws.View.{split}
use Rattle.frames.proofs.Laws.Rests.{is_control_lem}

-- ---- in a frame nothing asks for one
mild_unasked : (a : Ask) → Mild a → ask_begins a ≡ false
mild_unasked Nothing h = refl
mild_unasked Overrun h = refl
mild_unasked Begin h = absurd h
mild_unasked Wait h = absurd h
mild_unasked Sto h = refl
mild_unasked Seq h = refl
mild_unasked Leave h = absurd h

met_unasked : (k : Kind) (p : Phase) (e : Event) (t : Turn) → Meeting k p e t → runs_of p ≡ true → turn_begins t ≡ false
met_unasked k p e t unawaited' r = refl
met_unasked k p e t ack_address' r = refl
met_unasked k p e t ack_sending' r = refl
met_unasked k p e t receive' r = refl
met_unasked k p e t nack_address' r = refl
met_unasked k p e t nack_sending' r = refl
met_unasked k p e t begin' r = no r
met_unasked k p e t (late' q) r = refl
met_unasked k p e t end' r = refl
met_unasked k p e t sda' r = refl
met_unasked k p e t (scl' q) r = refl
met_unasked k p e t ill' r = refl

beat_unasked : (p : Phase) → runs_of p ≡ true → beat_begins (beat_of p) ≡ false
beat_unasked Idle e = no e
beat_unasked (Address n) e = refl
beat_unasked (Sending n) e = refl
beat_unasked (Receiving n) e = refl
beat_unasked Stopping e = refl
beat_unasked Waiting e = no e

module _ (c : Channel) (number : ℕ) (r : runs_of c.head.walk.phase ≡ true) where
  place_unasked : (p : Option Register) (v : ℕ) → place_begins c p v ≡ false
  place_unasked (Some reg) v =
      pick_holds (λ (b : Bool). b ≡ false) (is_control reg)
      (λ _. let k = command_of v in mild_unasked (ask_at c k) (mild c.head.walk.phase k (te_after c.head k) (overrun_of k.aiptrrst (data_place c.head c.tranconfig)) r))
      (λ _. refl)
  place_unasked None v = refl

  op_unasked : (op : Op) → op_begins c number op ≡ false
  op_unasked (Write a v) = place_unasked (place_of number a) v
  op_unasked (Read a) = refl
  op_unasked (Wire e) = met_unasked _ c.head.walk.phase e _ (meeting (kind_of c.head) _ c.head.regs.te (framecnt_of c.head) e) r

pub runs_unasked : (c : ℕ) (p : Part) (t : Target) → runs_of (chan p c).head.walk.phase ≡ true → asks_by c p t ≡ false
unfolding asks_by
runs_unasked c p (One op d) r = pick_holds (λ (b : Bool). b ≡ false) (eqb d c) (λ _. op_unasked (chan p c) c r op) (λ _. refl)
runs_unasked c p (All (CtrlWrite reg v)) r = refl
runs_unasked c p (All (CtrlRead reg)) r = refl
runs_unasked c p (All (AllTrigger edge)) r =
    edge_holds (λ b. beat_begins b ≡ false) (chan p c).head.walk.phase (chan p c).head.regs.te (chan p c).head.regs.tp edge refl (beat_unasked (chan p c).head.walk.phase r)
runs_unasked c p (All (AllReset z)) r = refl
runs_unasked c p (All Beyond) r = refl

pub runs_unbegun : (c : ℕ) (p : Part) (t : Target) → runs_of (chan p c).head.walk.phase ≡ true → begins_by c p t ≡ false
unfolding begins_by
runs_unbegun c p t r = rw (runs_unasked c p t r)

-- ---- what asks for a frame resets nothing
place_unreset : (c : Channel) (p : Option Register) (v : ℕ) → place_begins c p v ≡ true → place_resets c p v ≡ false
unfolding resets_of
place_unreset c (Some reg) v e = rw (is_control_lem reg (both _ _ e).0)
place_unreset c None v e = no e

op_unreset : (c : Channel) (number : ℕ) (op : Op) → op_begins c number op ≡ true → op_resets c number op ≡ false
op_unreset c number (Write a v) e = place_unreset c (place_of number a) v e
op_unreset c number (Read a) e = refl
op_unreset c number (Wire x) e = refl

pub asks_unreset : (c : ℕ) (p : Part) (t : Target) → asks_by c p t ≡ true → resets_by c p t ≡ false
unfolding asks_by resets_by
asks_unreset c p (One op d) e =
    split c (λ t. asks_by c p t ≡ true → resets_by c p t ≡ false) (λ op e. let q = eq-eqb c c refl in rw q (op_unreset (chan p c) c op (rw q at e))) (λ op d q e. rw q refl) op d e
asks_unreset c p (All (CtrlWrite reg v)) e = no e
asks_unreset c p (All (CtrlRead reg)) e = no e
asks_unreset c p (All (AllTrigger edge)) e = refl
asks_unreset c p (All (AllReset z)) e = no e
asks_unreset c p (All Beyond) e = no e

-- ---- STA, TICK and a trigger edge
control_target : (c v : ℕ) → c < 3 → target_of (WriteStep (0xC0 + 16 * c) v) ≡ One (Write (0xC0 + 16 * c) v) c
unfolding target_of write_target channel_at
control_target zero v h = refl
control_target (suc zero) v h = refl
control_target (suc (suc zero)) v h = refl
control_target (suc (suc (suc c))) v h = absurd (omega (arith, h))

control_place : (c : ℕ) → c < 3 → place_of c (0xC0 + 16 * c) ≡ Some Control
unfolding place_of register_place register_at table_at
control_place zero h = refl
control_place (suc zero) h = refl
control_place (suc (suc zero)) h = refl
control_place (suc (suc (suc c))) h = absurd (omega (arith, h))

module _ (c : ℕ) (p : Part) (low : c < 3) where
  own : eqb c c ≡ true
  own = eq-eqb c c refl

  pub sta_asks : (v : ℕ) → (chan p c).head.walk.phase ≡ Idle → (command_of v).sta ≡ true → (command_of v).te ≡ false
      → overrun_of (command_of v).aiptrrst (data_place (chan p c).head (chan p c).tranconfig) ≡ false → asks_by c p (target_of (WriteStep (0xC0 + 16 * c) v)) ≡ true
  unfolding asks_by ask_of asked_in start_asked kept_if
  sta_asks v e sta te over = rw (control_target c v low, own, control_place c low, over, e, sta, te)

  pub tick_asks : (chan p c).head.walk.phase ≡ Waiting → ticking_of (chan p c).head.regs.te (framecnt_of (chan p c).head) ≡ true → asks_by c p (target_of (WireStep c Tick)) ≡ true
  unfolding asks_by target_of wire_target turn_of heard_turn tick_turn
  tick_asks e t = rw (lt-ltb c 3 low, own, t, e)

  pub edge_asks : (edge : Edge) → (chan p c).head.walk.phase ≡ Waiting → (chan p c).head.regs.te ≡ true → matches_of (chan p c).head.regs.tp edge ≡ true
      → asks_by c p (target_of (Trigger edge)) ≡ true
  unfolding asks_by target_of edge_beat
  edge_asks edge e te m = rw (te, m, e)
