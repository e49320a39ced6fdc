-- Outside a frame: a step that asks for none leaves every BYTECOUNT and has no action; one that asks begins a frame, or none where it can't.
use Rattle.std.specs.Prelude.{ℕ, zero, suc, ◌+◌, ◌-◌, ◌<◌, ◌≤◌, Bool, List, ◌≡◌, eqb, ltb, get_or, replicate, Option, Some, None}
use Rattle.std.proofs.Math.Bool.{true, false}
use Rattle.std.proofs.Math.Path.{refl}
use Rattle.std.proofs.Common.{sym, ◌∙◌, ap, arith}
use borrow.Author.Tests.{ltb-false, le-ltb, eqb-true, eq-eqb}
use Rattle.laws.specs.Cases.{pick_holds, both}
use Rattle.rules.specs.declared.parts.Kind.{Kind}
use Rattle.rules.specs.declared.parts.Straps.{Straps}
use Rattle.rules.specs.declared.state.Phase.{Phase}
use Rattle.rules.specs.declared.state.Phase.TheVariants.{Idle, Address, Sending, Receiving, Stopping, Waiting}
use Rattle.rules.specs.declared.registers.Register.{Register}
use Rattle.rules.specs.declared.registers.Register.TheVariants.{Status, Control, Chstatus, Intmsk, Slatable, Tranconfig, Data, Transel, Tranofs, Bytecount, Setting, Preset}
use Rattle.rules.specs.Access.{preset_of, key_after}
use Rattle.rules.specs.Numbers.{nowhere, not_awaited}
use Rattle.rules.specs.Registers.{place_of}
use Rattle.rules.specs.Tables.{fitting, skipped_of, sent_from}
use Rattle.rules.specs.declared.wires.Action.TheVariants.{Nothing as NoAction, S}
use Rattle.sequence.specs.declared.wires.Ask.{Ask}
use Rattle.sequence.specs.declared.wires.Ask.TheVariants.{Nothing, Overrun, Begin, Wait, Sto, Seq, Leave}
use Rattle.sequence.specs.declared.wires.Beat.{Beat}
use Rattle.sequence.specs.declared.wires.Beat.TheVariants.{Quiet, Begin as BeginBeat, Late as LateBeat}
use Rattle.sequence.specs.declared.wires.Beginning.{Beginning}
use Rattle.sequence.specs.declared.wires.Beginning.TheVariants.{Empty, Unfit, Fit}
use Rattle.rules.specs.declared.wires.Edge.{Edge}
use Rattle.rules.specs.declared.wires.Event.{Event}
use Rattle.rules.specs.declared.wires.Event.TheVariants.{Tick}
use Rattle.sequence.specs.declared.wires.Move.{Move}
use Rattle.sequence.specs.declared.wires.Move.TheVariants.{Halt, Send}
use Rattle.sequence.specs.declared.wires.Turn.{Turn}
use Rattle.sequence.specs.Walk.{end_walk}
use Rattle.sequence.specs.Wires.{beginning_of, move_of, beat_of, edge_beat}
use Rattle.sequence.proofs.Laws.Meeting.{Meeting, meeting}
use Rattle.sequence.proofs.Laws.Meeting.Meeting.{unawaited as unawaited', ack_address_lem as ack_address', ack_sending_lem as ack_sending', receive as receive'}
use Rattle.sequence.proofs.Laws.Meeting.Meeting.{nack_address as nack_address', nack_sending as nack_sending', begin as begin', late as late', end as end', sda as sda', scl as scl', ill as ill'}
use Rattle.steps.specs.declared.map.Op.{Op}
use Rattle.steps.specs.declared.map.Op.TheVariants.{Write, Read, Wire}
use Rattle.head.specs.declared.state.Head.{Head}
use Rattle.head.specs.State.{plain, refused, answer_of, headed}
use Rattle.head.specs.Head.{framecnt_of, kind_of, frame_ended}
use Rattle.head.specs.Access.{refusal_of}
use Rattle.channel.specs.declared.state.Channel.{Channel}
use Rattle.channel.specs.declared.state.Stepped.{Stepped}
use Rattle.channel.specs.State.{Served, leaving, on, guarded, count_of, with_head}
use Rattle.channel.specs.Access.{asked, controlled, written_by, write_of, keyed, put_of}
use Rattle.channel.specs.Wires.{slave_of, passed, sent_to, started_by, started, cleared, began_by, begun, turned, beaten, triggered}
use Rattle.channel.specs.Step.{write_at, read_at, event_at, served_by}
use Rattle.works.proofs.Laws.Keys.{rekeyed}
use Rattle.independent.proofs.Laws.Keys.{no}
use Rattle.frames.specs.Wire.{Heard, Slaves, next_from, Watch, cost_of, data_heard}
use Rattle.frames.specs.Wire.Heard.{none}
use Rattle.frames.specs.Deeds.{runs_of, heard_op, place_resets, op_resets, ask_begins, turn_begins, beat_begins, is_control, reg_begins, place_begins, op_begins, fit_of, may_begin}
use Rattle.frames.specs.Statement.{first_of, slaves_of}
use Rattle.frames.proofs.Laws.Steps.{read_stays, edge_holds, ended_runs}

-- ---- where a begin leads; it leaves the tables
pub data Starts (c : Channel) (r : Stepped) : Type 0 where
  first : may_begin c ≡ true → r.channel.head.walk.phase ≡ Address (first_of c) → r.channel.bytecount ≡ replicate 64 0
      → r.answer.action ≡ S (slave_of c (first_of c)) → Starts c r
  skipped : may_begin c ≡ true → first_of c ≡ count_of c → runs_of r.channel.head.walk.phase ≡ false → r.channel.bytecount ≡ replicate 64 0
      → r.answer.action ≡ NoAction → Starts c r
  empty : may_begin c ≡ false → count_of c ≡ 0 → r.channel.head.walk.phase ≡ Idle → r.channel.bytecount ≡ c.bytecount → r.answer.action ≡ NoAction → Starts c r
  unfit : may_begin c ≡ false → fitting c.tranconfig ≡ false → r.channel.head.walk.phase ≡ Idle → r.channel.bytecount ≡ c.bytecount → r.answer.action ≡ NoAction → Starts c r

pub record Started (c : Channel) (r : Stepped) : Type 0 where
  pub slas : slaves_of r.channel ≡ slaves_of c
  pub lengths : r.channel.tranconfig ≡ c.tranconfig
  pub starts : Starts c r

-- the first that is not skipped is no further than the count
sent_to_lem : (kind : Kind) (sla lens : List ℕ) (i left : ℕ) → sent_from kind sla lens i left ≤ i + left
unfolding sent_from
sent_to_lem kind sla lens i zero = omega arith
sent_to_lem kind sla lens i (suc left) =
    pick_holds (λ k. k ≤ i + suc left) (skipped_of kind (get_or sla i 0) (get_or lens (i + 1) 0)) (λ _. let h = sent_to_lem kind sla lens (i + 1) left in omega (arith, h)) (λ _. omega arith)

module _ (c : Channel) where
  -- the first that is not skipped, or none
  First : Move → Type 0
  First Halt = first_of c ≡ count_of c
  First (Send k) = k ≡ first_of c

  first_move : First (move_of false (first_of c) (count_of c))
  unfolding move_of First
  first_move =
      pick_holds First (ltb (first_of c) (count_of c)) (λ _. refl)
      (λ t. let h = ltb-false (first_of c) (count_of c) t in let g = sent_to_lem (kind_of c.head) c.slatable c.tranconfig 0 (count_of c - 0) in omega (arith, h, g))

  moved_starts : may_begin c ≡ true → (m : Move) → First m → Started c (started_by (passed (cleared c) 0 (first_of c)) m)
  unfolding started_by passed cleared sent_to frame_ended First
  moved_starts e Halt h = record { slas = refl; lengths = refl; starts = skipped e h (ended_runs _) refl refl }
  moved_starts e (Send k) h = record { slas = refl; lengths = refl; starts = first e (rw h) refl (rw h) }

  Leads : Beginning → Type 0
  Leads b = Started c (began_by c b)

  may : (b : Bool) → eqb (count_of c) 0 ≡ false → fitting c.tranconfig ≡ b → may_begin c ≡ b
  unfolding beginning_of
  may true p q = rw (p, q)
  may false p q = rw (p, q)

  may_not : eqb (count_of c) 0 ≡ true → may_begin c ≡ false
  unfolding beginning_of
  may_not p = rw p

  begun-starts : Started c (begun c)
  unfolding begun beginning_of Leads began_by started cleared
  begun-starts =
      pick_holds Leads (eqb (count_of c) 0)
      (λ t. record { slas = refl; lengths = refl; starts = empty (may_not t) (eqb-true _ _ t) refl refl refl })
      (λ p. pick_holds Leads (fitting c.tranconfig) (λ q. moved_starts (may true p q) _ first_move)
      (λ t. record { slas = refl; lengths = refl; starts = unfit (may false p t) t refl refl refl }))

-- whatever the head, where the same was chosen of it
module _ (c : Channel) (h : Head) (chosen : h.straps ≡ c.head.straps) where
  same_slaves : slaves_of (with_head c h) ≡ slaves_of c
  same_slaves = ap (λ (x : Straps). record { kind = x.kind; table = c.slatable }) chosen

  same_first : first_of (with_head c h) ≡ first_of c
  same_first = ap (λ (x : Slaves). next_from x c.tranconfig 0) same_slaves

  head_starts : (r : Stepped) → Starts (with_head c h) r → Starts c r
  head_starts r (first e p k x) = first e (p ∙ ap Address same_first) k (x ∙ ap (λ (n : ℕ). S (slave_of c n)) same_first)
  head_starts r (skipped e q p k x) = skipped e (sym same_first ∙ q) p k x
  head_starts r (empty e q p k x) = empty e q p k x
  head_starts r (unfit e q p k x) = unfit e q p k x

  pub head_begun : Started c (begun (with_head c h))
  head_begun = let s = begun-starts (with_head c h) in record { slas = s.slas ∙ same_slaves; lengths = s.lengths; starts = head_starts _ s.starts }

-- ---- a step that asks for no frame
pub record Rests (c : Channel) (d : Served) : Type 0 where
  pub counted : d.stepped.channel.bytecount ≡ c.bytecount
  pub runs : runs_of d.stepped.channel.head.walk.phase ≡ false
  pub action : d.stepped.answer.action ≡ NoAction

-- no event that counts is heard, and no data byte
pub record Unheard (h : Heard) : Type 0 where
  pub free : cost_of h ≡ 0
  pub dumb : (w : Watch) → data_heard w h ≡ false

-- what a step is outside a frame, by whether it asks for one
pub data Outside (c : Channel) (m : List ℕ) (h : Heard) (d : Served) : Bool → Type 0 where
  rests : Rests c d → Unheard h → Outside c m h d false
  asks : (x : Head) → x.straps ≡ c.head.straps → d ≡ leaving m (begun (with_head c x)) → Unheard h → Outside c m h d true

nothing-heard : Unheard none
nothing-heard = record { free = refl; dumb = λ w. refl }

pub is_control_lem : (reg : Register) → is_control reg ≡ true → reg ≡ Control
is_control_lem (Status n) e = no e
is_control_lem Control e = refl
is_control_lem Chstatus e = no e
is_control_lem Intmsk e = no e
is_control_lem Slatable e = no e
is_control_lem Tranconfig e = no e
is_control_lem Data e = no e
is_control_lem Transel e = no e
is_control_lem Tranofs e = no e
is_control_lem Bytecount e = no e
is_control_lem (Setting n) e = no e
is_control_lem Preset e = no e

-- a beat that is late meets a frame
late_of : Beat → Bool
late_of Quiet = false
late_of BeginBeat = false
late_of LateBeat = true

not_late : (p : Phase) {A : Type 0} → runs_of p ≡ false → beat_of p ≡ LateBeat → A
unfolding late_of
not_late Idle e f = no (ap late_of f)
not_late (Address n) e f = no (sym e)
not_late (Sending n) e f = no (sym e)
not_late (Receiving n) e f = no (sym e)
not_late Stopping e f = no (sym e)
not_late Waiting e f = no (ap late_of f)

module _ (c : Channel) (m : List ℕ) (calm : runs_of c.head.walk.phase ≡ false) where
  -- a step of which nothing is heard
  abbrev Access : Served → Bool → Type 0
  Access d b = Outside c m none d b

  -- the head alone is changed, to one without a frame
  idle : (h : Head) (n v : ℕ) → runs_of h.walk.phase ≡ false → Rests c (leaving m (on c (headed h (answer_of n v NoAction))))
  idle h n v e = record { counted = refl; runs = e; action = refl }

  -- the phase is as it was, and so is BYTECOUNT
  moved : (d : Served) → d.stepped.channel.bytecount ≡ c.bytecount → d.stepped.channel.head.walk.phase ≡ c.head.walk.phase → d.stepped.answer.action ≡ NoAction → Access d false
  moved d k f a = rests (record { counted = k; runs = rw f calm; action = a }) nothing-heard

  kept : (n : ℕ) → Rests c (leaving m (on c (refused c.head n)))
  kept n = idle c.head n 0 calm

  -- ---- accesses
  asked_outside : (h : Head) → h.straps ≡ c.head.straps → runs_of h.walk.phase ≡ false → (a : Ask) → Access (leaving m (asked (with_head c h) a)) (ask_begins a)
  unfolding asked end_walk
  asked_outside h q e Nothing = rests (idle _ _ _ e) nothing-heard
  asked_outside h q e Overrun = rests (idle _ _ _ e) nothing-heard
  asked_outside h q e Begin = asks h q refl nothing-heard
  asked_outside h q e Wait = rests (idle _ _ _ refl) nothing-heard
  asked_outside h q e Sto = rests (idle _ _ _ e) nothing-heard
  asked_outside h q e Seq = rests (idle _ _ _ e) nothing-heard
  asked_outside h q e Leave = rests (idle _ _ _ refl) nothing-heard

  written_outside : (reg : Register) (v : ℕ) → Access (written_by c m reg v) (reg_begins c reg v)
  unfolding written_by controlled
  written_outside (Status n) v = moved _ refl refl refl
  written_outside Control v = asked_outside _ refl calm _
  written_outside Chstatus v = moved _ refl refl refl
  written_outside Intmsk v = moved _ refl refl refl
  written_outside Slatable v = moved _ refl refl refl
  written_outside Tranconfig v = moved _ refl refl refl
  written_outside Data v = moved _ refl refl refl
  written_outside Transel v = moved _ refl refl refl
  written_outside Tranofs v = moved _ refl refl refl
  written_outside Bytecount v = moved _ refl refl refl
  written_outside (Setting n) v = moved _ refl refl refl
  written_outside Preset v = moved _ refl refl refl

  guarded_outside : (n : ℕ) (d : Served) (b : Bool) → Access d b → (b ≡ true → n ≡ 0) → Access (guarded n c m d) b
  unfolding guarded
  guarded_outside n d true f g = let z = eq-eqb n 0 (g refl) in pick_holds (λ x. Access x true) (eqb n 0) (λ _. f) (λ t. no (sym t ∙ z))
  guarded_outside n d false f g = pick_holds (λ x. Access x false) (eqb n 0) (λ _. f) (λ _. rests (kept n) nothing-heard)

  -- only CONTROL begins a frame, and it is not refused
  begins_open : (reg : Register) (v : ℕ) → reg_begins c reg v ≡ true → refusal_of c.head c.tranconfig reg v ≡ 0
  unfolding refusal_of
  begins_open reg v e = rw (is_control_lem reg (both _ _ e).0)

  write_outside : (reg : Register) (v : ℕ) → Access (write_of c m reg v) (reg_begins c reg v)
  unfolding write_of
  write_outside reg v = guarded_outside _ _ _ (written_outside reg v) (begins_open reg v)

  read_outside : (p : Option Register) → Access (read_at c m p) false
  read_outside p = let s = read_stays c m p in moved _ s.counted s.phase s.action

  -- ---- events, by what they meet
  abbrev Hears : Event → Served → Bool → Type 0
  Hears e d b = Outside c m (heard_op (Wire e) d.stepped.answer.number) d b

  begin_heard : (number : ℕ) → Unheard (heard_op (Wire Tick) number)
  unfolding heard_op
  begin_heard number = pick_holds Unheard (eqb number 0) (λ _. record { free = refl; dumb = λ w. refl }) (λ _. nothing-heard)

  met_outside : (k : Kind) (p : Phase) (e : Event) (t : Turn) → Meeting k p e t → runs_of p ≡ false → Hears e (turned c m t) (turn_begins t)
  unfolding turned heard_op
  met_outside k p e t unawaited' r = rests (kept not_awaited) nothing-heard
  met_outside k p e t ack_address' r = no (sym r)
  met_outside k p e t ack_sending' r = no (sym r)
  met_outside k p e t receive' r = no (sym r)
  met_outside k p e t nack_address' r = no (sym r)
  met_outside k p e t nack_sending' r = no (sym r)
  met_outside k p e t begin' r = asks c.head refl refl (begin_heard (begun c).answer.number)
  met_outside k p e t (late' f) r = not_late p r f
  met_outside k p e t end' r = no (sym r)
  met_outside k p e t sda' r = no (sym r)
  met_outside k p e t (scl' f) r = rests (idle _ _ _ refl) (record { free = refl; dumb = λ w. refl })
  met_outside k p e t ill' r = rests (idle _ _ _ refl) (record { free = refl; dumb = λ w. refl })

  -- ---- a beat
  beats_outside : (p : Phase) → runs_of p ≡ false → Access (leaving m (beaten c (beat_of p))) (beat_begins (beat_of p))
  unfolding beaten
  beats_outside Idle e = rests (idle c.head _ _ calm) nothing-heard
  beats_outside (Address n) e = no (sym e)
  beats_outside (Sending n) e = no (sym e)
  beats_outside (Receiving n) e = no (sym e)
  beats_outside Stopping e = no (sym e)
  beats_outside Waiting e = asks c.head refl refl nothing-heard

  pub edge_outside : (edge : Edge) → Access (leaving m (triggered c edge)) (beat_begins (edge_beat c.head.walk.phase c.head.regs.te c.head.regs.tp edge))
  unfolding triggered beaten
  edge_outside edge =
      edge_holds (λ b. Access (leaving m (beaten c b)) (beat_begins b)) c.head.walk.phase c.head.regs.te c.head.regs.tp edge
      (rests (idle c.head _ _ calm) nothing-heard) (beats_outside c.head.walk.phase calm)

  pub same_outside : Access (leaving m (on c (plain c.head))) false
  same_outside = rests (idle c.head _ _ calm) nothing-heard

-- the key is nothing to it: what comes of the record with another key comes of this one
pub rekeyed_outside : (k : Bool) (c : Channel) (m : List ℕ) (h : Heard) (d : Served) (b : Bool) → Outside (rekeyed k c) m h d b → Outside c m h d b
rekeyed_outside k c m h d false (rests r u) = rests (record { counted = r.counted; runs = r.runs; action = r.action }) u
rekeyed_outside k c m h d true (asks x q e u) = asks x q e u

-- ---- a step of channel `number` that does not reset it
module _ (c : Channel) (m : List ℕ) (number : ℕ) (low : number < 3) (calm : runs_of c.head.walk.phase ≡ false) where
  place_outside : (p : Option Register) (v : ℕ) → place_resets c p v ≡ false → Outside c m none (write_at c m p v) (place_begins c p v)
  unfolding write_at put_of
  place_outside (Some reg) v e = rw e (rekeyed_outside (key_after (preset_of reg) v) c m none _ _ (write_outside (keyed c reg v) m calm reg v))
  place_outside None v e = rests (kept c m calm nowhere) nothing-heard

  pub own_outside : (op : Op) → op_resets c number op ≡ false
      → Outside c m (heard_op op (served_by c m number op).stepped.answer.number) (served_by c m number op) (op_begins c number op)
  unfolding served_by event_at heard_op
  own_outside (Write a v) e = place_outside (place_of number a) v e
  own_outside (Read a) e = read_outside c m calm (place_of number a)
  own_outside (Wire x) e =
      rw (le-ltb 2 number (omega (arith, low)))
      (met_outside c m calm _ c.head.walk.phase x _ (meeting (kind_of c.head) _ c.head.regs.te (framecnt_of c.head) x) calm)

-- ---- none begins where the count is 0 or the lengths don't fit
began_rests : (c : Channel) (m : List ℕ) (b : Beginning) → fit_of b ≡ false → Rests c (leaving m (began_by c b))
unfolding began_by
began_rests c m Empty e = record { counted = refl; runs = refl; action = refl }
began_rests c m Unfit e = record { counted = refl; runs = refl; action = refl }
began_rests c m Fit e = no (sym e)

pub none_begins : (c : Channel) (m : List ℕ) (h : Heard) (d : Served) (b : Bool) → Outside c m h d b → (b ≡ true → may_begin c ≡ false) → Rests c d
unfolding begun
none_begins c m h d false (rests r u) f = r
none_begins c m h d true (asks x q e u) f =
    let r = began_rests (with_head c x) m _ (f refl) in rw e (record { counted = r.counted; runs = r.runs; action = r.action })

pub unheard_outside : (c : Channel) (m : List ℕ) (h : Heard) (d : Served) (b : Bool) → Outside c m h d b → Unheard h
unheard_outside c m h d false (rests r u) = u
unheard_outside c m h d true (asks x q e u) = u
