-- What a channel's step makes of its key: of the steps of the wires and the accesses only a write to PRESET looks at it, and reads and events leave it.
use Rattle.std.specs.Prelude.{ℕ, Bool, true, false, List, ◌≡◌, eqb, ltb, Option, Some, None, if◌then◌else◌}
use Rattle.std.proofs.Math.Path.{refl, ap}
use Rattle.std.proofs.Common.{sym, arith}
use Rattle.laws.specs.Cases.{false_not_true}
use Rattle.rules.specs.declared.registers.Register.{Register}
use Rattle.rules.specs.declared.registers.Register.TheVariants.{Status, Control, Chstatus, Intmsk, Slatable, Tranconfig, Data, Transel, Tranofs, Bytecount, Setting, Preset}
use Rattle.rules.specs.declared.wires.Edge.{Edge}
use Rattle.rules.specs.declared.wires.Event.{Event}
use Rattle.rules.specs.Access.{preset_of, key_after, resets_of}
use Rattle.rules.specs.Numbers.{done, nowhere}
use Rattle.rules.specs.Registers.{place_of}
use Rattle.rules.specs.Tables.{reads_of}
use Rattle.sequence.specs.declared.wires.Ask.{Ask}
use Rattle.sequence.specs.declared.wires.Ask.TheVariants.{Nothing, Overrun, Begin, Wait, Sto, Seq, Leave}
use Rattle.sequence.specs.declared.wires.Beat.{Beat}
use Rattle.sequence.specs.declared.wires.Beat.TheVariants.{Quiet, Begin as BeginBeat, Late as LateBeat}
use Rattle.sequence.specs.declared.wires.Beginning.{Beginning}
use Rattle.sequence.specs.declared.wires.Beginning.TheVariants.{Empty, Unfit, Fit}
use Rattle.sequence.specs.declared.wires.Move.{Move}
use Rattle.sequence.specs.declared.wires.Move.TheVariants.{Halt, Send}
use Rattle.sequence.specs.declared.wires.Next.{Next}
use Rattle.sequence.specs.declared.wires.Next.TheVariants.{Cut, More, Over}
use Rattle.sequence.specs.declared.wires.Tail.{Tail}
use Rattle.sequence.specs.declared.wires.Tail.TheVariants.{Plain}
use Rattle.sequence.specs.declared.wires.Turn.{Turn}
use Rattle.sequence.specs.declared.wires.Turn.TheVariants.{Unawaited, AckAddress, AckSending, Receive, NackAddress, NackSending, Begin as BeginTurn, Late, End, Fault as Faulty}
use Rattle.steps.specs.declared.map.Op.{Op}
use Rattle.steps.specs.declared.map.Op.TheVariants.{Write, Read, Wire}
use Rattle.steps.specs.Keys.{op_writes}
use Rattle.head.specs.Access.{refusal_of}
use Rattle.head.specs.Head.{turn_at, stopped, clocked, failed, frame_ended}
use Rattle.head.specs.State.{with_key, refused}
use Rattle.channel.specs.declared.state.Channel.{Channel}
use Rattle.channel.specs.declared.state.Stepped.{Stepped}
use Rattle.channel.specs.State.{Served, with_head, guarded, leaving, on}
use Rattle.channel.specs.Access.{read_by, read_of, asked, controlled, written_by, write_of, put_of}
use Rattle.channel.specs.Step.{write_at, read_at, event_at, served_by}
use Rattle.channel.specs.Wires.{
  slave_of,
  ack_write,
  sent_to,
  passed,
  started_by,
  started,
  cleared,
  began_by,
  begun,
  moved_to,
  onward,
  finished,
  counted_one,
  byte_sent,
  send_on,
  ack_address,
  ack_sending,
  receive_on,
  received,
  failed_by,
  nacked,
  turned,
  beaten,
  triggered,
}
use Rattle.part.specs.declared.state.Part.{Part}
use Rattle.part.specs.State.{chan, keyless}
use Rattle.part.proofs.Laws.Keys.{own_left_lem}
use Rattle.works.specs.Keys.{preset_at, writes_preset}
use Rattle.works.specs.Work.{left_for}

-- the channel with this key, and what a step gives of it
abbrev pub rekeyed : Bool → Channel → Channel
rekeyed k c = with_head c (with_key c.head k)

abbrev stepped_with : Bool → Stepped → Stepped
stepped_with k r = record { channel = rekeyed k r.channel; answer = r.answer }

abbrev pub served_with : Bool → Served → Served
served_with k d = record { stepped = stepped_with k d.stepped; bytes = d.bytes }

-- where each of two comes of f, the one chosen does
pick-map : {A B : Type 0} (f : A → B) (b : Bool) (x y : A) {u v : B} → u ≡ f x → v ≡ f y → (if b then u else v) ≡ f (if b then x else y)
pick-map f true x y p q = p
pick-map f false x y p q = q

-- ---- A RULE THAT DOES NOT LOOK AT THE KEY leaves it: of the channel with another one it gives the same, with that one
module _ (k : Bool) (c : Channel) where
  moved_keyed : (t : Tail) (x : Move) → moved_to (rekeyed k c) t x ≡ stepped_with k (moved_to c t x)
  unfolding moved_to sent_to stopped
  moved_keyed t Halt = refl
  moved_keyed t (Send n) = refl

  started-keyed : (x : Move) → started_by (rekeyed k c) x ≡ stepped_with k (started_by c x)
  unfolding started_by sent_to frame_ended
  started-keyed Halt = refl
  started-keyed (Send n) = refl

module _ (k : Bool) where
  onward-keyed : (c : Channel) (n : ℕ) (t : Tail) → onward (rekeyed k c) n t ≡ stepped_with k (onward c n t)
  unfolding onward passed
  onward-keyed c n t = moved_keyed k _ t _

  finished-keyed : (c : Channel) (n : ℕ) (t : Tail) → finished (rekeyed k c) n t ≡ stepped_with k (finished c n t)
  unfolding finished
  finished-keyed c n t = onward-keyed _ n t

  began_keyed : (c : Channel) (b : Beginning) → began_by (rekeyed k c) b ≡ stepped_with k (began_by c b)
  unfolding began_by started cleared passed
  began_keyed c Empty = refl
  began_keyed c Unfit = refl
  began_keyed c Fit = started-keyed k _ _

  begun-keyed : (c : Channel) → begun (rekeyed k c) ≡ stepped_with k (begun c)
  unfolding begun
  begun-keyed c = began_keyed c _

  send_keyed : (c : Channel) (m : List ℕ) (n i : ℕ) (x : Next) → send_on (rekeyed k c) m n i x ≡ stepped_with k (send_on c m n i x)
  unfolding send_on stopped byte_sent
  send_keyed c m n i Cut = refl
  send_keyed c m n i More = refl
  send_keyed c m n i Over = finished-keyed c n _

  receive_keyed : (c : Channel) (n : ℕ) (x : Next) → receive_on (rekeyed k c) n x ≡ stepped_with k (receive_on c n x)
  unfolding receive_on stopped
  receive_keyed c n Cut = refl
  receive_keyed c n More = refl
  receive_keyed c n Over = finished-keyed c n _

  ack_keyed : (c : Channel) (m : List ℕ) (n : ℕ) → ack_address (rekeyed k c) m n ≡ stepped_with k (ack_address c m n)
  unfolding ack_address clocked
  ack_keyed c m n = pick-map (stepped_with k) (reads_of (slave_of c n)) (on c (clocked c.head n)) (ack_write c m n) refl (send_keyed c m n 0 _)

  failed-keyed : (c : Channel) (n : ℕ) (b : Bool) → failed_by (rekeyed k c) n b ≡ stepped_with k (failed_by c n b)
  unfolding failed_by failed
  failed-keyed c n b = pick-map (stepped_with k) b (onward c n Plain) (on c (failed c.head)) (onward-keyed c n Plain) refl

  nacked-keyed : (c : Channel) (n v : ℕ) → nacked (rekeyed k c) n v ≡ stepped_with k (nacked c n v)
  unfolding nacked
  nacked-keyed c n v = failed-keyed _ n _

  turned-keyed : (c : Channel) (m : List ℕ) (t : Turn) → turned (rekeyed k c) m t ≡ served_with k (turned c m t)
  unfolding turned ack_sending received counted_one frame_ended
  turned-keyed c m Unawaited = refl
  turned-keyed c m (AckAddress n) = ap (leaving m) (ack_keyed c m n)
  turned-keyed c m (AckSending n) = ap (leaving m) (send_keyed _ m n _ _)
  turned-keyed c m (Receive n b) = ap (leaving _) (receive_keyed _ n _)
  turned-keyed c m (NackAddress n) = ap (leaving m) (nacked-keyed c n _)
  turned-keyed c m (NackSending n) = ap (leaving m) (nacked-keyed c n _)
  turned-keyed c m BeginTurn = ap (leaving m) (begun-keyed c)
  turned-keyed c m Late = refl
  turned-keyed c m End = refl
  turned-keyed c m (Faulty f) = refl

  beaten-keyed : (c : Channel) (b : Beat) → beaten (rekeyed k c) b ≡ stepped_with k (beaten c b)
  unfolding beaten
  beaten-keyed c Quiet = refl
  beaten-keyed c BeginBeat = begun-keyed c
  beaten-keyed c LateBeat = refl

  read_by-keyed : (c : Channel) (m : List ℕ) (reg : Register) → read_by (rekeyed k c) m reg ≡ stepped_with k (read_by c m reg)
  unfolding read_by
  read_by-keyed c m (Status n) = refl
  read_by-keyed c m Control = refl
  read_by-keyed c m Chstatus = refl
  read_by-keyed c m Intmsk = refl
  read_by-keyed c m Slatable = refl
  read_by-keyed c m Tranconfig = refl
  read_by-keyed c m Data = refl
  read_by-keyed c m Transel = refl
  read_by-keyed c m Tranofs = refl
  read_by-keyed c m Bytecount = refl
  read_by-keyed c m (Setting n) = refl
  read_by-keyed c m Preset = refl

  asked-keyed : (c : Channel) (a : Ask) → asked (rekeyed k c) a ≡ stepped_with k (asked c a)
  unfolding asked
  asked-keyed c Nothing = refl
  asked-keyed c Overrun = refl
  asked-keyed c Begin = begun-keyed c
  asked-keyed c Wait = refl
  asked-keyed c Sto = refl
  asked-keyed c Seq = refl
  asked-keyed c Leave = refl

  written-keyed : (c : Channel) (m : List ℕ) (reg : Register) (v : ℕ) → written_by (rekeyed k c) m reg v ≡ served_with k (written_by c m reg v)
  unfolding written_by controlled
  written-keyed c m (Status n) v = refl
  written-keyed c m Control v = ap (leaving m) (asked-keyed _ _)
  written-keyed c m Chstatus v = refl
  written-keyed c m Intmsk v = refl
  written-keyed c m Slatable v = refl
  written-keyed c m Tranconfig v = refl
  written-keyed c m Data v = refl
  written-keyed c m Transel v = refl
  written-keyed c m Tranofs v = refl
  written-keyed c m Bytecount v = refl
  written-keyed c m (Setting n) v = refl
  written-keyed c m Preset v = refl

  guarded-keyed : (n : ℕ) (c : Channel) (m : List ℕ) (d : Served) → guarded n (rekeyed k c) m (served_with k d) ≡ served_with k (guarded n c m d)
  unfolding guarded
  guarded-keyed n c m d = pick-map (served_with k) (eqb n done) d (leaving m (on c (refused c.head n))) refl refl

  refusal-keyed : (c : Channel) (reg : Register) (v : ℕ) → refusal_of (rekeyed k c).head c.tranconfig reg v ≡ refusal_of c.head c.tranconfig reg v
  unfolding refusal_of
  refusal-keyed c (Status n) v = refl
  refusal-keyed c Control v = refl
  refusal-keyed c Chstatus v = refl
  refusal-keyed c Intmsk v = refl
  refusal-keyed c Slatable v = refl
  refusal-keyed c Tranconfig v = refl
  refusal-keyed c Data v = refl
  refusal-keyed c Transel v = refl
  refusal-keyed c Tranofs v = refl
  refusal-keyed c Bytecount v = refl
  refusal-keyed c (Setting n) v = refl
  refusal-keyed c Preset v = refl

  write-keyed : (c : Channel) (m : List ℕ) (reg : Register) (v : ℕ) → write_of (rekeyed k c) m reg v ≡ served_with k (write_of c m reg v)
  unfolding write_of
  write-keyed c m reg v = rw (written-keyed c m reg v, refusal-keyed c reg v) (guarded-keyed _ c m _)

  read_at-keyed : (c : Channel) (m : List ℕ) (p : Option Register) → read_at (rekeyed k c) m p ≡ served_with k (read_at c m p)
  unfolding read_at read_of
  read_at-keyed c m (Some reg) = rw (read_by-keyed c m reg) (guarded-keyed _ c m _)
  read_at-keyed c m None = refl

  event_keyed : (c : Channel) (m : List ℕ) (number : ℕ) (e : Event) → event_at (rekeyed k c) m number e ≡ served_with k (event_at c m number e)
  unfolding event_at
  event_keyed c m number e =
      pick-map (served_with k) (ltb 2 number) (leaving m (on c (refused c.head nowhere))) (turned c m (turn_at c.head e)) refl (turned-keyed c m (turn_at c.head e))

  -- a read, an event
  quiet-keyed : (c : Channel) (m : List ℕ) (number : ℕ) (op : Op) → op_writes op ≡ false → served_by (rekeyed k c) m number op ≡ served_with k (served_by c m number op)
  unfolding served_by
  quiet-keyed c m number (Write a v) e = absurd (let z = false_not_true (sym e) in omega (arith, z))
  quiet-keyed c m number (Read a) e = read_at-keyed c m (place_of number a)
  quiet-keyed c m number (Wire x) e = event_keyed c m number x

  -- a trigger edge
  edge_keyed : (c : Channel) (edge : Edge) → triggered (rekeyed k c) edge ≡ stepped_with k (triggered c edge)
  unfolding triggered
  edge_keyed c edge = beaten-keyed c _

-- ---- so a read, an event and a trigger edge leave the key
pub quiet_key : (c : Channel) (m : List ℕ) (number : ℕ) (op : Op) → op_writes op ≡ false → (served_by c m number op).stepped.channel.head.key ≡ c.head.key
quiet_key c m number op e = ap (λ (d : Served). d.stepped.channel.head.key) (quiet-keyed c.head.key c m number op e)

pub edge_key : (c : Channel) (edge : Edge) → (triggered c edge).channel.head.key ≡ c.head.key
edge_key c edge = ap (λ (r : Stepped). r.channel.head.key) (edge_keyed c.head.key c edge)

-- ---- A STEP THAT DOES NOT WRITE TO PRESET makes the same of a channel whose key was forgotten, and its key stays forgotten
not_reset : (v : ℕ) (key : Bool) → resets_of false v key ≡ false
unfolding resets_of
not_reset v key = refl

not_kept : (v : ℕ) → key_after false v ≡ false
unfolding key_after
not_kept v = refl

put-keyless : (c : Channel) (m : List ℕ) (reg : Register) (v : ℕ) → preset_of reg ≡ false → put_of (keyless c) m reg v ≡ served_with false (put_of c m reg v)
unfolding put_of
put-keyless c m reg v q = rw (q, not_reset v c.head.key, not_reset v false, not_kept v) (write-keyed false (keyless c) m reg v)

write-keyless : (c : Channel) (m : List ℕ) (p : Option Register) (v : ℕ) → preset_at p ≡ false → write_at (keyless c) m p v ≡ served_with false (write_at c m p v)
unfolding write_at
write-keyless c m (Some reg) v q = put-keyless c m reg v q
write-keyless c m None v q = refl

pub served_keyless : (c : Channel) (m : List ℕ) (number : ℕ) (op : Op) → writes_preset number op ≡ false → served_by (keyless c) m number op ≡ served_with false (served_by c m number op)
unfolding served_by
served_keyless c m number (Write a v) q = write-keyless c m (place_of number a) v q
served_keyless c m number (Read a) q = read_at-keyed false c m (place_of number a)
served_keyless c m number (Wire x) q = event_keyed false c m number x

-- ---- to a work of its own a channel's key is left
pub left_own : (p : Part) (c : ℕ) (writes : Bool) → chan (left_for p c writes) c ≡ chan p c
left_own p c true = own_left_lem p c
left_own p c false = refl
