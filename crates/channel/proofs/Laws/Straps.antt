-- No step of a channel changes what the hardware reset chose of it; and a UFm channel to which nobody ever answered stays so.
use Rattle.std.specs.Prelude.{Bool, Option, Some, None, List, [], ◌∷◌, ◌≡◌, ℕ, zero, suc, ◌+◌, ◌-◌, ◌<◌, eqb, ltb, set, replicate}
use Rattle.std.proofs.Math.Path.{refl}
use Rattle.std.proofs.Common.{◌∙◌, ap, arith}
use Rattle.laws.specs.Cases.{pick_holds}
use Rattle.rules.specs.declared.parts.Kind.{Kind}
use Rattle.rules.specs.declared.parts.Kind.TheVariants.{Fm, Ufm}
use Rattle.rules.specs.declared.parts.Straps.{Straps}
use Rattle.rules.specs.declared.state.Flags.{Flags}
use Rattle.rules.specs.declared.state.Phase.{Phase}
use Rattle.rules.specs.declared.registers.Command.{Command}
use Rattle.rules.specs.declared.registers.Register.{Register}
use Rattle.rules.specs.declared.registers.Register.TheVariants.{Status, Control, Chstatus, Intmsk, Slatable, Tranconfig, Data, Transel, Tranofs, Bytecount, Setting, Preset}
use Rattle.rules.specs.Numbers.{done, done_status}
use Rattle.rules.specs.Access.{preset_of, resets_of}
use Rattle.rules.specs.Registers.{command_of, place_of}
use Rattle.rules.specs.Tables.{reads_of, mark_from}
use Rattle.rules.specs.declared.wires.Action.{Action}
use Rattle.rules.specs.declared.wires.Event.{Event}
use Rattle.rules.specs.declared.wires.Edge.{Edge}
use Rattle.sequence.specs.declared.wires.Ask.{Ask}
use Rattle.sequence.specs.declared.wires.Ask.TheVariants.{Nothing, Overrun, Begin, Wait, Sto, Seq, Leave}
use Rattle.sequence.specs.declared.wires.Beat.{Beat}
use Rattle.sequence.specs.declared.wires.Beat.TheVariants.{Quiet, Begin as BeginBeat, Late as LateBeat}
use Rattle.sequence.specs.declared.wires.Beginning.{Beginning}
use Rattle.sequence.specs.declared.wires.Beginning.TheVariants.{Empty, Unfit, Fit}
use Rattle.sequence.specs.declared.wires.Ending.{Ending}
use Rattle.sequence.specs.declared.wires.Ending.TheVariants.{Fe, Error, Sd, Wait as WaitEnd}
use Rattle.sequence.specs.declared.wires.Fault.TheVariants.{Sse}
use Rattle.sequence.specs.declared.wires.Move.{Move}
use Rattle.sequence.specs.declared.wires.Move.TheVariants.{Halt, Send}
use Rattle.sequence.specs.declared.wires.Next.{Next}
use Rattle.sequence.specs.declared.wires.Next.TheVariants.{Cut, More, Over}
use Rattle.sequence.specs.declared.wires.Tail.{Tail}
use Rattle.sequence.specs.declared.wires.Turn.{Turn}
use Rattle.sequence.specs.Wires.{masked_of}
use Rattle.sequence.specs.Walk.{no_flags, late_flags, end_flags, fault_flags}
use Rattle.sequence.proofs.Laws.Meeting.{Meeting, meeting}
use Rattle.sequence.proofs.Laws.Meeting.Meeting.{unawaited, ack_address_lem, ack_sending_lem, receive, nack_address, nack_sending, begin, late, end, sda, scl, ill}
use Rattle.steps.specs.declared.map.Op.{Op}
use Rattle.steps.specs.declared.map.Op.TheVariants.{Write, Read, Wire}
use Rattle.head.specs.Access.{moded, pointed, data_place}
use Rattle.head.specs.Head.{framecnt_of, kind_of, noted, frame_ended, stopped, clocked, failed}
use Rattle.channel.specs.declared.state.Channel.{Channel}
use Rattle.channel.specs.declared.state.Stepped.{Stepped}
use Rattle.channel.specs.State.{Served, fresh, guarded, with_head}
use Rattle.channel.specs.Access.{read_by, read_of, asked, controlled, written_by, write_of, keyed, put_of}
use Rattle.channel.specs.Step.{write_at, read_at, event_at, served_by}
use Rattle.channel.specs.Unanswered.{LowStatus, NoFault, Unanswered}
use Rattle.channel.specs.Wires.{slave_of, resolved, passed, sent_to, moved_to, onward, finished, started_by, started, cleared, began_by, begun}
use Rattle.channel.specs.Wires.{counted_one, byte_sent, send_on, ack_address, ack_sending, receive_on, received, failed_by, nacked, turned, beaten, triggered}

-- d has what was chosen of c; and where c is UFm and nobody answered it, d is so too
pub record Keeps (c d : Channel) : Type 0 where
  pub straps : d.head.straps ≡ c.head.straps
  pub unanswered : kind_of c.head ≡ Ufm → Unanswered c → Unanswered d

after : (c d e : Channel) → Keeps c d → Keeps d e → Keeps c e
after c d e k l = record {
  straps = l.straps ∙ k.straps;
  unanswered = λ q u. l.unanswered (ap (λ (x : Straps). x.kind) k.straps ∙ q) (k.unanswered q u);
}

-- STATUS and the flags, each by itself
apart : (c d : Channel) → d.head.straps ≡ c.head.straps → (LowStatus c.status → LowStatus d.status) → (NoFault c.head.flags → NoFault d.head.flags)
    → Keeps c d
apart c d e f g = record { straps = e; unanswered = λ _ u. (f u.0, g u.1) }

pub still : (c d : Channel) → d.head.straps ≡ c.head.straps → d.status ≡ c.status → d.head.flags ≡ c.head.flags → Keeps c d
still c d e f g = apart c d e (λ u. rw f u) (λ u. rw g u)

abbrev Kept : Channel → Stepped → Type 0
Kept c r = Keeps c r.channel

-- ---- STATUS: 00h, 01h and 02h are below 4
set_low : (l : List ℕ) (i v : ℕ) → v < 4 → LowStatus l → LowStatus (set l i v)
set_low [] i v h k n = k n
set_low (x ∷ l) zero v h k zero = h
set_low (x ∷ l) zero v h k (suc n) = k (suc n)
set_low (x ∷ l) (suc i) v h k zero = k zero
set_low (x ∷ l) (suc i) v h k (suc n) = set_low l i v h (λ j. k (suc j)) n

zeros_low : (k : ℕ) → LowStatus (replicate k 0)
zeros_low zero n = omega arith
zeros_low (suc k) zero = omega arith
zeros_low (suc k) (suc n) = zeros_low k n

marks_low : (l : List ℕ) (i left : ℕ) → LowStatus l → LowStatus (mark_from l i left)
unfolding mark_from
marks_low l i zero h = h
marks_low l i (suc left) h = marks_low (set l i done_status) (i + 1) left (set_low l i done_status (omega arith) h)

resolved_keeps : (c : Channel) (n v : ℕ) → v < 4 → Keeps c (resolved c n v)
resolved_keeps c n v h = apart c _ refl (set_low c.status n v h) (λ u. u)

passed_keeps : (c : Channel) (from to : ℕ) → Keeps c (passed c from to)
unfolding passed
passed_keeps c from to = apart c _ refl (marks_low c.status from (to - from)) (λ u. u)

-- ---- the flags: SD, FLD, SSE and FE alone
no_fault : (f g : Flags) → g.we ≡ f.we → g.re ≡ f.re → g.dae ≡ f.dae → g.cle ≡ f.cle → NoFault f → NoFault g
no_fault f g we re dae cle n = record { we = we ∙ n.we; re = re ∙ n.re; dae = dae ∙ n.dae; cle = cle ∙ n.cle }

ended_clean : (f : Flags) (te : Bool) (n : ℕ) (e : Ending) → NoFault f → NoFault (end_flags f te n e)
unfolding end_flags
ended_clean f te n Fe h = no_fault f _ refl refl refl refl h
ended_clean f te n Error h = h
ended_clean f te n Sd h = no_fault f _ refl refl refl refl h
ended_clean f te n (WaitEnd k) h = no_fault f _ refl refl refl refl h

late_clean : (f : Flags) (femsk : Bool) → NoFault f → NoFault (late_flags f femsk)
unfolding late_flags
late_clean f femsk h = pick_holds NoFault femsk (λ _. no_fault f _ refl refl refl refl h) (λ _. h)

ill_clean : (f : Flags) → NoFault f → NoFault (fault_flags f Sse)
unfolding fault_flags
ill_clean f h = no_fault f _ refl refl refl refl h

none_clean : NoFault no_flags
none_clean = record { we = refl; re = refl; dae = refl; cle = refl }

-- ---- of an Fm+ channel only what was chosen is asked
fm_keeps : (c d : Channel) → Fm ≡ kind_of c.head → d.head.straps ≡ c.head.straps → Keeps c d
fm_keeps c d q e = record { straps = e; unanswered = λ u. absurd (let z = fm_not_ufm (q ∙ u) in omega (arith, z)) }
  where
    fm_not_ufm : Fm ≡ Ufm → ◌≡◌ {A = ℕ} 0 1
    fm_not_ufm h = cc

-- ---- frames
ended_keeps : (c : Channel) → Keeps c (with_head c (frame_ended c.head))
unfolding frame_ended
ended_keeps c = apart c _ refl (λ u. u) (ended_clean _ _ _ _)

late_keeps : (c : Channel) (b : Beat) → Kept c (begun c) → Kept c (beaten c b)
unfolding beaten
late_keeps c Quiet k = still c _ refl refl refl
late_keeps c BeginBeat k = k
late_keeps c LateBeat k = apart c _ refl (λ u. u) (late_clean _ _)

sent_keeps : (c : Channel) (n : ℕ) (a : Action) → Kept c (sent_to c n a)
unfolding sent_to
sent_keeps c n a = apart c _ refl (set_low c.status n 1 (omega arith)) (λ u. u)

moved_keeps : (c : Channel) (t : Tail) (m : Move) → Kept c (moved_to c t m)
unfolding moved_to stopped
moved_keeps c t Halt = still c _ refl refl refl
moved_keeps c t (Send n) = sent_keeps c n _

onward_keeps : (c : Channel) (n : ℕ) (t : Tail) → Kept c (onward c n t)
unfolding onward
onward_keeps c n t = after c _ _ (passed_keeps c (n + 1) _) (moved_keeps _ t _)

finished_keeps : (c : Channel) (n : ℕ) (t : Tail) → Kept c (finished c n t)
unfolding finished
finished_keeps c n t = after c _ _ (resolved_keeps c n done_status (omega arith)) (onward_keeps _ n t)

started_by_keeps : (c : Channel) (m : Move) → Kept c (started_by c m)
unfolding started_by
started_by_keeps c Halt = ended_keeps c
started_by_keeps c (Send n) = sent_keeps c n _

started_keeps : (c : Channel) → Kept c (started c)
unfolding started
started_keeps c = after c _ _ (passed_keeps c 0 _) (started_by_keeps _ _)

began_keeps : (c : Channel) (b : Beginning) → Kept c (began_by c b)
unfolding began_by cleared
began_keeps c Empty = still c _ refl refl refl
began_keeps c Unfit = still c _ refl refl refl
began_keeps c Fit = after c (cleared c) _ (apart c _ refl (λ _. zeros_low 64) (λ u. u)) (started_keeps (cleared c))

begun_keeps : (c : Channel) → Kept c (begun c)
unfolding begun
begun_keeps c = began_keeps c _

send_keeps : (c : Channel) (m : List ℕ) (n k : ℕ) (x : Next) → Kept c (send_on c m n k x)
unfolding send_on byte_sent stopped
send_keeps c m n k Cut = still c _ refl refl refl
send_keeps c m n k More = still c _ refl refl refl
send_keeps c m n k Over = finished_keeps c n _

address_keeps : (c : Channel) (m : List ℕ) (n : ℕ) → Kept c (ack_address c m n)
unfolding ack_address clocked
address_keeps c m n = pick_holds (Kept c) (reads_of (slave_of c n)) (λ _. still c _ refl refl refl) (λ _. send_keeps c m n 0 _)

sending_keeps : (c : Channel) (m : List ℕ) (n : ℕ) → Kept c (ack_sending c m n)
unfolding ack_sending counted_one
sending_keeps c m n = after c (counted_one c n) _ (still c _ refl refl refl) (send_keeps (counted_one c n) m n _ _)

received_keeps : (c : Channel) (n : ℕ) (x : Next) → Kept c (receive_on c n x)
unfolding receive_on stopped
received_keeps c n Cut = still c _ refl refl refl
received_keeps c n More = still c _ refl refl refl
received_keeps c n Over = finished_keeps c n _

nacked_keeps : (c : Channel) (n v : ℕ) → Fm ≡ kind_of c.head → Kept c (nacked c n v)
unfolding nacked failed_by failed
nacked_keeps c n v q =
    let d = with_head (resolved c n v) (noted c.head (reads_of (slave_of c n))) in
    pick_holds (Kept c) (masked_of c.head.regs.intmsk (reads_of (slave_of c n)))
    (λ _. after c d _ (fm_keeps c d q refl) (onward_keeps d n _))
    (λ _. fm_keeps c _ q refl)

-- each turn, by what the event meets
met_keeps : (c : Channel) (m : List ℕ) (k : Kind) (p : Phase) (e : Event) (t : Turn) → Meeting k p e t → k ≡ kind_of c.head → Kept c (turned c m t).stepped
unfolding turned received counted_one
met_keeps c m k p e t unawaited q = still c _ refl refl refl
met_keeps c m k p e t (ack_address_lem {n}) q = address_keeps c m n
met_keeps c m k p e t (ack_sending_lem {n}) q = sending_keeps c m n
met_keeps c m k p e t (receive {n} {b}) q = after c (counted_one c n) _ (still c _ refl refl refl) (received_keeps (counted_one c n) n _)
met_keeps c m k p e t (nack_address {n}) q = nacked_keeps c n _ q
met_keeps c m k p e t (nack_sending {n}) q = nacked_keeps c n _ q
met_keeps c m k p e t begin q = begun_keeps c
met_keeps c m k p e t (late h) q = apart c _ refl (λ u. u) (late_clean _ _)
met_keeps c m k p e t end q = ended_keeps c
met_keeps c m k p e t sda q = fm_keeps c _ q refl
met_keeps c m k p e t (scl h) q = fm_keeps c _ q refl
met_keeps c m k p e t ill q = apart c _ refl (λ u. u) (ill_clean _)

-- ---- accesses
asked_keeps : (c : Channel) (a : Ask) → Kept c (asked c a)
unfolding asked
asked_keeps c Nothing = still c _ refl refl refl
asked_keeps c Overrun = still c _ refl refl refl
asked_keeps c Begin = begun_keeps c
asked_keeps c Wait = still c _ refl refl refl
asked_keeps c Sto = still c _ refl refl refl
asked_keeps c Seq = still c _ refl refl refl
asked_keeps c Leave = apart c _ refl (λ u. u) (ended_clean _ _ _ _)

controlled_keeps : (c : Channel) (k : Command) → Kept c (controlled c k)
unfolding controlled
controlled_keeps c k =
    let d = with_head c (pointed (moded c.head k) k (data_place c.head c.tranconfig)) in
    after c d _ (still c d refl refl refl) (asked_keeps d _)

read_keeps : (c : Channel) (m : List ℕ) (reg : Register) → Kept c (read_by c m reg)
unfolding read_by
read_keeps c m (Status n) = still c _ refl refl refl
read_keeps c m Control = still c _ refl refl refl
read_keeps c m Chstatus = apart c _ refl (λ u. u) (λ _. none_clean)
read_keeps c m Intmsk = still c _ refl refl refl
read_keeps c m Slatable = still c _ refl refl refl
read_keeps c m Tranconfig = still c _ refl refl refl
read_keeps c m Data = still c _ refl refl refl
read_keeps c m Transel = still c _ refl refl refl
read_keeps c m Tranofs = still c _ refl refl refl
read_keeps c m Bytecount = still c _ refl refl refl
read_keeps c m (Setting n) = still c _ refl refl refl
read_keeps c m Preset = still c _ refl refl refl

write_keeps : (c : Channel) (m : List ℕ) (reg : Register) (v : ℕ) → Kept c (written_by c m reg v).stepped
unfolding written_by
write_keeps c m (Status n) v = still c _ refl refl refl
write_keeps c m Control v = controlled_keeps c (command_of v)
write_keeps c m Chstatus v = still c _ refl refl refl
write_keeps c m Intmsk v = still c _ refl refl refl
write_keeps c m Slatable v = still c _ refl refl refl
write_keeps c m Tranconfig v = still c _ refl refl refl
write_keeps c m Data v = still c _ refl refl refl
write_keeps c m Transel v = still c _ refl refl refl
write_keeps c m Tranofs v = still c _ refl refl refl
write_keeps c m Bytecount v = still c _ refl refl refl
write_keeps c m (Setting n) v = still c _ refl refl refl
write_keeps c m Preset v = still c _ refl refl refl

abbrev Serves : Channel → Served → Type 0
Serves c d = Kept c d.stepped

guarded_keeps : (n : ℕ) (c : Channel) (m : List ℕ) (d : Served) → Serves c d → Serves c (guarded n c m d)
unfolding guarded
guarded_keeps n c m d k = pick_holds (Serves c) (eqb n done) (λ _. k) (λ _. still c _ refl refl refl)

-- A RESET LEAVES A CHANNEL TO WHICH NOBODY ANSWERED, of either kind
pub fresh_unanswered : (x : Straps) → Unanswered (fresh x)
fresh_unanswered x = (zeros_low 64, none_clean)

module _ (c : Channel) (m : List ℕ) where
  put_keeps : (reg : Register) (v : ℕ) → Serves c (put_of c m reg v)
  unfolding put_of write_of
  put_keeps reg v =
      pick_holds (Serves c) (resets_of (preset_of reg) v c.head.key) (λ _. record { straps = refl; unanswered = λ _ _. fresh_unanswered c.head.straps })
      (λ _. after c (keyed c reg v) _ (still c _ refl refl refl) (guarded_keeps _ (keyed c reg v) m _ (write_keeps (keyed c reg v) m reg v)))

  write_at_lem : (p : Option Register) (v : ℕ) → Serves c (write_at c m p v)
  unfolding write_at
  write_at_lem (Some reg) v = put_keeps reg v
  write_at_lem None v = still c _ refl refl refl

  read_at_lem : (p : Option Register) → Serves c (read_at c m p)
  unfolding read_at read_of
  read_at_lem (Some reg) = guarded_keeps _ c m _ (read_keeps c m reg)
  read_at_lem None = still c _ refl refl refl

  event_at_lem : (number : ℕ) (e : Event) → Serves c (event_at c m number e)
  unfolding event_at
  event_at_lem number e =
      pick_holds (Serves c) (ltb 2 number) (λ _. still c _ refl refl refl)
      (λ _. met_keeps c m _ _ e _ (meeting (kind_of c.head) c.head.walk.phase c.head.regs.te (framecnt_of c.head) e) refl)

  -- NO STEP CHANGES WHAT WAS CHOSEN, and nobody answers a UFm channel
  pub served_keeps : (number : ℕ) (op : Op) → Keeps c (served_by c m number op).stepped.channel
  unfolding served_by
  served_keeps number (Write a v) = write_at_lem (place_of number a) v
  served_keeps number (Read a) = read_at_lem (place_of number a)
  served_keeps number (Wire e) = event_at_lem number e

-- NOR DOES A TRIGGER EDGE
pub triggered_keeps : (c : Channel) (edge : Edge) → Keeps c (triggered c edge).channel
unfolding triggered
triggered_keeps c edge = late_keeps c _ (begun_keeps c)
