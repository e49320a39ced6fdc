-- A step of one channel with another INTMSK: it does the same, and leaves that INTMSK; where the two differ in bits that are not heeded.
use Rattle.std.specs.Prelude.{ℕ, ◌/◌, ◌%◌, Bool, true, List, [], ◌≡◌, eqb, ltb, Option, Some, None, if◌then◌else◌}
use Rattle.std.proofs.Math.Bool.{false}
use Rattle.std.proofs.Math.Path.{refl, ap}
use Rattle.std.proofs.Common.{sym, ◌∙◌, arith}
use Rattle.laws.specs.Cases.{false_not_true}
use Rattle.rules.specs.declared.parts.Kind.{Kind}
use Rattle.rules.specs.declared.parts.Kind.TheVariants.{Fm, Ufm}
use Rattle.rules.specs.declared.parts.Straps.{Straps}
use Rattle.rules.specs.declared.state.Phase.{Phase}
use Rattle.rules.specs.declared.registers.Command.{Command}
use Rattle.rules.specs.declared.registers.Register.{Register}
use Rattle.rules.specs.declared.registers.Register.TheVariants.{Status, Control, Chstatus, Intmsk, Slatable, Tranconfig, Data, Transel, Tranofs, Bytecount, Setting, Preset}
use Rattle.rules.specs.Access.{preset_of, resets_of}
use Rattle.rules.specs.Numbers.{done, done_status}
use Rattle.rules.specs.Parts.{heeded}
use Rattle.rules.specs.Registers.{bit_of, femsk, command_of, place_of}
use Rattle.rules.specs.Tables.{reads_of}
use Rattle.rules.specs.declared.wires.Edge.{Edge}
use Rattle.rules.specs.declared.wires.Event.{Event}
use Rattle.bounds.specs.Range.{registers_in}
use Rattle.sequence.specs.declared.wires.Ask.{Ask}
use Rattle.sequence.specs.declared.wires.Ask.TheVariants.{Nothing, Overrun, Begin, Wait, Sto, Seq, Leave}
use Rattle.sequence.specs.declared.wires.Beat.{Beat}
use Rattle.sequence.specs.declared.wires.Beat.TheVariants.{Quiet, Begin as BeginBeat, Late as LateBeat}
use Rattle.sequence.specs.declared.wires.Beginning.{Beginning}
use Rattle.sequence.specs.declared.wires.Beginning.TheVariants.{Empty, Unfit, Fit}
use Rattle.sequence.specs.declared.wires.Move.{Move}
use Rattle.sequence.specs.declared.wires.Move.TheVariants.{Halt, Send}
use Rattle.sequence.specs.declared.wires.Next.{Next}
use Rattle.sequence.specs.declared.wires.Next.TheVariants.{Cut, More, Over}
use Rattle.sequence.specs.declared.wires.Tail.{Tail}
use Rattle.sequence.specs.declared.wires.Turn.{Turn}
use Rattle.sequence.proofs.Laws.Meeting.{Meeting, meeting}
use Rattle.sequence.proofs.Laws.Meeting.Meeting.{unawaited, ack_address_lem, ack_sending_lem, receive, nack_address, nack_sending, begin, late, end, sda, scl, ill}
use Rattle.steps.specs.declared.map.Op.{Op}
use Rattle.steps.specs.declared.map.Op.TheVariants.{Write, Read, Wire}
use Rattle.steps.specs.declared.map.Target.TheVariants.{One}
use Rattle.head.specs.Access.{refusal_of, moded, pointed, data_place}
use Rattle.head.specs.Head.{framecnt_of, kind_of, turn_at, femsk_of, mask_to, frame_ended, stopped, clocked, late_by}
use Rattle.head.specs.Range.{head_in}
use Rattle.channel.specs.declared.state.Channel.{Channel}
use Rattle.channel.specs.declared.state.Stepped.{Stepped}
use Rattle.channel.specs.State.{Served, on, leaving, guarded, with_head}
use Rattle.head.specs.declared.state.Head.{Head}
use Rattle.head.specs.State.{plain}
use Rattle.channel.specs.Access.{read_by, read_of, asked, controlled, written_by, write_of, keyed, put_of}
use Rattle.channel.specs.Range.{in_range}
use Rattle.channel.specs.Step.{write_at, read_at, event_at, served_by}
use Rattle.channel.specs.Wires.{slave_of, resolved, passed, sent_to, moved_to, onward, finished, started_by, started, cleared, began_by, begun}
use Rattle.channel.specs.Wires.{counted_one, byte_sent, send_on, ack_address, ack_sending, turned, beaten, triggered}
use Rattle.channel.proofs.Laws.Straps.{served_keeps, triggered_keeps}
use Rattle.kinds.specs.Statement.{remasked, Alike, is_intmsk, mask_at, reads_mask}

-- a step's outcome with INTMSK n
abbrev re_stepped : ℕ → Stepped → Stepped
re_stepped n r = record { channel = remasked n r.channel; answer = r.answer }

-- either way of a test
pub either : {A B : Type 0} (R : A → B → Type 0) (b : Bool) {x u : A} {y v : B} → R x y → R u v → R (if b then x else u) (if b then y else v)
either R true p q = p
either R false p q = q

no_fm : {A : Type 0} → Fm ≡ Ufm → A
no_fm e = absurd (let z : ◌≡◌ {A = ℕ} 0 1 = fm_ufm e in omega (arith, z))
  where
    fm_ufm : Fm ≡ Ufm → ◌≡◌ {A = ℕ} 0 1
    fm_ufm e = cc

-- ---- frames and events, whatever INTMSK is
module _ (n : ℕ) where
  abbrev Re : Stepped → Stepped → Type 0
  Re r q = q ≡ re_stepped n r

  moved_re : (c : Channel) (t : Tail) (m : Move) → Re (moved_to c t m) (moved_to (remasked n c) t m)
  unfolding moved_to stopped sent_to
  moved_re c t Halt = refl
  moved_re c t (Send k) = refl

  onward_re : (c : Channel) (k : ℕ) (t : Tail) → Re (onward c k t) (onward (remasked n c) k t)
  unfolding onward passed
  onward_re c k t = moved_re _ t _

  finished_re : (c : Channel) (k : ℕ) (t : Tail) → Re (finished c k t) (finished (remasked n c) k t)
  unfolding finished
  finished_re c k t = onward_re (resolved c k done_status) k t

  started_by_re : (c : Channel) (m : Move) → Re (started_by c m) (started_by (remasked n c) m)
  unfolding started_by sent_to frame_ended
  started_by_re c Halt = refl
  started_by_re c (Send k) = refl

  started_re : (c : Channel) → Re (started c) (started (remasked n c))
  unfolding started passed
  started_re c = started_by_re _ _

  began_re : (c : Channel) (b : Beginning) → Re (began_by c b) (began_by (remasked n c) b)
  unfolding began_by cleared
  began_re c Empty = refl
  began_re c Unfit = refl
  began_re c Fit = started_re _

  begun_re : (c : Channel) → Re (begun c) (begun (remasked n c))
  unfolding begun
  begun_re c = began_re c _

  send_re : (c : Channel) (m : List ℕ) (k j : ℕ) (x : Next) → Re (send_on c m k j x) (send_on (remasked n c) m k j x)
  unfolding send_on byte_sent stopped
  send_re c m k j Cut = refl
  send_re c m k j More = refl
  send_re c m k j Over = finished_re c k _

  address_re : (c : Channel) (m : List ℕ) (k : ℕ) → Re (ack_address c m k) (ack_address (remasked n c) m k)
  unfolding ack_address clocked
  address_re c m k = either Re (reads_of (slave_of c k)) refl (send_re c m k 0 _)

  sending_re : (c : Channel) (m : List ℕ) (k : ℕ) → Re (ack_sending c m k) (ack_sending (remasked n c) m k)
  unfolding ack_sending counted_one
  sending_re c m k = send_re (counted_one c k) m k _ _

  -- ---- late by FEMSK, bit 0
  late_re : (c : Channel) → bit_of n femsk ≡ femsk_of c.head → late_by (mask_to c.head n) ≡ mask_to (late_by c.head) n
  late_re c e = rw e

  -- ---- each turn of a UFm channel
  met_re : (c : Channel) (m : List ℕ) → bit_of n femsk ≡ femsk_of c.head → (k : Kind) (p : Phase) (e : Event) (t : Turn) → Meeting k p e t → k ≡ Ufm
      → (Re (turned c m t).stepped (turned (remasked n c) m t).stepped) × ((turned (remasked n c) m t).bytes ≡ (turned c m t).bytes)
  unfolding turned frame_ended
  met_re c m l k p e t unawaited q = (refl, refl)
  met_re c m l k p e t (ack_address_lem {n}) q = (address_re c m n, refl)
  met_re c m l k p e t (ack_sending_lem {n}) q = (sending_re c m n, refl)
  met_re c m l k p e t receive q = no_fm q
  met_re c m l k p e t nack_address q = no_fm q
  met_re c m l k p e t nack_sending q = no_fm q
  met_re c m l k p e t begin q = (begun_re c, refl)
  met_re c m l k p e t (late h) q = (ap (λ (x : Head). on c (plain x)) (late_re c l), refl)
  met_re c m l k p e t end q = (refl, refl)
  met_re c m l k p e t sda q = no_fm q
  met_re c m l k p e t (scl h) q = no_fm q
  met_re c m l k p e t ill q = (refl, refl)

  -- ---- accesses
  asked_re : (c : Channel) (a : Ask) → Re (asked c a) (asked (remasked n c) a)
  unfolding asked
  asked_re c Nothing = refl
  asked_re c Overrun = refl
  asked_re c Begin = begun_re c
  asked_re c Wait = refl
  asked_re c Sto = refl
  asked_re c Seq = refl
  asked_re c Leave = refl

  controlled_re : (c : Channel) (k : Command) → Re (controlled c k) (controlled (remasked n c) k)
  unfolding controlled
  controlled_re c k = asked_re (with_head c (pointed (moded c.head k) k (data_place c.head c.tranconfig))) _

-- ---- what a step of channel c leaves with INTMSK n, beside what it leaves with its own: the same with n, or, where INTMSK is written or reset, the same
abbrev mask_of : Channel → ℕ
mask_of c = c.head.regs.intmsk

module _ (n own : ℕ) where
  data Left (x y : Channel) : Type 0 where
    other : y ≡ remasked n x → mask_of x ≡ own → Left x y
    new : y ≡ x → Left x y

  -- the same outcome, but for the value where `readback` is true
  record Out (readback : Bool) (x y : Served) : Type 0 where
    left : Left x.stepped.channel y.stepped.channel
    number : y.stepped.answer.number ≡ x.stepped.answer.number
    action : y.stepped.answer.action ≡ x.stepped.answer.action
    value : readback ≡ false → y.stepped.answer.value ≡ x.stepped.answer.value
    bytes : y.bytes ≡ x.bytes

  out_same : (b : Bool) (x : Served) → Out b x x
  out_same b x = record { left = new refl; number = refl; action = refl; value = λ _. refl; bytes = refl }

  -- what does the same whatever INTMSK is leaves it
  out_of : (b : Bool) (x y : Served) → Re n x.stepped y.stepped → Re own x.stepped x.stepped → y.bytes ≡ x.bytes → Out b x y
  out_of b x y e o m = record {
    left = other (ap (λ (r : Stepped). r.channel) e) (ap (λ (r : Stepped). mask_of r.channel) o);
    number = ap (λ (r : Stepped). r.answer.number) e;
    action = ap (λ (r : Stepped). r.answer.action) e;
    value = λ _. ap (λ (r : Stepped). r.answer.value) e;
    bytes = m;
  }

module _ (n : ℕ) (c : Channel) where
  abbrev OutOf : Bool → Served → Served → Type 0
  OutOf = Out n (mask_of c)

  abbrev both : (b : Bool) (x y : Served) → Re n x.stepped y.stepped → Re (mask_of c) x.stepped x.stepped → y.bytes ≡ x.bytes → OutOf b x y
  both = out_of n (mask_of c)

  guarded_out : (b : Bool) (k : ℕ) (m : List ℕ) (d e : Served) → OutOf b d e → OutOf b (guarded k c m d) (guarded k (remasked n c) m e)
  unfolding guarded
  guarded_out b k m d e o = either (OutOf b) (eqb k done) o (both b _ _ refl refl refl)

  read_out : (m : List ℕ) (reg : Register) → OutOf (is_intmsk reg) (leaving m (read_by c m reg)) (leaving m (read_by (remasked n c) m reg))
  unfolding read_by
  read_out m (Status k) = both _ _ _ refl refl refl
  read_out m Control = both _ _ _ refl refl refl
  read_out m Chstatus = both _ _ _ refl refl refl
  read_out m Intmsk = record { left = other refl refl; number = refl; action = refl; value = λ e. absurd (let z = false_not_true (sym e) in omega (arith, z)); bytes = refl }
  read_out m Slatable = both _ _ _ refl refl refl
  read_out m Tranconfig = both _ _ _ refl refl refl
  read_out m Data = both _ _ _ refl refl refl
  read_out m Transel = both _ _ _ refl refl refl
  read_out m Tranofs = both _ _ _ refl refl refl
  read_out m Bytecount = both _ _ _ refl refl refl
  read_out m (Setting k) = both _ _ _ refl refl refl
  read_out m Preset = both _ _ _ refl refl refl

  write_out : (m : List ℕ) (reg : Register) (v : ℕ) → OutOf false (written_by c m reg v) (written_by (remasked n c) m reg v)
  unfolding written_by
  write_out m (Status k) v = both _ _ _ refl refl refl
  write_out m Control v = both _ _ _ (controlled_re n c (command_of v)) (controlled_re (mask_of c) c (command_of v)) refl
  write_out m Chstatus v = both _ _ _ refl refl refl
  write_out m Intmsk v = out_same n (mask_of c) _ _
  write_out m Slatable v = both _ _ _ refl refl refl
  write_out m Tranconfig v = both _ _ _ refl refl refl
  write_out m Data v = both _ _ _ refl refl refl
  write_out m Transel v = both _ _ _ refl refl refl
  write_out m Tranofs v = both _ _ _ refl refl refl
  write_out m Bytecount v = both _ _ _ refl refl refl
  write_out m (Setting k) v = both _ _ _ refl refl refl
  write_out m Preset v = both _ _ _ refl refl refl

-- no write is refused for INTMSK
refusal_re : (n : ℕ) (h : Head) (lens : List ℕ) (reg : Register) (v : ℕ) → refusal_of (mask_to h n) lens reg v ≡ refusal_of h lens reg v
unfolding refusal_of
refusal_re n h lens (Status k) v = refl
refusal_re n h lens Control v = refl
refusal_re n h lens Chstatus v = refl
refusal_re n h lens Intmsk v = refl
refusal_re n h lens Slatable v = refl
refusal_re n h lens Tranconfig v = refl
refusal_re n h lens Data v = refl
refusal_re n h lens Transel v = refl
refusal_re n h lens Tranofs v = refl
refusal_re n h lens Bytecount v = refl
refusal_re n h lens (Setting k) v = refl
refusal_re n h lens Preset v = refl

write_of_lem : (n : ℕ) (c : Channel) (m : List ℕ) (reg : Register) (v : ℕ) → Out n (mask_of c) false (write_of c m reg v) (write_of (remasked n c) m reg v)
unfolding write_of
write_of_lem n c m reg v = rw (refusal_re n c.head c.tranconfig reg v) (guarded_out n c false _ m _ _ (write_out n c m reg v))

put_out : (n : ℕ) (c : Channel) (m : List ℕ) (reg : Register) (v : ℕ) → Out n (mask_of c) false (put_of c m reg v) (put_of (remasked n c) m reg v)
unfolding put_of
put_out n c m reg v =
    either (Out n (mask_of c) false) (resets_of (preset_of reg) v c.head.key) (out_same n (mask_of c) _ _) (write_of_lem n (keyed c reg v) m reg v)

module _ (n : ℕ) (c : Channel) (m : List ℕ) where
  write_at_lem : (p : Option Register) (v : ℕ) → Out n (mask_of c) false (write_at c m p v) (write_at (remasked n c) m p v)
  unfolding write_at
  write_at_lem (Some reg) v = put_out n c m reg v
  write_at_lem None v = out_of n (mask_of c) _ _ _ refl refl refl

  read_at_lem : (p : Option Register) → Out n (mask_of c) (mask_at p) (read_at c m p) (read_at (remasked n c) m p)
  unfolding read_at read_of
  read_at_lem (Some reg) = guarded_out n c _ _ m _ _ (read_out n c m reg)
  read_at_lem None = out_of n (mask_of c) _ _ _ refl refl refl

  module _ (ufm : kind_of c.head ≡ Ufm) (low : bit_of n femsk ≡ femsk_of c.head) where
    turn_out : (e : Event) → Out n (mask_of c) false (turned c m (turn_at c.head e)) (turned (remasked n c) m (turn_at c.head e))
    turn_out e =
        let t = meeting (kind_of c.head) c.head.walk.phase c.head.regs.te (framecnt_of c.head) e in
        let there = met_re n c m low _ _ e _ t ufm in
        let here = met_re (mask_of c) c m refl _ _ e _ t ufm in
        out_of n (mask_of c) false _ _ there.0 here.0 there.1

    event_at_lem : (number : ℕ) (e : Event) → Out n (mask_of c) false (event_at c m number e) (event_at (remasked n c) m number e)
    unfolding event_at
    event_at_lem number e = either (Out n (mask_of c) false) (ltb 2 number) (out_of n (mask_of c) _ _ _ refl refl refl) (turn_out e)

    served_out : (number : ℕ) (op : Op) → Out n (mask_of c) (reads_mask (One op number)) (served_by c m number op) (served_by (remasked n c) m number op)
    unfolding served_by
    served_out number (Write a v) = write_at_lem (place_of number a) v
    served_out number (Read a) = read_at_lem (place_of number a)
    served_out number (Wire e) = event_at_lem number e

    beaten_re : (k : ℕ) → bit_of k femsk ≡ femsk_of c.head → (b : Beat) → Re k (beaten c b) (beaten (remasked k c) b)
    unfolding beaten
    beaten_re k l Quiet = refl
    beaten_re k l BeginBeat = begun_re k c
    beaten_re k l LateBeat = ap (λ (x : Head). on c (plain x)) (late_re k c l)

    edge_out : (edge : Edge) → Out n (mask_of c) false (leaving m (triggered c edge)) (leaving m (triggered (remasked n c) edge))
    unfolding triggered
    edge_out edge = out_of n (mask_of c) false _ _ (beaten_re n low _) (beaten_re (mask_of c) refl _) refl

-- ---- THE SAME OUTCOME of a step, but for the value where `readback` is true
pub record Same (readback : Bool) (x y : Served) : Type 0 where
  pub channels : Alike x.stepped.channel y.stepped.channel
  pub number : y.stepped.answer.number ≡ x.stepped.answer.number
  pub action : y.stepped.answer.action ≡ x.stepped.answer.action
  pub value : readback ≡ false → y.stepped.answer.value ≡ x.stepped.answer.value
  pub bytes : y.bytes ≡ x.bytes

pub alike_same : (c : Channel) → Alike c c
alike_same c = record { mask = mask_of c; is = refl; heeds = refl }

-- an Fm+ channel heeds all bits
fm_alike : (c : Channel) (n : ℕ) → kind_of c.head ≡ Fm → heeded (kind_of c.head) n ≡ heeded (kind_of c.head) (mask_of c) → remasked n c ≡ c
fm_alike c n k h = ap (λ (x : ℕ). remasked x c) (rw k at h)

-- a UFm channel heeds FEMSK, and the bits that are kept 0
module _ (u v : ℕ) (h : heeded Ufm u ≡ heeded Ufm v) where
  low_bits : u % 16 ≡ v % 16
  low_bits = omega (arith, h)

  same_femsk : bit_of u femsk ≡ bit_of v femsk
  same_femsk = ap (λ (x : ℕ). eqb x 1) (lowest u ∙ ap (λ (x : ℕ). x % 2) low_bits ∙ sym (lowest v))
    where
      lowest : (x : ℕ) → x / 1 % 2 ≡ x % 16 % 2
      lowest x = omega arith

  same_kept : u / 2 % 8 ≡ v / 2 % 8
  same_kept = halved u ∙ ap (λ (x : ℕ). x / 2) low_bits ∙ sym (halved v)
    where
      halved : (x : ℕ) → x / 2 % 8 ≡ x % 16 / 2
      halved x = omega arith

module _ (c : Channel) (n : ℕ) (h : heeded (kind_of c.head) n ≡ heeded (kind_of c.head) (mask_of c)) where
  same_of : (b : Bool) (x y : Served) → Out n (mask_of c) b x y → x.stepped.channel.head.straps ≡ c.head.straps → Same b x y
  same_of b x y o s = record { channels = go _ _ o.left s; number = o.number; action = o.action; value = o.value; bytes = o.bytes }
    where
      go : (x y : Channel) → Left n (mask_of c) x y → x.head.straps ≡ c.head.straps → Alike x y
      go x y (other e k) s = record { mask = n; is = e; heeds = rw (ap (λ (t : Straps). t.kind) s, k) h }
      go x y (new e) s = rw e (alike_same x)

  -- by its kind
  by_kind : (b : Bool) (f : Channel → Served) → ((x : Channel) → (f x).stepped.channel.head.straps ≡ x.head.straps)
      → (kind_of c.head ≡ Ufm → bit_of n femsk ≡ femsk_of c.head → Out n (mask_of c) b (f c) (f (remasked n c))) → (k : Kind) → kind_of c.head ≡ k → Same b (f c) (f (remasked n c))
  by_kind b f s o Fm q = rw (fm_alike c n q h) (same_of b _ _ (out_same n (mask_of c) b (f c)) (s c))
  by_kind b f s o Ufm q = same_of b _ _ (o q (same_femsk n (mask_of c) (rw q at h))) (s c)

-- A STEP OF TWO CHANNELS THAT ARE ALIKE
module _ (c d : Channel) (a : Alike c d) where
  pub served_alike : (m : List ℕ) (number : ℕ) (op : Op) → Same (reads_mask (One op number)) (served_by c m number op) (served_by d m number op)
  served_alike m number op =
      rw a.is (by_kind c a.mask a.heeds _ (λ x. served_by x m number op) (λ x. (served_keeps x m number op).straps) (λ q l. served_out a.mask c m q l number op) _ refl)

  pub edge_alike : (edge : Edge) → Same false (leaving [] (triggered c edge)) (leaving [] (triggered d edge))
  edge_alike edge =
      rw a.is (by_kind c a.mask a.heeds _ (λ x. leaving [] (triggered x edge)) (λ x. (triggered_keeps x edge).straps) (λ q l. edge_out a.mask c [] q l edge) _ refl)

  pub range_alike : in_range d ≡ in_range c
  unfolding in_range head_in registers_in
  range_alike = rw a.is (go (kind_of c.head) refl)
    where
      go : (k : Kind) → kind_of c.head ≡ k → in_range (remasked a.mask c) ≡ in_range c
      go Fm q = ap in_range (fm_alike c a.mask q a.heeds)
      go Ufm q = rw (same_kept a.mask (mask_of c) (rw q at a.heeds))
