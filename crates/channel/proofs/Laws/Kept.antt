-- No step leads out of range, and a step keeps the number of bytes.
use Rattle.std.specs.Prelude.{Bool, true, false, Option, Some, None, ◌≡◌, ℕ, zero, suc, ◌+◌, ◌/◌, ◌%◌, ◌≤◌, eqb, ltb, length, get_or, set}
use mathlib.Core.List.{List, [], ◌∷◌}
use Rattle.std.proofs.Math.Path.{refl, sym}
use Rattle.std.proofs.Common.{◌∙◌, arith, eqb-true, eq-eqb, ltb-true, ltb-false, length-set}
use Rattle.std.proofs.lemmas.List.{length-replicate}
use Rattle.laws.specs.Cases.{pick_holds, past, both, with, false_not_true, accepted}
use Rattle.rules.specs.declared.parts.Kind.{Kind}
use Rattle.rules.specs.declared.parts.Straps.{Straps}
use Rattle.rules.specs.declared.state.Phase.{Phase}
use Rattle.rules.specs.declared.state.Phase.TheVariants.{Idle, Address, Sending, Receiving, Stopping, Waiting}
use Rattle.rules.specs.declared.state.Walk.{Walk}
use Rattle.rules.specs.declared.registers.Command.{Command}
use Rattle.rules.specs.declared.registers.Register.{Register}
use Rattle.rules.specs.declared.registers.Register.TheVariants.{Status, Control, Chstatus, Intmsk, Slatable, Tranconfig, Data, Transel, Tranofs, Bytecount, Setting, Preset}
use Rattle.rules.specs.Numbers.{buffer_size, done, out_of_range}
use Rattle.rules.specs.Registers.{active_of, command_of, mask_kept, place_of}
use Rattle.rules.specs.Tables.{start_of}
use Rattle.rules.specs.Access.{locked_of, too_many, kept_if, rewound, at_most, pointed_at, overrun_of, preset_of, resets_of}
use Rattle.bounds.specs.Range.{pointers_in, registers_in, counting_of, ended_in, blank_of, recorded_in, walk_in, frame_in}
use Rattle.rules.proofs.Laws.Access.{not_busy, not_past, placed, spot_open, sla_open, conf_open, data_open, sel_open}
use Rattle.bounds.proofs.Laws.Range.{points_of, of_points, of_registers, registers_count, registers_sel, registers_mask}
use Rattle.rules.specs.declared.wires.Event.{Event}
use Rattle.sequence.specs.declared.wires.Ask.{Ask}
use Rattle.sequence.specs.declared.wires.Ask.TheVariants.{Nothing, Overrun, Begin, Wait, Sto, Seq, Leave}
use Rattle.sequence.specs.Wires.{start_asked, stop_asked, leave_asked, asked_in, ask_of}
use Rattle.sequence.specs.Walk.{sto_recorded, seq_recorded}
use Rattle.steps.specs.declared.map.Op.{Op}
use Rattle.steps.specs.declared.map.Op.TheVariants.{Write, Read, Wire}
use Rattle.head.specs.Head.{framecnt_of, sto_taken, seq_taken}
use Rattle.head.specs.Access.{read_refusal, moded, pointed, data_place, te_after, refusal_of}
use Rattle.channel.specs.declared.state.Channel.{Channel}
use Rattle.channel.specs.State.{Served, fresh, zeros, guarded, with_head}
use Rattle.channel.specs.Range.{in_range}
use Rattle.channel.specs.Access.{read_by, read_of, asked, controlled, written_by, write_of, keyed, put_of}
use Rattle.channel.specs.Step.{write_at, read_at, event_at, served_by, range_number, outcome_of, step_of, bytes_after}
use Rattle.channel.specs.Facts.{Accepted}
use Rattle.channel.proofs.Laws.Frames.{In, in_of, of_in, Good, Fine, Runs, In-phase, phase_in, rewalked, zero-ends, waited_in, left_in, begun_in, turn_in}

-- ---- where no frame is under way, the tables may change
pub idle-frame : (k : Kind) (p : Phase) (s l b : List ℕ) → active_of p ≡ false → frame_in k p s l b ≡ true
unfolding frame_in
idle-frame k Idle s l b e = refl
idle-frame k (Address n) s l b e = absurd (omega (arith, false_not_true (sym e)))
idle-frame k (Sending n) s l b e = absurd (omega (arith, false_not_true (sym e)))
idle-frame k (Receiving n) s l b e = absurd (omega (arith, false_not_true (sym e)))
idle-frame k Stopping s l b e = refl
idle-frame k Waiting s l b e = refl

open_frame : (k : Kind) (p : Phase) (at : ℕ) (s l b : List ℕ) → locked_of p at ≡ false → frame_in k p s l b ≡ true
unfolding frame_in
open_frame k Idle at s l b e = refl
open_frame k (Address n) at s l b e = absurd (omega (arith, false_not_true (sym e)))
open_frame k (Sending n) at s l b e = absurd (omega (arith, false_not_true (sym e)))
open_frame k (Receiving n) at s l b e = absurd (omega (arith, false_not_true (sym e)))
open_frame k Stopping at s l b e = refl
open_frame k Waiting at s l b e = refl

-- in Idle the number of ended frames is 0, whatever TE and FRAMECNT are
idle_ended : (p : Phase) (te te' : Bool) (n n' k : ℕ) → active_of p ≡ false → ended_in p te n k ≡ true → ended_in p te' n' k ≡ true
unfolding ended_in counting_of
idle_ended Idle te te' n n' k a e = e
idle_ended (Address x) te te' n n' k a e = absurd (omega (arith, false_not_true (sym a)))
idle_ended (Sending x) te te' n n' k a e = absurd (omega (arith, false_not_true (sym a)))
idle_ended (Receiving x) te te' n n' k a e = absurd (omega (arith, false_not_true (sym a)))
idle_ended Stopping te te' n n' k a e = absurd (omega (arith, false_not_true (sym a)))
idle_ended Waiting te te' n n' k a e = absurd (omega (arith, false_not_true (sym a)))

idle-walked : (w : Walk) (te te' : Bool) (n n' : ℕ) → active_of w.phase ≡ false → walk_in w te n ≡ true → walk_in w te' n' ≡ true
unfolding walk_in
idle-walked w te te' n n' a e = let b = both _ _ e in with _ _ (idle_ended w.phase te te' n n' w.ended a b.0) b.1

-- TE of a write to CONTROL
te_kept : (w : Walk) (te x : Bool) (n : ℕ) → walk_in w te n ≡ true → walk_in w (kept_if (active_of w.phase) te x) n ≡ true
unfolding kept_if
te_kept w te x n e = pick_holds (λ (b : Bool). walk_in w b n ≡ true) (active_of w.phase) (λ _. e) (λ a. idle-walked w te x n n a e)

-- ---- the count after a write to TRANCONFIG
entry_0 : (l : List ℕ) (i v : ℕ) → get_or l 0 0 ≤ 64 → (i ≡ 0 → v ≤ 64) → get_or (set l i v) 0 0 ≤ 64
entry_0 [] i v h k = h
entry_0 (x ∷ l) zero v h k = k refl
entry_0 (x ∷ l) (suc i) v h k = h

not_many : (at v : ℕ) → too_many at v ≡ false → at ≡ 0 → v ≤ 64
unfolding too_many
not_many at v e q = ltb-false 64 v (rw (eq-eqb at 0 q) at e)

-- ---- the pointers after a write to CONTROL
rewound_le : (b : Bool) (n k : ℕ) → n ≤ k → rewound b n ≤ k
unfolding rewound
rewound_le b n k h = pick_holds (λ (x : ℕ). x ≤ k) b (λ _. omega arith) (λ _. h)

pointed_le : (b : Bool) (place at : ℕ) → at ≤ buffer_size → pointed_at b place at ≤ buffer_size
unfolding pointed_at at_most
pointed_le b place at h =
    pick_holds (λ (x : ℕ). x ≤ buffer_size) b
    (λ _. pick_holds (λ (x : ℕ). x ≤ buffer_size) (ltb place buffer_size) (λ t. let g = ltb-true place buffer_size t in omega arith) (λ _. omega arith))
    (λ _. h)

-- ---- CONTROL

-- TP, TE and the pointers are written
abbrev ready : Channel → Command → Channel
ready c k = with_head c (pointed (moded c.head k) k (data_place c.head c.tranconfig))

control_in : (c : Channel) (k : Command) → In c → In (ready c k)
control_in c k h =
    let p = points_of _ h.0 in (
      of_points _ (record {
        sla = rewound_le _ _ _ p.sla;
        count = rewound_le _ _ _ p.count;
        conf = rewound_le _ _ _ p.conf;
        buf = pointed_le _ _ _ p.buf;
      }),
      h.1,
      te_kept c.head.walk c.head.regs.te k.te (framecnt_of c.head) h.2,
      h.3,
    )

-- what a write to CONTROL asks for may rely on
Asks : Channel → Ask → Type 0
Asks c Nothing = Unit {0}
Asks c Overrun = Unit {0}
Asks c Begin = Runs c
Asks c Wait = Unit {0}
Asks c Sto = In (with_head c (sto_taken c.head))
Asks c Seq = In (with_head c (seq_taken c.head))
Asks c Leave = Unit {0}

asked_in_lem : (c : Channel) (a : Ask) → In c → Asks c a → Good (asked c a)
unfolding Asks asked
asked_in_lem c Nothing h r = h
asked_in_lem c Overrun h r = h
asked_in_lem c Begin h r = begun_in c r
asked_in_lem c Wait h r = waited_in c 0 (h.0, h.1) (zero-ends _ _)
asked_in_lem c Sto h r = r
asked_in_lem c Seq h r = r
asked_in_lem c Leave h r = left_in c (h.0, h.1)

idle_none : (te : Bool) (n k : ℕ) → ended_in Idle te n k ≡ true → k ≡ 0
unfolding ended_in counting_of
idle_none te n k e = eqb-true k 0 e

module _ (c : Channel) (h : In c) where
  idle_runs : In-phase c [] h Idle → Runs c
  unfolding recorded_in blank_of
  idle_runs i =
      let a = (past c.head.walk.sto _ i.2).1 in
      let b = (past c.head.walk.seq _ a).1 in
      let e = (past c.head.walk.error true (past c.head.walk.fe _ b).1).0 in
      let z : c.head.walk.ended ≡ 0 = idle_none _ _ _ i.1 in ((h.0, h.1), rw e, rw z (zero-ends _ _))

  start_asks : (sta te : Bool) → Runs c → Asks c (start_asked sta te)
  unfolding start_asked Asks
  start_asks sta te r = pick_holds (Asks c) sta (λ _. pick_holds (Asks c) te (λ _. tt) (λ _. r)) (λ _. tt)

  stop_asks : (sto seq : Bool) (p : Phase) → In-phase c [] h p → recorded_in p (sto_recorded c.head.walk) ≡ true → recorded_in p (seq_recorded c.head.walk) ≡ true → Asks c (stop_asked sto seq)
  unfolding stop_asked Asks
  stop_asks sto seq p i r s =
      pick_holds (Asks c) sto (λ _. rewalked c [] h _ refl refl p i r)
      (λ _. pick_holds (Asks c) seq (λ _. rewalked c [] h _ refl refl p i s) (λ _. tt))

  leave_asks : (sto seq : Bool) → Asks c (leave_asked sto seq)
  unfolding leave_asked Asks
  leave_asks sto seq = pick_holds (Asks c) sto (λ _. tt) (λ _. pick_holds (Asks c) seq (λ _. tt) (λ _. tt))

  asks : (p : Phase) (k : Command) (te : Bool) → In-phase c [] h p → Asks c (asked_in p k te)
  unfolding asked_in recorded_in
  asks Idle k te i = start_asks k.sta te (idle_runs i)
  asks (Address n) k te i = stop_asks k.sto k.stoseq (Address n) i i.2 i.2
  asks (Sending n) k te i = stop_asks k.sto k.stoseq (Sending n) i i.2 i.2
  asks (Receiving n) k te i = stop_asks k.sto k.stoseq (Receiving n) i i.2 i.2
  asks Stopping k te i = stop_asks k.sto k.stoseq Stopping i refl refl
  asks Waiting k te i = leave_asks k.sto k.stoseq

controlled_in : (c : Channel) (k : Command) → In c → Good (controlled c k)
unfolding controlled ask_of Asks
controlled_in c k h =
    let g = control_in c k h in
    asked_in_lem (ready c k) _ g
    (pick_holds (Asks (ready c k)) (overrun_of k.aiptrrst (data_place c.head c.tranconfig))
    (λ _. tt)
    (λ _. asks (ready c k) g c.head.walk.phase k (te_after c.head k) (phase_in (ready c k) [] g)))

-- ---- reads
read_in : (c : Channel) (m : List ℕ) (reg : Register) → read_refusal c.head.ptrs c.tranconfig reg ≡ 0 → In c → Good (read_by c m reg)
unfolding read_refusal read_by
read_in c m (Status n) e h = h
read_in c m Control e h = h
read_in c m Chstatus e h = h
read_in c m Intmsk e h = h
read_in c m Slatable e h =
    let p = points_of _ h.0 in
    let g = not_past 63 c.head.ptrs.sla e in
    (of_points _ (record { sla = omega arith; count = p.count; conf = p.conf; buf = p.buf }), h.1, h.2, h.3)
read_in c m Tranconfig e h =
    let p = points_of _ h.0 in
    let g = not_past 64 c.head.ptrs.conf e in
    (of_points _ (record { sla = p.sla; count = p.count; conf = omega arith; buf = p.buf }), h.1, h.2, h.3)
read_in c m Data e h =
    let p = points_of _ h.0 in
    let g = spot_open c.tranconfig c.head.ptrs.buf e in
    (of_points _ (record { sla = p.sla; count = p.count; conf = p.conf; buf = omega arith }), h.1, h.2, h.3)
read_in c m Transel e h = h
read_in c m Tranofs e h = h
read_in c m Bytecount e h =
    let p = points_of _ h.0 in
    let g = not_past 63 c.head.ptrs.count e in
    (of_points _ (record { sla = p.sla; count = omega arith; conf = p.conf; buf = p.buf }), h.1, h.2, h.3)
read_in c m (Setting n) e h = h
read_in c m Preset e h = h

-- ---- writes
mask_clear : (v : ℕ) → mask_kept v / 2 % 8 ≡ 0
mask_clear v = omega arith

write_in : (c : Channel) (m : List ℕ) (reg : Register) (v : ℕ) → refusal_of c.head c.tranconfig reg v ≡ 0 → In c → Fine m (written_by c m reg v)
unfolding refusal_of written_by
write_in c m (Status n) v e h = (h, refl)
write_in c m Control v e h = (controlled_in c (command_of v) h, refl)
write_in c m Chstatus v e h = (h, refl)
write_in c m Intmsk v e h = ((h.0, of_registers _ _ _ (registers_count _ _ _ h.1) (registers_sel _ _ _ h.1) (mask_clear v), h.2, h.3), refl)
write_in c m Slatable v e h =
    let p = points_of _ h.0 in
    let g = sla_open c.head.walk.phase c.head.ptrs.sla e in
    ((of_points _ (record { sla = omega arith; count = p.count; conf = p.conf; buf = p.buf }), h.1, h.2, idle-frame _ c.head.walk.phase _ _ _ g.0), refl)
write_in c m Tranconfig v e h =
    let p = points_of _ h.0 in
    let g = conf_open c.head.walk.phase c.head.ptrs.conf v e in (
      (
        of_points _ (record { sla = p.sla; count = p.count; conf = omega arith; buf = p.buf }),
        of_registers _ _ _ (entry_0 c.tranconfig c.head.ptrs.conf v (registers_count _ _ _ h.1) (not_many _ v g.2)) (registers_sel _ _ _ h.1) (registers_mask _ _ _ h.1),
        h.2,
        open_frame _ c.head.walk.phase c.head.ptrs.conf _ _ _ g.0,
      ),
      refl,
    )
write_in c m Data v e h =
    let p = points_of _ h.0 in
    let g = data_open c.head.walk.phase c.tranconfig c.head.ptrs.buf e in
    ((of_points _ (record { sla = p.sla; count = p.count; conf = p.conf; buf = omega arith }), h.1, h.2, h.3), length-set m _ v)
write_in c m Transel v e h =
    let p = points_of _ h.0 in
    let g = sel_open c.tranconfig v e in (
      (
        of_points _ (record { sla = p.sla; count = p.count; conf = p.conf; buf = omega arith }),
        of_registers _ _ _ (registers_count _ _ _ h.1) g.0 (registers_mask _ _ _ h.1),
        h.2,
        h.3,
      ),
      refl,
    )
write_in c m Tranofs v e h =
    let p = points_of _ h.0 in
    let g = placed (start_of c.tranconfig c.head.regs.transel + v) e in
    ((of_points _ (record { sla = p.sla; count = p.count; conf = p.conf; buf = omega arith }), h.1, h.2, h.3), refl)
write_in c m Bytecount v e h = (h, refl)
write_in c m (Setting n) v e h =
    let a = not_busy c.head.walk.phase e in
    ((h.0, h.1, idle-walked c.head.walk _ _ _ _ a h.2, h.3), refl)
write_in c m Preset v e h = (h, refl)

-- ---- a step from its number: what holds of the channel, and of what follows where the number is 0
guarded_in : (n : ℕ) (c : Channel) (m : List ℕ) (d : Served) → In c → (n ≡ done → Fine m d) → Fine m (guarded n c m d)
unfolding guarded
guarded_in n c m d h f = pick_holds (Fine m) (eqb n done) (λ t. f (eqb-true n done t)) (λ _. (h, refl))

fresh_in : (x : Straps) → In (fresh x)
unfolding pointers_in registers_in walk_in ended_in counting_of recorded_in blank_of frame_in
fresh_in x = (refl, refl, refl, refl)

pub zeros-length : length zeros ≡ buffer_size
unfolding zeros
zeros-length = length-replicate {A = ℕ} buffer_size 0

-- ---- the step
module _ (c : Channel) (m : List ℕ) (number : ℕ) (h : In c) (whole : length m ≡ buffer_size) where
  put_in : (reg : Register) (v : ℕ) → Fine m (put_of c m reg v)
  unfolding put_of write_of
  put_in reg v =
      pick_holds (Fine m) (resets_of (preset_of reg) v c.head.key) (λ _. (fresh_in c.head.straps, zeros-length ∙ sym whole))
      (λ _. guarded_in _ (keyed c reg v) m _ h (λ e. write_in (keyed c reg v) m reg v e h))

  write_at_lem : (p : Option Register) (v : ℕ) → Fine m (write_at c m p v)
  unfolding write_at
  write_at_lem (Some reg) v = put_in reg v
  write_at_lem None v = (h, refl)

  read_at_lem : (p : Option Register) → Fine m (read_at c m p)
  unfolding read_at read_of
  read_at_lem (Some reg) = guarded_in _ c m _ h (λ e. (read_in c m reg e h, refl))
  read_at_lem None = (h, refl)

  event_at_lem : (e : Event) → Fine m (event_at c m number e)
  unfolding event_at
  event_at_lem e = pick_holds (Fine m) (ltb 2 number) (λ _. (h, refl)) (λ _. turn_in c m h e)

  served_in_lem : (op : Op) → Fine m (served_by c m number op)
  unfolding served_by
  served_in_lem (Write a v) = write_at_lem (place_of number a) v
  served_in_lem (Read a) = read_at_lem (place_of number a)
  served_in_lem (Wire e) = event_at_lem e

whole_of : (len : ℕ) (ok : Bool) → range_number len ok ≡ done → len ≡ buffer_size
unfolding range_number
whole_of len ok e = eqb-true len buffer_size (accepted (eqb len buffer_size) _ out_of_range (omega arith) e).0

ranged_of : (len : ℕ) (ok : Bool) → range_number len ok ≡ done → ok ≡ true
unfolding range_number
ranged_of len ok e = (accepted ok done out_of_range (omega arith) (accepted (eqb len buffer_size) _ out_of_range (omega arith) e).1).0

outcome_in : (c : Channel) (m : List ℕ) (number : ℕ) (op : Op) → In c → Fine m (outcome_of c m number op)
unfolding outcome_of
outcome_in c m number op h = guarded_in _ c m _ h (λ z. served_in_lem c m number h (whole_of (length m) (in_range c) z) op)

-- NO STEP LEADS OUT OF RANGE
pub stays_in_range : (c : Channel) (m : List ℕ) (number : ℕ) (op : Op) → in_range c ≡ true → in_range (step_of c m number op).channel ≡ true
stays_in_range c m number op e = of_in _ (outcome_in c m number op (in_of c e)).0

-- the same of a step that the whole part makes of a channel in range; and it keeps the number of bytes
module _ (c : Channel) (m : List ℕ) (number : ℕ) (op : Op) (a : Accepted c m) where
  pub serves_in_range : in_range (served_by c m number op).stepped.channel ≡ true
  serves_in_range = of_in _ (served_in_lem c m number (in_of c a.ranged) a.whole op).0

  pub served_length : length (served_by c m number op).bytes ≡ length m
  served_length = (served_in_lem c m number (in_of c a.ranged) a.whole op).1

-- the reset state is in range, of either kind
pub fresh-in_range : (x : Straps) → in_range (fresh x) ≡ true
fresh-in_range x = of_in (fresh x) (fresh_in x)

-- A STEP KEEPS THE NUMBER OF BYTES
pub length_bytes : (c : Channel) (m : List ℕ) (number : ℕ) (op : Op) → length (bytes_after c m number op) ≡ length m
unfolding outcome_of guarded
length_bytes c m number op =
    pick_holds (λ (d : Served). length d.bytes ≡ length m) (eqb (range_number (length m) (in_range c)) done)
    (λ t. (served_in_lem c m number (in_of c (ranged_of _ _ (eqb-true _ done t))) (whole_of (length m) (in_range c) (eqb-true _ done t)) op).1)
    (λ _. refl)
