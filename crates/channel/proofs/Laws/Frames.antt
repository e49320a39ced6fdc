-- No frame, event or trigger edge leads out of range.
use Rattle.std.specs.Prelude.{Bool, true, false, not, List, [], ◌∷◌, ◌≡◌, ℕ, zero, suc, ◌+◌, ◌<◌, ◌≤◌, eqb, ltb, length, get_or, set, if◌then◌else◌}
use Rattle.std.proofs.Math.Path.{refl, sym, subst}
use Rattle.std.proofs.Common.{◌∙◌, arith}
use borrow.Author.Tests.{lt-ltb, eq-eqb, ltb-true, eqb-true, eqb-false}
use Rattle.std.proofs.Math.ListN.{length-set}
use Rattle.std.proofs.lemmas.List.{get_or-replicate}
use Rattle.laws.specs.Cases.{pick_holds, past, both, on, with, false_not_true}
use Rattle.rules.specs.declared.parts.Kind.{Kind}
use Rattle.rules.specs.declared.parts.Kind.TheVariants.{Fm, Ufm}
use Rattle.rules.specs.declared.state.Phase.{Phase}
use Rattle.rules.specs.declared.state.Phase.TheVariants.{Idle, Address, Sending, Receiving, Stopping, Waiting}
use Rattle.rules.specs.declared.state.Walk.{Walk}
use Rattle.rules.specs.Tables.{fitting, reads_of, read_skipped, skipped_of, first_sent}
use Rattle.bounds.specs.Range.{pointers_in, registers_in, counting_of, ended_in, blank_of, recorded_in, walk_in, counted_in, frame_at, frame_in}
use Rattle.rules.proofs.Laws.Tables.{first_from}
use Rattle.bounds.proofs.Laws.Range.{Stands, stands_of, of_stands, frame-counted, first_stands, stands_counted, registers_count}
use Rattle.rules.specs.declared.wires.Action.{Action}
use Rattle.rules.specs.declared.wires.Event.{Event}
use Rattle.rules.specs.declared.wires.Edge.{Edge}
use Rattle.sequence.specs.declared.wires.Fault.{Fault}
use Rattle.sequence.specs.declared.wires.Fault.TheVariants.{Dae, Cle, Sse}
use Rattle.sequence.specs.declared.wires.Beat.{Beat}
use Rattle.sequence.specs.declared.wires.Turn.{Turn}
use Rattle.sequence.specs.declared.wires.Move.{Move}
use Rattle.sequence.specs.declared.wires.Move.TheVariants.{Halt, Send}
use Rattle.sequence.specs.declared.wires.Next.{Next}
use Rattle.sequence.specs.declared.wires.Next.TheVariants.{Cut, More, Over}
use Rattle.sequence.specs.declared.wires.Tail.{Tail}
use Rattle.sequence.specs.declared.wires.Tail.TheVariants.{Plain}
use Rattle.sequence.specs.declared.wires.Beginning.{Beginning}
use Rattle.sequence.specs.declared.wires.Beginning.TheVariants.{Empty, Unfit, Fit}
use Rattle.sequence.specs.declared.wires.Ending.{Ending}
use Rattle.sequence.specs.declared.wires.Ending.TheVariants.{Fe, Error, Sd, Wait}
use Rattle.sequence.specs.Wires.{masked_of, beginning_of, reach_of, move_of, next_of, rest_of, ending_of, beat_of, turn_of, matches_of, edge_beat}
use Rattle.sequence.proofs.Laws.Meeting.{Meeting, meeting}
use Rattle.sequence.proofs.Laws.Meeting.Meeting.{unawaited as unawaited', ack_address_lem as ack_address', ack_sending_lem as ack_sending', receive as receive'}
use Rattle.sequence.proofs.Laws.Meeting.Meeting.{nack_address as nack_address', nack_sending as nack_sending', begin as begin', late as late', end as end', sda as sda', scl as scl', ill as ill'}
use Rattle.sequence.specs.Walk.{idle, waiting, fe_recorded, end_walk, late_flags, late_walk}
use Rattle.head.specs.State.{with_walk, with_state}
use Rattle.head.specs.Range.{head_in}
use Rattle.head.specs.Head.{framecnt_of, kind_of, halt_of, femsk_of, idled, ended_by, frame_ended, stopped, clocked, noted, failed, late_by, faulted}
use Rattle.channel.specs.declared.state.Channel.{Channel}
use Rattle.channel.specs.declared.state.Stepped.{Stepped}
use Rattle.channel.specs.State.{Served, on as beside, count_of, with_head}
use Rattle.channel.specs.Range.{in_range}
use Rattle.channel.specs.Wires.{length_of, bytes_of, resolved, passed, sent_to, moved_to, onward, finished, started_by, started, cleared, began_by, begun}
use Rattle.channel.specs.Wires.{byte_sent, send_on, ack_address, counted_one, ack_sending, receive_on, received, failed_by, nacked, turned, beaten, triggered}
use Rattle.channel.proofs.Laws.Range.{range_pointers, range_registers, range_walk, range_frame}

-- ---- the range as its four facts
abbrev pub In : Channel → Type 0
In c =
    (pointers_in c.head.ptrs ≡ true)
    × (registers_in (count_of c) c.head.regs.transel c.head.regs.intmsk ≡ true)
    × (walk_in c.head.walk c.head.regs.te (framecnt_of c.head) ≡ true)
    × (frame_in (kind_of c.head) c.head.walk.phase c.slatable c.tranconfig c.bytecount ≡ true)

pub in_of : (c : Channel) → in_range c ≡ true → In c
in_of c e = (range_pointers c e, range_registers c e, range_walk c e, range_frame c e)

pub of_in : (c : Channel) → In c → in_range c ≡ true
unfolding in_range head_in
of_in c h = with _ _ (with _ _ h.0 (with _ _ h.1 h.2)) h.3

abbrev pub Good : Stepped → Type 0
Good r = In r.channel

-- and of all that a step leaves: in range, and as many bytes
abbrev pub Fine : List ℕ → Served → Type 0
Fine m d = Good d.stepped × (length d.bytes ≡ length m)

-- ---- what of it no frame changes
abbrev pub Held : Channel → Type 0
Held c = (pointers_in c.head.ptrs ≡ true) × (registers_in (count_of c) c.head.regs.transel c.head.regs.intmsk ≡ true)

-- ---- the number of ended frames

-- it is one that an active channel may have
abbrev pub Ends : Channel → ℕ → Type 0
Ends c n = ended_in Waiting c.head.regs.te (framecnt_of c.head) n ≡ true

either : (b : Bool) → (if b then b else true) ≡ true
either true = refl
either false = refl

pub zero-ends : (te : Bool) (n : ℕ) → ended_in Waiting te n 0 ≡ true
unfolding ended_in counting_of
zero-ends true n = refl
zero-ends false n = either (ltb 0 n)

more-ends : (n k : ℕ) → ltb (k + 1) n ≡ true → ended_in Waiting false n (k + 1) ≡ true
unfolding ended_in counting_of
more-ends n k e =
    let h = ltb-true (k + 1) n e in
    let z : ltb 0 n ≡ true = lt-ltb 0 n (omega arith) in rw (z, e)

-- ---- Idle and Waiting
idle_walk : (te : Bool) (n : ℕ) → walk_in idle te n ≡ true
unfolding walk_in ended_in counting_of recorded_in blank_of
idle_walk te n = refl

idled_in : (c : Channel) → Held c → In (with_head c (idled c.head))
unfolding frame_in
idled_in c h = (h.0, h.1, idle_walk _ _, refl)

pub waited_in : (c : Channel) (n : ℕ) → Held c → Ends c n → In (with_head c (with_walk c.head (waiting n)))
unfolding frame_in walk_in recorded_in blank_of
waited_in c n h e = (h.0, h.1, with _ _ e refl, refl)

-- ---- the frame's end
Waits : Bool → ℕ → Ending → Type 0
Waits te n Fe = Unit {0}
Waits te n Error = Unit {0}
Waits te n Sd = Unit {0}
Waits te n (Wait k) = ended_in Waiting te n k ≡ true

rest_waits : (te : Bool) (n k : ℕ) → Waits te n (rest_of te n k)
unfolding Waits rest_of
rest_waits true n k = zero-ends true n
rest_waits false n k =
    pick_holds (Waits false n) (eqb n 0) (λ _. zero-ends false n)
    (λ _. pick_holds (Waits false n) (ltb (k + 1) n) (λ t. more-ends n k t) (λ _. tt))

ending_waits : (te : Bool) (n : ℕ) (fe error sto seq : Bool) (r : Ending) → Waits te n r → Waits te n (ending_of fe error sto seq r)
unfolding Waits ending_of
ending_waits te n fe error sto seq r h =
    pick_holds (Waits te n) fe (λ _. tt)
    (λ _. pick_holds (Waits te n) error (λ _. tt)
    (λ _. pick_holds (Waits te n) sto (λ _. tt) (λ _. pick_holds (Waits te n) seq (λ _. tt) (λ _. h))))

ended_in_lem : (c : Channel) (e : Ending) → Held c → Waits c.head.regs.te (framecnt_of c.head) e → In (with_head c (ended_by c.head e))
unfolding Waits end_walk
ended_in_lem c Fe h w = idled_in c h
ended_in_lem c Error h w = idled_in c h
ended_in_lem c Sd h w = idled_in c h
ended_in_lem c (Wait n) h w = waited_in c n h w

pub left_in : (c : Channel) → Held c → In (with_head c (ended_by c.head Sd))
unfolding Waits
left_in c h = ended_in_lem c Sd h tt

frame_ended_lem : (c : Channel) → Held c → In (with_head c (frame_ended c.head))
unfolding frame_ended
frame_ended_lem c h = ended_in_lem c _ h (ending_waits _ _ _ _ _ _ _ (rest_waits _ _ _))

-- ---- a frame under way: no error end is noted, and the number of ended frames may be that of an active channel
abbrev pub Runs : Channel → Type 0
Runs c = Held c × (not c.head.walk.error ≡ true) × Ends c c.head.walk.ended

-- and it stands at transaction n
abbrev RunsAt : Channel → ℕ → Type 0
RunsAt c n = Runs c × Stands (kind_of c.head) c.slatable c.tranconfig c.bytecount n

stopped_in : (c : Channel) (a : Action) → Runs c → Good (beside c (stopped c.head a))
unfolding stopped walk_in ended_in counting_of recorded_in frame_in
stopped_in c a r = (r.0.0, r.0.1, with _ _ r.2 refl, refl)

-- a transaction to send stands, and has no byte counted
Sends : Channel → Move → Type 0
Sends c Halt = Unit {0}
Sends c (Send n) = Stands (kind_of c.head) c.slatable c.tranconfig c.bytecount n × (bytes_of c n ≡ 0)

sent_in_lem : (c : Channel) (n : ℕ) (a : Action) → Runs c → Stands (kind_of c.head) c.slatable c.tranconfig c.bytecount n → bytes_of c n ≡ 0 → Good (sent_to c n a)
unfolding sent_to walk_in ended_in counting_of recorded_in frame_in counted_in
sent_in_lem c n a r s z = (r.0.0, r.0.1, with _ _ r.2 r.1, of_stands _ (Address n) _ _ _ n s (eq-eqb _ _ z))

moved_in : (c : Channel) (t : Tail) (m : Move) → Runs c → Sends c m → Good (moved_to c t m)
unfolding moved_to Sends
moved_in c t Halt r s = stopped_in c _ r
moved_in c t (Send n) r s = sent_in_lem c n _ r s.0 s.1

-- the transaction that a walk finds from `from`, where nothing is counted from there on
found : (c : Channel) (from to : ℕ) → count_of c ≤ 64 → fitting c.tranconfig ≡ true
    → ((k : ℕ) → from ≤ k → k < 64 → get_or c.bytecount k 0 ≡ 0)
    → to ≡ first_sent (kind_of c.head) c.slatable c.tranconfig from (count_of c) → from ≤ to → ltb to (count_of c) ≡ true → Sends c (Send to)
unfolding Sends
found c from to few fits clear e f t =
    let h = ltb-true to (count_of c) t in
    (rw e (first_stands (kind_of c.head) c.slatable c.tranconfig c.bytecount from few fits clear (rw e at h)), clear to f (omega arith))

-- the walk's next move, from `from`
walk_sends : (c : Channel) (from : ℕ) → count_of c ≤ 64 → fitting c.tranconfig ≡ true
    → ((k : ℕ) → from ≤ k → k < 64 → get_or c.bytecount k 0 ≡ 0)
    → Sends c (move_of false (first_sent (kind_of c.head) c.slatable c.tranconfig from (count_of c)) (count_of c))
unfolding move_of Sends
walk_sends c from few fits clear =
    let to = first_sent (kind_of c.head) c.slatable c.tranconfig from (count_of c) in
    pick_holds (Sends c) (ltb to (count_of c)) (λ t. found c from to few fits clear refl (first_from _ _ _ _ _) t) (λ _. tt)

next_sends : (c : Channel) (n : ℕ) (halt : Bool) → Stands (kind_of c.head) c.slatable c.tranconfig c.bytecount n
    → Sends c (move_of halt (reach_of (kind_of c.head) halt n c.slatable c.tranconfig) (count_of c))
unfolding move_of reach_of Sends
next_sends c n true s = tt
next_sends c n false s = walk_sends c (n + 1) s.few s.fits (λ k h g. s.clear k (omega arith) g)

-- passing skipped ones changes STATUS alone
sends_passed : (c : Channel) (from to : ℕ) (m : Move) → Sends c m → Sends (passed c from to) m
unfolding passed Sends
sends_passed c from to Halt h = tt
sends_passed c from to (Send k) h = h

-- ---- behind transaction n
onward_in : (c : Channel) (n : ℕ) (t : Tail) → RunsAt c n → Good (onward c n t)
unfolding onward passed
onward_in c n t r = moved_in _ t _ r.0 (sends_passed c _ _ _ (next_sends c n (halt_of c.head) r.1))

finished_in : (c : Channel) (n : ℕ) (t : Tail) → RunsAt c n → Good (finished c n t)
unfolding finished
finished_in c n t r = onward_in _ n t r

-- ---- a frame begins
started_by_in : (c : Channel) (m : Move) → Runs c → Sends c m → Good (started_by c m)
unfolding started_by Sends
started_by_in c Halt r s = frame_ended_lem c r.0
started_by_in c (Send n) r s = sent_in_lem c n _ r s.0 s.1

started_in : (c : Channel) → Runs c → count_of c ≤ 64 → fitting c.tranconfig ≡ true
    → ((k : ℕ) → 0 ≤ k → k < 64 → get_or c.bytecount k 0 ≡ 0) → Good (started c)
unfolding started passed
started_in c r few fits clear = started_by_in _ _ r (sends_passed c 0 _ _ (walk_sends c 0 few fits clear))

Begins : Channel → Beginning → Type 0
Begins c Empty = Unit {0}
Begins c Unfit = Unit {0}
Begins c Fit = fitting c.tranconfig ≡ true

begins : (c : Channel) → Begins c (beginning_of (count_of c) (fitting c.tranconfig))
unfolding Begins beginning_of
begins c =
    pick_holds (Begins c) (eqb (count_of c) 0) (λ _. tt)
    (λ _. pick_holds (Begins c) (fitting c.tranconfig) (λ t. t) (λ _. tt))

began_in : (c : Channel) (b : Beginning) → Runs c → Begins c b → Good (began_by c b)
unfolding Begins began_by cleared
began_in c Empty r f = idled_in c r.0
began_in c Unfit r f = idled_in c r.0
began_in c Fit r f = started_in _ r (registers_count _ _ _ r.0.1) f (λ k a b. get_or-replicate {A = ℕ} 64 k 0 0 b)

pub begun_in : (c : Channel) → Runs c → Good (begun c)
unfolding begun
begun_in c r = began_in c _ r (begins c)

-- ---- ACK and BYTE

-- a byte that is left is below the length
Short : Channel → ℕ → Next → Type 0
Short c n Cut = Unit {0}
Short c n More = bytes_of c n < length_of c n
Short c n Over = Unit {0}

next_short : (c : Channel) (n k : ℕ) (halt : Bool) → bytes_of c n ≤ k → Short c n (next_of halt k (length_of c n))
unfolding next_of Short
next_short c n k halt h =
    pick_holds (Short c n) (ltb k (length_of c n))
    (λ t. let g = ltb-true k (length_of c n) t in pick_holds (Short c n) halt (λ _. tt) (λ _. omega arith))
    (λ _. tt)

send_on_lem : (c : Channel) (m : List ℕ) (n k : ℕ) (x : Next) → RunsAt c n → reads_of (get_or c.slatable n 0) ≡ false → Short c n x → Good (send_on c m n k x)
unfolding send_on byte_sent Short walk_in ended_in counting_of recorded_in frame_in counted_in
send_on_lem c m n k Cut r w s = stopped_in c _ r.0
send_on_lem c m n k More r w s =
    (r.0.0.0, r.0.0.1, with _ _ r.0.2 r.0.1, of_stands _ (Sending n) _ _ _ n r.1 (on _ _ w (lt-ltb _ _ s)))
send_on_lem c m n k Over r w s = finished_in c n _ r

-- a read that is not skipped has a length
read_length : (kind : Kind) (sla len : ℕ) → reads_of sla ≡ true → skipped_of kind sla len ≡ false → 0 < len
unfolding skipped_of read_skipped
read_length Fm sla len r e = let h = eqb-false len 0 (rw r at e) in omega arith
read_length Ufm sla len r e = absurd (let z = false_not_true (sym (rw r at e)) in omega (arith, z))

clocked_in : (c : Channel) (n : ℕ) → RunsAt c n → reads_of (get_or c.slatable n 0) ≡ true → bytes_of c n ≡ 0 → Good (beside c (clocked c.head n))
unfolding clocked walk_in ended_in counting_of recorded_in frame_in counted_in
clocked_in c n r d z =
    let l = read_length _ _ _ d r.1.sent in
    (r.0.0.0, r.0.0.1, with _ _ r.0.2 r.0.1, of_stands _ (Receiving n) _ _ _ n r.1 (with _ _ d (lt-ltb (bytes_of c n) (length_of c n) (omega arith))))

ack_address_lem : (c : Channel) (m : List ℕ) (n : ℕ) → RunsAt c n → bytes_of c n ≡ 0 → Good (ack_address c m n)
unfolding ack_address
ack_address_lem c m n r z =
    pick_holds Good (reads_of (get_or c.slatable n 0)) (λ t. clocked_in c n r t z)
    (λ t. send_on_lem c m n 0 _ r t (next_short c n 0 (halt_of c.head) (omega arith)))

-- one byte more counted
counted_le : (l : List ℕ) (n v : ℕ) → get_or (set l n v) n 0 ≤ v
counted_le [] n v = omega arith
counted_le (x ∷ l) zero v = omega arith
counted_le (x ∷ l) (suc n) v = counted_le l n v

counted_runs : (c : Channel) (n : ℕ) → RunsAt c n → RunsAt (counted_one c n) n
unfolding counted_one
counted_runs c n r = (r.0, stands_counted _ _ _ _ n _ r.1)

ack_sending_lem : (c : Channel) (m : List ℕ) (n : ℕ) → RunsAt c n → reads_of (get_or c.slatable n 0) ≡ false → Good (ack_sending c m n)
unfolding ack_sending counted_one
ack_sending_lem c m n r w = send_on_lem (counted_one c n) m n _ _ (counted_runs c n r) w (next_short (counted_one c n) n _ (halt_of c.head) (counted_le c.bytecount n _))

receive_on_lem : (c : Channel) (n : ℕ) (x : Next) → RunsAt c n → reads_of (get_or c.slatable n 0) ≡ true → c.head.walk.phase ≡ Receiving n → Short c n x → Good (receive_on c n x)
unfolding receive_on Short walk_in ended_in counting_of recorded_in frame_in counted_in
receive_on_lem c n Cut r d q s = stopped_in c _ r.0
receive_on_lem c n More r d q s =
    (r.0.0.0, r.0.0.1, rw q (with _ _ r.0.2 r.0.1), rw q (of_stands _ (Receiving n) _ _ _ n r.1 (with _ _ d (lt-ltb _ _ s))))
receive_on_lem c n Over r d q s = finished_in c n _ r

received_in : (c : Channel) (m : List ℕ) (n b : ℕ) → RunsAt c n → reads_of (get_or c.slatable n 0) ≡ true → c.head.walk.phase ≡ Receiving n → Good (received c m n b).stepped
unfolding received counted_one
received_in c m n b r d q = receive_on_lem (counted_one c n) n _ (counted_runs c n r) d q (next_short (counted_one c n) n _ (halt_of c.head) (counted_le c.bytecount n _))

-- ---- NACK
failed_in : (c : Channel) → Runs c → Good (beside c (failed c.head))
unfolding failed walk_in ended_in counting_of recorded_in frame_in
failed_in c r = (r.0.0, r.0.1, with _ _ r.2 refl, refl)

nacked_in : (c : Channel) (n v : ℕ) → RunsAt c n → Good (nacked c n v)
unfolding nacked failed_by
nacked_in c n v r =
    let d = with_head (resolved c n v) (noted c.head (reads_of (get_or c.slatable n 0))) in
    pick_holds Good (masked_of c.head.regs.intmsk (reads_of (get_or c.slatable n 0))) (λ _. onward_in d n Plain r) (λ _. failed_in d r.0)

-- ---- an event in the phase that it meets
module _ (c : Channel) (m : List ℕ) (h : In c) where
  -- what the range says of phase p
  abbrev pub In-phase : Phase → Type 0
  In-phase p =
      (c.head.walk.phase ≡ p)
      × (ended_in p c.head.regs.te (framecnt_of c.head) c.head.walk.ended ≡ true)
      × (recorded_in p c.head.walk ≡ true)
      × (frame_in (kind_of c.head) p c.slatable c.tranconfig c.bytecount ≡ true)

  pub phase_in : In-phase c.head.walk.phase
  unfolding walk_in
  phase_in = let w = both _ _ h.2 in (refl, w.0, w.1, h.3)

  few : count_of c ≤ 64
  few = registers_count _ _ _ h.1

  runs_at : (p : Phase) (n : ℕ) → Ends c c.head.walk.ended → (not c.head.walk.error ≡ true) → frame_at (kind_of c.head) p n c.slatable c.tranconfig c.bytecount ≡ true → RunsAt c n
  runs_at p n e r f = (((h.0, h.1), r, e), stands_of _ p _ _ _ n few f)

  address_runs : (n : ℕ) → In-phase (Address n) → RunsAt c n
  unfolding ended_in counting_of recorded_in frame_in
  address_runs n i = runs_at (Address n) n i.1 i.2 i.3

  sending_runs : (n : ℕ) → In-phase (Sending n) → RunsAt c n
  unfolding ended_in counting_of recorded_in frame_in
  sending_runs n i = runs_at (Sending n) n i.1 i.2 i.3

  receiving_runs : (n : ℕ) → In-phase (Receiving n) → RunsAt c n
  unfolding ended_in counting_of recorded_in frame_in
  receiving_runs n i = runs_at (Receiving n) n i.1 i.2 i.3

  address_none : (n : ℕ) → In-phase (Address n) → bytes_of c n ≡ 0
  unfolding frame_in counted_in
  address_none n i = eqb-true _ _ (frame-counted _ (Address n) _ _ _ n i.3)

  sending-writes : (n : ℕ) → In-phase (Sending n) → reads_of (get_or c.slatable n 0) ≡ false
  unfolding frame_in counted_in
  sending-writes n i = (past _ _ (frame-counted _ (Sending n) _ _ _ n i.3)).0

  receiving_reads : (n : ℕ) → In-phase (Receiving n) → reads_of (get_or c.slatable n 0) ≡ true
  unfolding frame_in counted_in
  receiving_reads n i = (both _ _ (frame-counted _ (Receiving n) _ _ _ n i.3)).0

  -- another walk in the same phase, with as many frames ended
  pub rewalked : (w : Walk) → w.phase ≡ c.head.walk.phase → w.ended ≡ c.head.walk.ended → (p : Phase) → In-phase p → recorded_in p w ≡ true → In (with_head c (with_walk c.head w))
  unfolding walk_in
  rewalked w q e p i r =
      let s = sym (q ∙ i.0) in (
        h.0,
        h.1,
        with _ _
            (subst (λ (x : Phase). ended_in x c.head.regs.te (framecnt_of c.head) w.ended ≡ true) s (rw e i.1))
            (subst (λ (x : Phase). recorded_in x w ≡ true) s r),
        subst (λ (x : Phase). frame_in (kind_of c.head) x c.slatable c.tranconfig c.bytecount ≡ true) s i.3,
      )

  -- late: FE set is a flag; FE recorded is no error end
  late_in : (p : Phase) → In-phase p → recorded_in p (fe_recorded c.head.walk) ≡ true → In (with_head c (late_by c.head))
  unfolding late_walk
  late_in p i r =
      pick_holds (λ (w : Walk). In (with_head c (with_state c.head (late_flags c.head.flags (femsk_of c.head)) w))) (femsk_of c.head)
      (λ _. h)
      (λ _. rewalked _ refl refl p i r)

  waiting_runs : In-phase Waiting → Runs c
  unfolding recorded_in blank_of
  waiting_runs i =
      let a = (past c.head.walk.sto _ i.2).1 in
      let b = (past c.head.walk.seq _ a).1 in
      let e = (past c.head.walk.error true (past c.head.walk.fe _ b).1).0 in ((h.0, h.1), rw e, i.1)

  GoodBeat : Beat → Type 0
  GoodBeat b = Good (beaten c b)

  -- begins if Waiting, late if a frame runs, nothing if Idle
  beaten_in : (p : Phase) → In-phase p → GoodBeat (beat_of p)
  unfolding GoodBeat beaten recorded_in
  beaten_in Idle i = h
  beaten_in (Address n) i = late_in (Address n) i i.2
  beaten_in (Sending n) i = late_in (Sending n) i i.2
  beaten_in (Receiving n) i = late_in (Receiving n) i i.2
  beaten_in Stopping i = late_in Stopping i refl
  beaten_in Waiting i = begun_in c (waiting_runs i)

  fault_in : (f : Fault) → In (with_head c (faulted c.head f))
  fault_in f = idled_in c (h.0, h.1)

  -- each turn, by what the event meets
  met_in : (k : Kind) (p : Phase) (e : Event) (t : Turn) → Meeting k p e t → In-phase p → Fine m (turned c m t)
  unfolding turned received GoodBeat beaten
  met_in k p e t unawaited' i = (h, refl)
  met_in k p e t (ack_address' {n}) i = (ack_address_lem c m n (address_runs n i) (address_none n i), refl)
  met_in k p e t (ack_sending' {n}) i = (ack_sending_lem c m n (sending_runs n i) (sending-writes n i), refl)
  met_in k p e t (receive' {n} {b}) i = (received_in c m n b (receiving_runs n i) (receiving_reads n i) i.0, length-set m _ b)
  met_in k p e t (nack_address' {n}) i = (nacked_in c n _ (address_runs n i), refl)
  met_in k p e t (nack_sending' {n}) i = (nacked_in c n _ (sending_runs n i), refl)
  met_in k p e t begin' i = (begun_in c (waiting_runs i), refl)
  met_in k p e t (late' q) i = (subst GoodBeat q (beaten_in p i), refl)
  met_in k p e t end' i = (frame_ended_lem c (h.0, h.1), refl)
  met_in k p e t sda' i = (fault_in Dae, refl)
  met_in k p e t (scl' q) i = (fault_in Cle, refl)
  met_in k p e t ill' i = (fault_in Sse, refl)

  -- NO EVENT LEADS OUT OF RANGE
  pub turn_in : (e : Event) → Fine m (turned c m (turn_of (kind_of c.head) c.head.walk.phase c.head.regs.te (framecnt_of c.head) e))
  turn_in e = met_in _ c.head.walk.phase e _ (meeting (kind_of c.head) _ c.head.regs.te (framecnt_of c.head) e) phase_in

  -- NO TRIGGER EDGE LEADS OUT OF RANGE
  edge_in : (edge : Edge) → GoodBeat (edge_beat c.head.walk.phase c.head.regs.te c.head.regs.tp edge)
  unfolding edge_beat GoodBeat beaten
  edge_in edge =
      pick_holds GoodBeat c.head.regs.te
      (λ _. pick_holds GoodBeat (matches_of c.head.regs.tp edge) (λ _. beaten_in c.head.walk.phase phase_in) (λ _. h))
      (λ _. h)

pub trigger_in_range : (c : Channel) (edge : Edge) → in_range c ≡ true → in_range (triggered c edge).channel ≡ true
unfolding triggered GoodBeat
trigger_in_range c edge e = of_in _ (edge_in c [] (in_of c e) edge)
