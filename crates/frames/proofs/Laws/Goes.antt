-- What a step does to a frame under way.
use Rattle.std.specs.Prelude.{ℕ, ◌+◌, ◌<◌, ◌≤◌, Bool, true, false, not, List, ◌≡◌, eqb, ltb, get_or, set, if◌then◌else◌}
use Rattle.std.proofs.Math.Path.{refl, ap}
use Rattle.std.proofs.Common.{sym, ◌∙◌, ltb-true, ltb-false, eqb-true, get_or-set_same, get_or-set_other}
use native.Mathlib.Omega.{arith}
use Rattle.std.proofs.lemmas.Bool.{eqb-false}
use Rattle.std.proofs.Math.ListN.{length, length-set}
use Rattle.laws.specs.Cases.{pick_holds, false_not_true}
use Rattle.rules.specs.declared.parts.Kind.{Kind}
use Rattle.rules.specs.declared.parts.Kind.TheVariants.{Fm, Ufm}
use Rattle.rules.specs.declared.state.Phase.{Phase}
use Rattle.rules.specs.declared.state.Phase.TheVariants.{Address, Sending, Receiving}
use Rattle.rules.specs.Tables.{start_of, sum_of, reads_of}
use Rattle.bounds.specs.Range.{frame_at}
use Rattle.rules.proofs.Laws.Tables.{start_next, start-more}
use Rattle.bounds.proofs.Laws.Range.{stands_of}
use Rattle.rules.specs.declared.wires.Action.TheVariants.{D, A}
use Rattle.rules.specs.declared.wires.Event.{Event}
use Rattle.rules.specs.declared.wires.Event.TheVariants.{Ninth, Byte}
use Rattle.rules.specs.declared.wires.Level.TheVariants.{High}
use Rattle.sequence.specs.declared.wires.Next.{Next}
use Rattle.sequence.specs.declared.wires.Next.TheVariants.{Cut, More, Over}
use Rattle.sequence.specs.declared.wires.Tail.{Tail}
use Rattle.sequence.specs.declared.wires.Tail.TheVariants.{Plain, Nacked}
use Rattle.sequence.specs.Wires.{next_of, stop_by}
use Rattle.sequence.proofs.Laws.Meeting.{ack_of}
use Rattle.head.specs.State.{acted}
use Rattle.head.specs.Head.{kind_of, halt_of, noted, stopped, clocked, failed}
use Rattle.channel.specs.declared.state.Channel.{Channel}
use Rattle.channel.specs.declared.state.Stepped.{Stepped}
use Rattle.channel.specs.State.{Served, leaving, on, count_of, with_head}
use Rattle.channel.specs.Wires.{slave_of, length_of, bytes_of, byte_at, resolved, byte_sent, send_on, ack_address, counted_one, ack_sending, receive_on, received, failed_by, nacked, finished}
use Rattle.frames.specs.Wire.{Heard, Watch, watch_after, cost_of, fault_of, ends_of, data_heard, one_of, Carries}
use Rattle.frames.specs.Wire.Heard.{none, event}
use Rattle.frames.specs.Deeds.{runs_of}
use Rattle.frames.specs.Statement.{slaves_of}
use Rattle.frames.proofs.Laws.Behind.{left_of, left_behind, Watching, gain, Paced, Behind, onward_behind, finished_behind, stop_behind}

-- the bytes of the writes are as they were
abbrev pub WritesKept : Channel → List ℕ → List ℕ → Type 0
WritesKept c m n = (k j : ℕ) → k < count_of c → reads_of (slave_of c k) ≡ false → j < length_of c k
    → get_or n (start_of c.tranconfig k + j) 0 ≡ get_or m (start_of c.tranconfig k + j) 0

-- what is heard was answered 0
abbrev pub Answered : Heard → Stepped → Type 0
Answered none r = Unit {0}
Answered (event e) r = r.answer.number ≡ 0

-- one step of a frame in phase p: c and m before it, h heard, d after it
pub record Goes (p : Phase) (c : Channel) (m : List ℕ) (w : Watch) (h : Heard) (d : Served) : Type 0 where
  pub slas : slaves_of d.stepped.channel ≡ slaves_of c
  pub lengths : d.stepped.channel.tranconfig ≡ c.tranconfig
  pub width : length d.stepped.channel.bytecount ≡ length c.bytecount
  pub left : left_of d.stepped.channel.head.walk.phase c.tranconfig d.stepped.channel.bytecount + (cost_of h + fault_of h) ≤ left_of p c.tranconfig c.bytecount
  pub watch : Watching d.stepped.channel.head.walk.phase d.stepped.channel.bytecount (watch_after (slaves_of c) c.tranconfig w d.stepped.answer.action)
  pub counts : (k : ℕ) → get_or d.stepped.channel.bytecount k 0 ≡ get_or c.bytecount k 0 + one_of (data_heard w h) w.at k
  pub paced : Paced (slaves_of c) c.bytecount w.at w.given → Paced (slaves_of c) d.stepped.channel.bytecount w.at (w.given + gain true d.stepped.answer.action)
  pub moment : Carries (slaves_of c) c.tranconfig m w d.stepped.answer.action
  pub kept : WritesKept c m d.bytes
  pub runs : runs_of d.stepped.channel.head.walk.phase ≡ not (ends_of h)
  pub done : Answered h d.stepped

-- ---- what the logger has of a byte that went out: ACK, or of a UFm channel SENT
pub record Acks (e : Event) : Type 0 where
  pub cost : cost_of (event e) ≡ 1
  pub fault : fault_of (event e) ≡ 0
  pub ends : ends_of (event e) ≡ false
  pub counts : (w : Watch) → data_heard w (event e) ≡ w.out

pub acks : (k : Kind) → Acks (ack_of k)
acks Fm = record { cost = refl; fault = refl; ends = refl; counts = λ w. refl }
acks Ufm = record { cost = refl; fault = refl; ends = refl; counts = λ w. refl }

-- ---- the counts: none is heard, or one
pub one_none : (at k : ℕ) → one_of false at k ≡ 0
unfolding one_of
one_none at k = refl

pub none_counted : (w : Watch) (h : Heard) (l : List ℕ) → data_heard w h ≡ false → (k : ℕ) → get_or l k 0 ≡ get_or l k 0 + one_of (data_heard w h) w.at k
none_counted w h l e k = let z : one_of (data_heard w h) w.at k ≡ 0 = rw e (one_none w.at k) in omega (arith, z)

one-counted : (l : List ℕ) (n k : ℕ) → n < length l → get_or (set l n (get_or l n 0 + 1)) k 0 ≡ get_or l k 0 + one_of true n k
unfolding one_of
one-counted l n k h = go (eqb n k) refl
  where
    go : (b : Bool) → eqb n k ≡ b → get_or (set l n (get_or l n 0 + 1)) k 0 ≡ get_or l k 0 + (if eqb n k then 1 else 0)
    go true e = let q : n ≡ k = eqb-true n k e in rw (e, ← q) (get_or-set_same l n _ 0 h)
    go false e =
        let q = get_or-set_other l n k (get_or l n 0 + 1) 0 (λ x. eqb-false n k e (sym x)) in
        let z : get_or l k 0 + 0 ≡ get_or l k 0 = omega arith in rw (e, z) q

-- ---- what the range says of a frame that stands at transaction n
pub record At (c : Channel) (n : ℕ) : Type 0 where
  pub below : n < count_of c
  pub few : count_of c ≤ 64
  pub room : start_of c.tranconfig n + length_of c n ≤ sum_of c.tranconfig
  pub next : start_of c.tranconfig (n + 1) ≡ start_of c.tranconfig n + length_of c n

pub at_of : (p : Phase) (c : Channel) (n : ℕ) → count_of c ≤ 64 → frame_at (kind_of c.head) p n c.slatable c.tranconfig c.bytecount ≡ true → At c n
at_of p c n few e =
    let s = stands_of _ p _ _ _ n few e in
    record { below = s.below; few = few; room = start_next c.tranconfig n _ s.below; next = sym (start-more c.tranconfig n _ _ refl refl) }

data_gain : (b : ℕ) → gain true (D b) ≡ 1
data_gain b = refl

-- a byte is left
abbrev Left : Next → ℕ → ℕ → Type 0
Left Cut k len = Unit {0}
Left More k len = k < len
Left Over k len = Unit {0}

next_left : (halt : Bool) (k len : ℕ) → Left (next_of halt k len) k len
unfolding next_of
next_left halt k len = pick_holds (λ x. Left x k len) (ltb k len) (λ t. pick_holds (λ x. Left x k len) halt (λ _. tt) (λ _. ltb-true _ _ t)) (λ _. tt)

module _ (c : Channel) (m : List ℕ) (n : ℕ) (a : At c n) (w : Watch) where
  -- behind transaction n, nothing counted
  behind_goes : (p : Phase) (h : Event) (r : Stepped) → Behind (slaves_of c) c.tranconfig c.bytecount n r → w.at ≡ n
      → data_heard w (event h) ≡ false → ends_of (event h) ≡ false
      → left_behind c.tranconfig n + (cost_of (event h) + fault_of (event h)) ≤ left_of p c.tranconfig c.bytecount → Goes p c m w (event h) (leaving m r)
  behind_goes p h r b q d e l = record {
    slas = b.slas;
    lengths = b.lengths;
    width = ap length b.counted;
    left = let x = b.left in rw b.counted (omega (arith, x, l));
    watch = rw b.counted (b.watch w q);
    counts = λ k. rw b.counted (none_counted w (event h) c.bytecount d k);
    paced = λ x e. let y = x e in rw (b.counted, b.dull) (omega (arith, y.0), omega (arith, y.1));
    moment = b.carries m w q;
    kept = λ k j _ _ _. refl;
    runs = rw e b.runs;
    done = b.done;
  }

  -- ---- ACK or SENT in Address
  module _ (ack : Event) (k : Acks ack) where
    clocked_goes : bytes_of c n ≡ 0 → Watching (Address n) c.bytecount w → Goes (Address n) c m w (event ack) (leaving m (on c (clocked c.head n)))
    unfolding clocked
    clocked_goes z v = record {
      slas = refl;
      lengths = refl;
      width = refl;
      left = let x = a.below in let y = a.room in let g = k.cost in let f = k.fault in omega (arith, x, y, z, g, f);
      watch = (v.0, v.1, refl);
      counts = none_counted w (event ack) c.bytecount (k.counts w ∙ v.2);
      paced = λ h e. let y = h e in (omega (arith, y.0), omega (arith, y.1));
      moment = tt;
      kept = λ i j _ _ _. refl;
      runs = rw k.ends;
      done = refl;
    }

    -- the first byte of a write
    first_goes : reads_of (slave_of c n) ≡ false → bytes_of c n ≡ 0 → 0 < length_of c n → Watching (Address n) c.bytecount w → Goes (Address n) c m w (event ack) (leaving m (byte_sent c m n 0))
    unfolding byte_sent
    first_goes d z p v = record {
      slas = refl;
      lengths = refl;
      width = refl;
      left = let x = a.below in let y = a.room in let g = k.cost in let f = k.fault in omega (arith, x, y, z, g, f);
      watch = (v.0, rw (v.1, z) refl, refl);
      counts = none_counted w (event ack) c.bytecount (k.counts w ∙ v.2);
      paced = λ h e. let g = data_gain (get_or m (start_of c.tranconfig n + 0) 0) in rw (v.0, v.1, z) (omega arith, omega (arith, g));
      moment = rw (v.0, v.1) (d, p, refl);
      kept = λ i j _ _ _. refl;
      runs = rw k.ends;
      done = refl;
    }

    first_less : left_behind c.tranconfig n + (cost_of (event ack) + fault_of (event ack)) ≤ left_of (Address n) c.tranconfig c.bytecount
    first_less = let x = a.below in let y = a.room in let e = a.next in let g = k.cost in let f = k.fault in omega (arith, x, y, e, g, f)

    send_first : (x : Next) → reads_of (slave_of c n) ≡ false → Left x 0 (length_of c n) → bytes_of c n ≡ 0 → Watching (Address n) c.bytecount w
        → Goes (Address n) c m w (event ack) (leaving m (send_on c m n 0 x))
    unfolding send_on
    send_first Cut d l z v = behind_goes (Address n) ack _ (stop_behind c n Plain) v.0 (k.counts w ∙ v.2) k.ends first_less
    send_first More d l z v = first_goes d z l v
    send_first Over d l z v = behind_goes (Address n) ack _ (finished_behind c n Plain) v.0 (k.counts w ∙ v.2) k.ends first_less

    pub ack_address_goes : bytes_of c n ≡ 0 → Watching (Address n) c.bytecount w → Goes (Address n) c m w (event ack) (leaving m (ack_address c m n))
    unfolding ack_address
    ack_address_goes z v =
        pick_holds (λ r. Goes (Address n) c m w (event ack) (leaving m r)) (reads_of (slave_of c n))
        (λ _. clocked_goes z v)
        (λ d. send_first _ d (next_left (halt_of c.head) 0 (length_of c n)) z v)

  -- ---- NACK
  failed_goes : (p : Phase) (d : Channel) → slaves_of d ≡ slaves_of c → d.tranconfig ≡ c.tranconfig → d.bytecount ≡ c.bytecount
      → 2 ≤ left_of p c.tranconfig c.bytecount → Goes p c m w (event (Ninth High)) (leaving m (on d (failed d.head)))
  unfolding failed
  failed_goes p d s l k g = record {
    slas = s;
    lengths = l;
    width = ap length k;
    left = omega (arith, g);
    watch = tt;
    counts = λ i. rw k (none_counted w (event (Ninth High)) c.bytecount refl i);
    paced = λ h e. let y = h e in rw k (omega (arith, y.0), omega (arith, y.1));
    moment = tt;
    kept = λ i j _ _ _. refl;
    runs = refl;
    done = refl;
  }

  pub nacked_goes : (p : Phase) (v : ℕ) → w.at ≡ n → left_behind c.tranconfig n + 1 ≤ left_of p c.tranconfig c.bytecount → Goes p c m w (event (Ninth High)) (leaving m (nacked c n v))
  unfolding nacked failed_by
  nacked_goes p v q l =
      let d = with_head (resolved c n v) (noted c.head (reads_of (slave_of c n))) in
      pick_holds (λ r. Goes p c m w (event (Ninth High)) (leaving m r)) _
      (λ _. behind_goes p (Ninth High) _ (onward_behind d n Plain) q refl refl (omega (arith, l)))
      (λ _. failed_goes p d refl refl refl (omega (arith, l)))

-- ---- ACK or SENT in Sending and BYTE in Receiving: one byte more is counted
module _ (c : Channel) (m : List ℕ) (n : ℕ) (a : At c n) (w : Watch) (wide : n < length c.bytecount) (short : bytes_of c n < length_of c n) where
  -- the counts after it
  abbrev more : List ℕ
  more = set c.bytecount n (bytes_of c n + 1)

  same : get_or more n 0 ≡ bytes_of c n + 1
  same = get_or-set_same c.bytecount n _ 0 wide

  counted : (h : Heard) → data_heard w h ≡ true → w.at ≡ n → (k : ℕ) → get_or more k 0 ≡ get_or c.bytecount k 0 + one_of (data_heard w h) w.at k
  counted h d q k = rw (d, q) (one-counted c.bytecount n k wide)

  behind_counted : (p : Phase) (h : Event) (r : Stepped) (m' : List ℕ) → Behind (slaves_of c) c.tranconfig more n r → w.at ≡ n
      → data_heard w (event h) ≡ true → ends_of (event h) ≡ false → Paced (slaves_of c) more w.at w.given
      → left_behind c.tranconfig n + (cost_of (event h) + fault_of (event h)) ≤ left_of p c.tranconfig c.bytecount → WritesKept c m m' → Goes p c m w (event h) (leaving m' r)
  behind_counted p h r m' b q d e f l k = record {
    slas = b.slas;
    lengths = b.lengths;
    width = ap length b.counted ∙ length-set c.bytecount n _;
    left = let x = b.left in rw b.counted (omega (arith, x, l));
    watch = rw b.counted (b.watch w q);
    counts = λ i. rw b.counted (counted (event h) d q i);
    paced = λ _ e. let y = f e in rw (b.counted, b.dull) (omega (arith, y.0), omega (arith, y.1));
    moment = b.carries m w q;
    kept = k;
    runs = rw e b.runs;
    done = b.done;
  }

  -- the byte that was out is counted now
  sent_paced : Watching (Sending n) c.bytecount w → Paced (slaves_of c) more w.at w.given
  sent_paced v e = rw (v.0, v.1, same) (omega arith, omega arith)

  -- after it: a stop, or the next transaction
  ended_counted : (t : Tail) → Behind (slaves_of c) c.tranconfig more n (finished (counted_one c n) n t)
  unfolding counted_one
  ended_counted t = finished_behind _ n t

  cut-counted : (t : Tail) → Behind (slaves_of c) c.tranconfig more n (on (counted_one c n) (stopped c.head (stop_by t)))
  unfolding counted_one
  cut-counted t = stop_behind _ n t

  left_less : left_behind c.tranconfig n + 1 ≤ left_of (Sending n) c.tranconfig c.bytecount
  left_less = let x = a.room in let e = a.next in omega (arith, x, e, short)

  -- ---- ACK or SENT
  module _ (ack : Event) (k : Acks ack) where
    -- the next byte of a write
    next_goes : reads_of (slave_of c n) ≡ false → bytes_of c n + 1 < length_of c n → Watching (Sending n) c.bytecount w
        → Goes (Sending n) c m w (event ack) (leaving m (byte_sent (counted_one c n) m n (bytes_of c n + 1)))
    unfolding byte_sent counted_one
    next_goes d l v = record {
      slas = refl;
      lengths = refl;
      width = length-set c.bytecount n _;
      left = let x = a.room in let e = same in let g = k.cost in let f = k.fault in omega (arith, x, e, short, g, f);
      watch = (v.0, rw (v.1, same) refl, refl);
      counts = counted (event ack) (k.counts w ∙ v.2) v.0;
      paced = λ h e. let g = data_gain (get_or m (start_of c.tranconfig n + (bytes_of c n + 1)) 0) in rw (v.0, v.1, same) (omega (arith, g), omega (arith, g));
      moment = rw (v.0, v.1) (d, l, refl);
      kept = λ i j _ _ _. refl;
      runs = rw k.ends;
      done = refl;
    }

    send_more : (x : Next) → reads_of (slave_of c n) ≡ false → Left x (bytes_of c n + 1) (length_of c n) → Watching (Sending n) c.bytecount w
        → Goes (Sending n) c m w (event ack) (leaving m (send_on (counted_one c n) m n (bytes_of c n + 1) x))
    unfolding send_on counted_one
    send_more Cut d l v = behind_counted (Sending n) ack _ m (cut-counted Plain) v.0 (k.counts w ∙ v.2) k.ends (sent_paced v) (let x = left_less in let g = k.cost in let f = k.fault in omega (arith, x, g, f)) (λ i j _ _ _. refl)
    send_more More d l v = next_goes d l v
    send_more Over d l v = behind_counted (Sending n) ack _ m (ended_counted Plain) v.0 (k.counts w ∙ v.2) k.ends (sent_paced v) (let x = left_less in let g = k.cost in let f = k.fault in omega (arith, x, g, f)) (λ i j _ _ _. refl)

    pub ack_sending_goes : reads_of (slave_of c n) ≡ false → Watching (Sending n) c.bytecount w → Goes (Sending n) c m w (event ack) (leaving m (ack_sending c m n))
    unfolding ack_sending
    ack_sending_goes d v = send_more _ d (next_left (halt_of c.head) (bytes_of c n + 1) (length_of c n)) v

  -- ---- BYTE: stored within the transaction, which is a read
  module _ (b : ℕ) (at : c.head.walk.phase ≡ Receiving n) (reads : reads_of (slave_of c n) ≡ true) (v : Watching (Receiving n) c.bytecount w) where
    abbrev stored : List ℕ
    stored = set m (byte_at c n) b

    stored-kept : WritesKept c m stored
    stored-kept k j below write inside = get_or-set_other m (byte_at c n) (start_of c.tranconfig k + j) b 0 (λ e. go (ltb k n) refl (ltb n k) refl e)
      where
        go : (x : Bool) → ltb k n ≡ x → (y : Bool) → ltb n k ≡ y → start_of c.tranconfig k + j ≡ byte_at c n → ⊥
        go true t y u e =
            let h = ltb-true k n t in
            let g = start_next c.tranconfig k n h in omega (arith, g, inside, e)
        go false t true u e =
            let h = ltb-true n k u in
            let g = start_next c.tranconfig n k h in omega (arith, g, short, e)
        go false t false u e =
            let q : k ≡ n = (let x = ltb-false k n t in let y = ltb-false n k u in omega (arith, x, y)) in
            let r : reads_of (slave_of c n) ≡ false = rw (← q) write in
            let z = false_not_true (sym r ∙ reads) in omega (arith, z)

    read_paced : (l : List ℕ) (k : ℕ) → Paced (slaves_of c) l w.at k
    read_paced l k e = absurd (let r : reads_of (slave_of c n) ≡ false = rw (← v.0) e in let z = false_not_true (sym r ∙ reads) in omega (arith, z))

    again_goes : Goes (Receiving n) c m w (event (Byte b)) (leaving stored (on (counted_one c n) (acted c.head A)))
    unfolding counted_one
    again_goes = record {
      slas = refl;
      lengths = refl;
      width = length-set c.bytecount n _;
      left = let x = a.room in let e = same in rw at (omega (arith, x, e, short));
      watch = rw at (v.0, v.1, refl);
      counts = counted (event (Byte b)) refl v.0;
      paced = λ _. read_paced more _;
      moment = tt;
      kept = stored-kept;
      runs = rw at refl;
      done = refl;
    }

    receive_more : (x : Next) → Goes (Receiving n) c m w (event (Byte b)) (leaving stored (receive_on (counted_one c n) n x))
    unfolding receive_on counted_one
    receive_more Cut = behind_counted (Receiving n) (Byte b) _ stored (cut-counted Nacked) v.0 refl refl (read_paced more _) left_less stored-kept
    receive_more More = again_goes
    receive_more Over = behind_counted (Receiving n) (Byte b) _ stored (ended_counted Nacked) v.0 refl refl (read_paced more _) left_less stored-kept

    pub received_goes : Goes (Receiving n) c m w (event (Byte b)) (received c m n b)
    unfolding received
    received_goes = receive_more _
