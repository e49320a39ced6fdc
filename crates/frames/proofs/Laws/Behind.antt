-- How many events a frame can still take, what the logger knows, and what a step leaves that has done with transaction n.
use Rattle.std.specs.Prelude.{ℕ, ◌+◌, ◌-◌, ◌<◌, ◌≤◌, Bool, true, false, List, ◌≡◌, ltb, get_or, if◌then◌else◌}
use Rattle.std.proofs.Math.Path.{refl}
use Rattle.std.proofs.Common.{arith, ltb-true}
use Rattle.laws.specs.Cases.{pick_holds}
use Rattle.rules.specs.declared.state.Phase.{Phase}
use Rattle.rules.specs.declared.state.Phase.TheVariants.{Idle, Address, Sending, Receiving, Stopping, Waiting}
use Rattle.rules.specs.Tables.{start_of, sum_of, reads_of}
use Rattle.rules.proofs.Laws.Tables.{start_next, start-more, first_from}
use Rattle.rules.specs.declared.wires.Action.{Action}
use Rattle.rules.specs.declared.wires.Action.TheVariants.{Nothing, S, R, D, C, A, Np, Nr, P}
use Rattle.sequence.specs.declared.wires.Move.{Move}
use Rattle.sequence.specs.declared.wires.Move.TheVariants.{Halt, Send}
use Rattle.sequence.specs.declared.wires.Tail.{Tail}
use Rattle.sequence.specs.declared.wires.Tail.TheVariants.{Plain, Nacked}
use Rattle.sequence.specs.Wires.{move_of, reach_of, stop_by, again_by}
use Rattle.head.specs.Head.{kind_of, halt_of, stopped}
use Rattle.channel.specs.declared.state.Channel.{Channel}
use Rattle.channel.specs.declared.state.Stepped.{Stepped}
use Rattle.channel.specs.State.{on}
use Rattle.channel.specs.Wires.{slave_of, passed, sent_to, moved_to, onward, finished}
use Rattle.frames.specs.Wire.{Slaves, next_from, Watch, addressing, watch_after, CarriesNext, Carries}
use Rattle.frames.specs.Deeds.{runs_of}
use Rattle.frames.specs.Statement.{slaves_of}

-- ---- how many events a frame can still take
abbrev pub left_of : Phase → List ℕ → List ℕ → ℕ
left_of Idle lens counts = 0
left_of (Address n) lens counts = (get_or lens 0 0 - n) + (sum_of lens - start_of lens n) + 1
left_of (Sending n) lens counts = (get_or lens 0 0 - (n + 1)) + (sum_of lens - (start_of lens n + get_or counts n 0)) + 1
left_of (Receiving n) lens counts = (get_or lens 0 0 - (n + 1)) + (sum_of lens - (start_of lens n + get_or counts n 0)) + 1
left_of Stopping lens counts = 1
left_of Waiting lens counts = 0

-- behind transaction n
abbrev pub left_behind : List ℕ → ℕ → ℕ
left_behind lens n = (get_or lens 0 0 - (n + 1)) + (sum_of lens - start_of lens (n + 1)) + 1

-- ---- what the logger knows, against the phase
abbrev pub Watching : Phase → List ℕ → Watch → Type 0
Watching Idle counts w = Unit {0}
Watching (Address n) counts w = (w.at ≡ n) × (w.given ≡ 0) × (w.out ≡ false)
Watching (Sending n) counts w = (w.at ≡ n) × (w.given ≡ get_or counts n 0 + 1) × (w.out ≡ true)
Watching (Receiving n) counts w = (w.at ≡ n) × (w.given ≡ 0) × (w.out ≡ false)
Watching Stopping counts w = Unit {0}
Watching Waiting counts w = Unit {0}

-- a data byte is sent, of the transaction in question
abbrev pub gain : Bool → Action → ℕ
gain here Nothing = 0
gain here (S x) = 0
gain here (R x) = 0
gain here (D b) = if here then 1 else 0
gain here C = 0
gain here A = 0
gain here Np = 0
gain here (Nr x) = 0
gain here P = 0

-- of a write n bytes were sent: as many as are counted, or one more
abbrev pub Paced : Slaves → List ℕ → ℕ → ℕ → Type 0
Paced sla counts at n = reads_of (get_or sla.table at 0) ≡ false → (get_or counts at 0 ≤ n) × (n ≤ get_or counts at 0 + 1)

-- a step that has done with transaction n
pub record Behind (sla : Slaves) (lens counts : List ℕ) (n : ℕ) (r : Stepped) : Type 0 where
  pub slas : slaves_of r.channel ≡ sla
  pub lengths : r.channel.tranconfig ≡ lens
  pub counted : r.channel.bytecount ≡ counts
  pub left : left_of r.channel.head.walk.phase lens counts ≤ left_behind lens n
  pub watch : (w : Watch) → w.at ≡ n → Watching r.channel.head.walk.phase counts (watch_after sla lens w r.answer.action)
  pub dull : gain true r.answer.action ≡ 0
  pub carries : (m : List ℕ) (w : Watch) → w.at ≡ n → Carries sla lens m w r.answer.action
  pub runs : runs_of r.channel.head.walk.phase ≡ true
  pub done : r.answer.number ≡ 0

start_le : (lens : List ℕ) (i n : ℕ) → i < n → start_of lens (i + 1) ≤ start_of lens n
start_le lens i n h = rw (← start-more lens i _ _ refl refl) (start_next lens i n h)

-- a move behind transaction n
Onto : Slaves → List ℕ → ℕ → Move → Type 0
Onto sla lens n Halt = Unit {0}
Onto sla lens n (Send to) = (to ≡ next_from sla lens (n + 1)) × (to < get_or lens 0 0)

onto : (sla : Slaves) (lens : List ℕ) (n : ℕ) (halt : Bool) → Onto sla lens n (move_of halt (reach_of sla.kind halt n sla.table lens) (get_or lens 0 0))
unfolding move_of reach_of Onto
onto sla lens n true = tt
onto sla lens n false = pick_holds (Onto sla lens n) (ltb (next_from sla lens (n + 1)) (get_or lens 0 0)) (λ t. (refl, ltb-true _ _ t)) (λ _. tt)

-- P and NP, R and NR are alike to the logger
stop_dull : (t : Tail) → gain true (stop_by t) ≡ 0
stop_dull Plain = refl
stop_dull Nacked = refl

stop_carries : (sla : Slaves) (lens m : List ℕ) (w : Watch) (t : Tail) → Carries sla lens m w (stop_by t)
stop_carries sla lens m w Plain = tt
stop_carries sla lens m w Nacked = tt

again_watch : (sla : Slaves) (lens : List ℕ) (w : Watch) (t : Tail) (x : ℕ) → watch_after sla lens w (again_by t x) ≡ addressing (next_from sla lens (w.at + 1))
again_watch sla lens w Plain x = refl
again_watch sla lens w Nacked x = refl

again_dull : (t : Tail) (x : ℕ) → gain true (again_by t x) ≡ 0
again_dull Plain x = refl
again_dull Nacked x = refl

again_carries : (sla : Slaves) (lens m : List ℕ) (w : Watch) (t : Tail) (x : ℕ) → CarriesNext sla lens (next_from sla lens (w.at + 1)) x → Carries sla lens m w (again_by t x)
again_carries sla lens m w Plain x h = h
again_carries sla lens m w Nacked x h = h

module _ (c : Channel) (n : ℕ) where
  abbrev Done : Stepped → Type 0
  Done r = Behind (slaves_of c) c.tranconfig c.bytecount n r

  pub stop_behind : (t : Tail) → Done (on c (stopped c.head (stop_by t)))
  unfolding stopped
  stop_behind t = record {
    slas = refl;
    lengths = refl;
    counted = refl;
    left = omega arith;
    watch = λ w e. tt;
    dull = stop_dull t;
    carries = λ m w _. stop_carries (slaves_of c) c.tranconfig m w t;
    runs = refl;
    done = refl;
  }

  send_behind : (to : ℕ) (t : Tail) → Onto (slaves_of c) c.tranconfig n (Send to) → n < to → Done (sent_to c to (again_by t (slave_of c to)))
  unfolding sent_to Onto
  send_behind to t o h =
      let x = slave_of c to in
      let g = start_le c.tranconfig n to h in
      record {
        slas = refl;
        lengths = refl;
        counted = refl;
        left = omega (arith, g, h);
        watch = λ w e. rw (again_watch (slaves_of c) c.tranconfig w t x, e, o.0) (refl, refl, refl);
        dull = again_dull t x;
        carries = λ m w e. again_carries (slaves_of c) c.tranconfig m w t x (rw (e, ← o.0) (o.1, refl));
        runs = refl;
        done = refl;
      }

  moved_behind : (t : Tail) (m : Move) → Onto (slaves_of c) c.tranconfig n m → Done (moved_to c t m)
  unfolding moved_to Onto
  moved_behind t Halt o = stop_behind t
  moved_behind t (Send to) o =
      let f = first_from (kind_of c.head) c.slatable c.tranconfig (n + 1) (get_or c.tranconfig 0 0) in
      send_behind to t o (omega (arith, f, o.0))

pub onward_behind : (c : Channel) (n : ℕ) (t : Tail) → Behind (slaves_of c) c.tranconfig c.bytecount n (onward c n t)
unfolding onward passed
onward_behind c n t = moved_behind _ n t _ (onto (slaves_of c) c.tranconfig n (halt_of c.head))

pub finished_behind : (c : Channel) (n : ℕ) (t : Tail) → Behind (slaves_of c) c.tranconfig c.bytecount n (finished c n t)
unfolding finished
finished_behind c n t = onward_behind _ n t
