-- A step of two parts that are alike: its answers, what it leaves, and INT.
use Rattle.std.specs.Prelude.{ℕ, zero, suc, Bool, false, ◌≡◌, length, get_or, set}
use mathlib.Core.List.{List, [], ◌∷◌, map}
use Rattle.std.proofs.Math.Path.{refl, ap}
use Rattle.std.proofs.Common.{sym, ◌∙◌}
use Rattle.rules.specs.Access.{key_after, resets_of}
use Rattle.rules.specs.Parts.{device_by, device_id}
use Rattle.rules.specs.Registers.{active_of}
use Rattle.rules.specs.declared.wires.Edge.{Edge}
use Rattle.interrupt.specs.Interrupt.{be_after, pending_of}
use Rattle.interrupt.proofs.Sentence.{unheeded}
use Rattle.rules.specs.declared.wires.Action.{Action}
use Rattle.steps.specs.declared.map.Ctrl.{Ctrl}
use Rattle.steps.specs.declared.map.Ctrl.TheVariants.{Ctrlstatus, Ctrlintmsk, Reserved, DeviceId, Ctrlpreset, Nothing, Ctrlrdy}
use Rattle.steps.specs.declared.map.Op.{Op}
use Rattle.steps.specs.declared.map.Step.{Step}
use Rattle.steps.specs.declared.map.Target.{Target}
use Rattle.steps.specs.declared.map.Target.TheVariants.{One, All}
use Rattle.steps.specs.declared.map.Wide.{Wide}
use Rattle.steps.specs.declared.map.Wide.TheVariants.{CtrlWrite, CtrlRead, AllTrigger, AllReset, Beyond}
use Rattle.steps.specs.Answer.{only_at}
use Rattle.steps.specs.Keys.{ctrlpreset_of, op_writes, wide_writes}
use Rattle.steps.specs.Map.{target_of}
use Rattle.head.specs.Head.{kind_of}
use Rattle.channel.specs.declared.state.Channel.{Channel}
use Rattle.channel.specs.Wires.{triggered}
use Rattle.part.specs.declared.state.Part.{Part}
use Rattle.part.specs.declared.state.PartStepped.{PartStepped}
use Rattle.part.specs.State.{blank, chan, window, put_window, device_of, keyless, forgotten, with_key}
use Rattle.part.specs.Registers.{pending_at, active_at, interrupt_of, ctrlstatus_of, ctrl_read, ctrl_written, ctrl_put, ctrl_store}
use Rattle.part.specs.Step.{edge_channel, edge_act, edge_be, one_step, one_bytes, trigger_step, all_served, all_stored, target_served, target_stored}
use Rattle.part.specs.Step.{forgetting, part_served, part_stored, channels_in, part_in, accepts, part_step, part_bytes}
use Rattle.kinds.specs.Statement.{remasked, Alike, AllAlike, AlikeParts, reads_mask, SameAnswer}
use Rattle.kinds.proofs.Laws.Masks.{either, alike_same, served_alike, edge_alike, range_alike}

-- ---- channels
at_alike : (l k : List Channel) → AllAlike l k → (c : ℕ) → Alike (get_or l c blank) (get_or k c blank)
at_alike [] [] a c = alike_same blank
at_alike [] (y ∷ k) a c = absurd a
at_alike (x ∷ l) [] a c = absurd a
at_alike (x ∷ l) (y ∷ k) a zero = a.0
at_alike (x ∷ l) (y ∷ k) a (suc c) = at_alike l k a.1 c

set_alike : (l k : List Channel) (c : ℕ) (x y : Channel) → AllAlike l k → Alike x y → AllAlike (set l c x) (set k c y)
set_alike [] [] c x y a b = tt
set_alike [] (v ∷ k) c x y a b = absurd a
set_alike (u ∷ l) [] c x y a b = absurd a
set_alike (u ∷ l) (v ∷ k) zero x y a b = (b, a.1)
set_alike (u ∷ l) (v ∷ k) (suc c) x y a b = (a.0, set_alike l k c x y a.1 b)

map_alike : (f : Channel → Channel) → ((x y : Channel) → Alike x y → Alike (f x) (f y)) → (l k : List Channel) → AllAlike l k → AllAlike (map f l) (map f k)
map_alike f h [] [] a = tt
map_alike f h [] (y ∷ k) a = absurd a
map_alike f h (x ∷ l) [] a = absurd a
map_alike f h (x ∷ l) (y ∷ k) a = (h x y a.0, map_alike f h l k a.1)

all_same : (l : List Channel) → AllAlike l l
all_same [] = tt
all_same (x ∷ l) = (alike_same x, all_same l)

-- what is the same of two that are alike
alike_of : {A : Type 0} (f : Channel → A) → ((n : ℕ) (x : Channel) → f (remasked n x) ≡ f x) → (x y : Channel) → Alike x y → f y ≡ f x
alike_of f h x y a = ap f a.is ∙ h a.mask x

pending_alike : (x y : Channel) → Alike x y → pending_of (kind_of y.head) y.head.flags y.head.regs.intmsk ≡ pending_of (kind_of x.head) x.head.flags x.head.regs.intmsk
pending_alike x y a =
    let k = kind_of x.head in
    let f = x.head.flags in
    rw a.is (sym (unheeded k f a.mask) ∙ ap (pending_of k f) a.heeds ∙ unheeded k f x.head.regs.intmsk)

keyless_alike : (x y : Channel) → Alike x y → Alike (keyless x) (keyless y)
keyless_alike x y a = record { mask = a.mask; is = ap keyless a.is; heeds = a.heeds }

ranges : (l k : List Channel) → AllAlike l k → channels_in k ≡ channels_in l
unfolding channels_in
ranges [] [] a = refl
ranges [] (y ∷ k) a = absurd a
ranges (x ∷ l) [] a = absurd a
ranges (x ∷ l) (y ∷ k) a = rw (range_alike x y a.0, ranges l k a.1)

-- ---- an edge on each
edge_channels : (edge : Edge) (x y : Channel) → Alike x y → Alike (edge_channel edge x) (edge_channel edge y)
edge_channels edge x y a = (edge_alike x y a edge).channels

edge_bes : (edge : Edge) (b : Bool) (l k : List Channel) → AllAlike l k → edge_be edge b k ≡ edge_be edge b l
edge_bes edge b [] [] a = refl
edge_bes edge b [] (y ∷ k) a = absurd a
edge_bes edge b (x ∷ l) [] a = absurd a
edge_bes edge b (x ∷ l) (y ∷ k) a = rw (edge_alike x y a.0 edge).number (edge_bes edge (be_after b (triggered x edge).answer.number) l k a.1)

edge_acts : (edge : Edge) (l k : List Channel) → AllAlike l k → map (edge_act edge) k ≡ map (edge_act edge) l
edge_acts edge [] [] a = refl
edge_acts edge [] (y ∷ k) a = absurd a
edge_acts edge (x ∷ l) [] a = absurd a
edge_acts edge (x ∷ l) (y ∷ k) a = rw (edge_alike x y a.0 edge).action (ap (λ (t : List Action). edge_act edge x ∷ t) (edge_acts edge l k a.1))

-- ---- the same outcome of a step of the part
pub record Same (readback : Bool) (r q : PartStepped) : Type 0 where
  pub parts : AlikeParts r.part q.part
  pub answer : SameAnswer readback r.answer q.answer

parts_same : (p : Part) → AlikeParts p p
parts_same p = record { channels = all_same p.channels; be = refl; mask = refl; key = refl }

same_step : (b : Bool) (r : PartStepped) → Same b r r
same_step b r = record { parts = parts_same r.part; answer = record { number = refl; actions = refl; value = λ _. refl } }

module _ (p q : Part) (a : AlikeParts p q) where
  at : (c : ℕ) → Alike (chan p c) (chan q c)
  at c = at_alike p.channels q.channels a.channels c

  pendings : (c : ℕ) → pending_at q c ≡ pending_at p c
  pendings c = pending_alike (chan p c) (chan q c) (at c)

  actives : (c : ℕ) → active_at q c ≡ active_at p c
  actives c = alike_of (λ (x : Channel). active_of x.head.walk.phase) (λ n x. refl) (chan p c) (chan q c) (at c)

  kinds : (c : ℕ) → kind_of (chan q c).head ≡ kind_of (chan p c).head
  kinds c = alike_of (λ (x : Channel). kind_of x.head) (λ n x. refl) (chan p c) (chan q c) (at c)

  devices : device_of q ≡ device_of p
  devices = ap device_by (kinds 1)

  -- INT
  pub levels : interrupt_of q ≡ interrupt_of p
  unfolding interrupt_of
  levels = rw (a.be, a.mask, pendings 0, pendings 1, pendings 2)

  shown : ctrlstatus_of q ≡ ctrlstatus_of p
  unfolding ctrlstatus_of
  shown = rw (a.be, actives 2, actives 1, actives 0, pendings 2, pendings 1, pendings 0)

  -- no. 9
  accepted : (n : ℕ) → accepts q n ≡ accepts p n
  unfolding accepts part_in
  accepted n = rw (ranges p.channels q.channels a.channels, a.mask, kinds 0, kinds 1, kinds 2)

  -- ---- keys
  forgets : (c : ℕ) → AlikeParts (forgotten p c) (forgotten q c)
  forgets c = record {
    channels =
        set_alike (map keyless p.channels) (map keyless q.channels) c (chan p c) (chan q c)
        (map_alike keyless keyless_alike p.channels q.channels a.channels) (at c);
    be = a.be;
    mask = a.mask;
    key = rw a.key;
  }

  left : (t : Target) → AlikeParts (forgetting t p) (forgetting t q)
  unfolding forgetting
  left (One op c) = either AlikeParts (op_writes op) (forgets c) a
  left (All t) = either AlikeParts (wide_writes t) (forgets 3) a

  -- ---- one channel
  served : (m : List ℕ) (c : ℕ) (op : Op) → Same (reads_mask (One op c)) (one_step p m c op) (one_step q m c op)
  unfolding one_step
  served m c op =
      let s = served_alike (chan p c) (chan q c) (at c) (window c m) c op in
      record {
        parts = record {
          channels = set_alike p.channels q.channels c _ _ a.channels s.channels;
          be = rw (a.be, s.number);
          mask = a.mask;
          key = a.key;
        };
        answer = record { number = s.number; actions = ap (only_at c) s.action; value = s.value };
      }

  stored : (m : List ℕ) (c : ℕ) (op : Op) → one_bytes q m c op ≡ one_bytes p m c op
  unfolding one_bytes
  stored m c op = ap (λ (l : List ℕ). put_window c l m) (served_alike (chan p c) (chan q c) (at c) (window c m) c op).bytes

  -- ---- the whole part
  triggered_same : (edge : Edge) → Same false (trigger_step p edge) (trigger_step q edge)
  unfolding trigger_step
  triggered_same edge = record {
    parts = record {
      channels = map_alike (edge_channel edge) (edge_channels edge) p.channels q.channels a.channels;
      be = rw a.be (edge_bes edge p.be p.channels q.channels a.channels);
      mask = a.mask;
      key = a.key;
    };
    answer = record { number = refl; actions = edge_acts edge p.channels q.channels a.channels; value = λ _. refl };
  }

  -- the part as it is, with an answer
  plain_same : (n v w : ℕ) (l : List Action) → w ≡ v
      → Same false (record { part = p; answer = record { number = n; value = v; actions = l } }) (record { part = q; answer = record { number = n; value = w; actions = l } })
  plain_same n v w l e = record { parts = a; answer = record { number = refl; actions = refl; value = λ _. e } }

  read_same : (reg : Ctrl) → Same false (ctrl_read p reg) (ctrl_read q reg)
  unfolding ctrl_read
  read_same Ctrlstatus =
      record {
        parts = record { channels = a.channels; be = refl; mask = a.mask; key = a.key };
        answer = record { number = refl; actions = refl; value = λ _. shown };
      }
  read_same Ctrlintmsk = plain_same 0 _ _ _ a.mask
  read_same Reserved = plain_same 0 _ _ _ refl
  read_same DeviceId = plain_same 0 _ _ _ (ap device_id devices)
  read_same Ctrlpreset = plain_same 0 _ _ _ refl
  read_same Nothing = plain_same _ _ _ _ refl
  read_same Ctrlrdy = plain_same 0 _ _ _ refl

  keyed : (k : Bool) → AlikeParts (with_key p k) (with_key q k)
  keyed k = record { channels = a.channels; be = a.be; mask = a.mask; key = refl }

written_same : (p q : Part) → AlikeParts p q → (reg : Ctrl) (v : ℕ) → Same false (ctrl_written p reg v) (ctrl_written q reg v)
unfolding ctrl_written
written_same p q a Ctrlstatus v = plain_same p q a _ _ _ _ refl
written_same p q a Ctrlintmsk v =
    record {
      parts = record { channels = a.channels; be = a.be; mask = refl; key = a.key };
      answer = record { number = refl; actions = refl; value = λ _. refl };
    }
written_same p q a Reserved v = plain_same p q a _ _ _ _ refl
written_same p q a DeviceId v = plain_same p q a _ _ _ _ refl
written_same p q a Ctrlpreset v = plain_same p q a _ _ _ _ refl
written_same p q a Nothing v = plain_same p q a _ _ _ _ refl
written_same p q a Ctrlrdy v = plain_same p q a _ _ _ _ refl

module _ (p q : Part) (a : AlikeParts p q) where
  put_same : (reg : Ctrl) (v : ℕ) → Same false (ctrl_put p reg v) (ctrl_put q reg v)
  unfolding ctrl_put
  put_same reg v =
      rw (a.key, devices p q a)
      (either (Same false) (resets_of (ctrlpreset_of reg) v p.key) (same_step _ _)
      (written_same _ _ (keyed p q a (key_after (ctrlpreset_of reg) v)) reg v))

  all_same_step : (t : Wide) → Same false (all_served p t) (all_served q t)
  unfolding all_served
  all_same_step (CtrlWrite reg v) = put_same reg v
  all_same_step (CtrlRead reg) = read_same p q a reg
  all_same_step (AllTrigger edge) = triggered_same p q a edge
  all_same_step (AllReset d) = same_step _ _
  all_same_step Beyond = plain_same p q a _ _ _ _ refl

  all_same_bytes : (m : List ℕ) (t : Wide) → all_stored q m t ≡ all_stored p m t
  unfolding all_stored ctrl_store
  all_same_bytes m (CtrlWrite reg v) = rw a.key
  all_same_bytes m (CtrlRead reg) = refl
  all_same_bytes m (AllTrigger edge) = refl
  all_same_bytes m (AllReset d) = refl
  all_same_bytes m Beyond = refl

  target_same : (m : List ℕ) (t : Target) → Same (reads_mask t) (target_served p m t) (target_served q m t)
  unfolding target_served
  target_same m (One op c) = served p q a m c op
  target_same m (All t) = all_same_step t

  target_bytes : (m : List ℕ) (t : Target) → target_stored q m t ≡ target_stored p m t
  unfolding target_stored
  target_bytes m (One op c) = stored p q a m c op
  target_bytes m (All t) = all_same_bytes m t

-- A STEP OF TWO PARTS THAT ARE ALIKE
module _ (p q : Part) (a : AlikeParts p q) (m : List ℕ) (s : Step) where
  pub step_same : Same (reads_mask (target_of s)) (part_step p m s) (part_step q m s)
  unfolding part_step part_served
  step_same =
      rw (accepted p q a (length m))
      (either (Same (reads_mask (target_of s))) (accepts p (length m)) (target_same _ _ (left p q a (target_of s)) m (target_of s))
      (record { parts = a; answer = record { number = refl; actions = refl; value = λ _. refl } }))

  pub bytes_same : part_bytes q m s ≡ part_bytes p m s
  unfolding part_bytes part_stored
  bytes_same = rw (accepted p q a (length m), target_bytes _ _ (left p q a (target_of s)) m (target_of s))
