-- After a write at most one key is pending, whatever was before; a reset leaves none, and every other step leaves each as it was.
use Rattle.std.specs.Prelude.{ℕ, zero, suc, ◌<◌, Bool, true, List, [], ◌∷◌, map, ◌≡◌, length, get_or, set}
use Rattle.std.proofs.Math.Bool.{false}
use Rattle.std.proofs.Math.Path.{refl}
use Rattle.std.proofs.Common.{sym, ◌∙◌, arith, get_or-set_other}
use borrow.Author.Tests.{eqb-true, eqb-false, ne_eqb}
use Rattle.std.proofs.Math.Dec.{eqb}
use Rattle.laws.specs.Cases.{pick_holds, false_not_true}
use Rattle.rules.specs.declared.parts.Device.{Device}
use Rattle.rules.specs.Access.{key_after, resets_of}
use Rattle.rules.specs.declared.wires.Edge.{Edge}
use Rattle.steps.specs.declared.map.Ctrl.{Ctrl}
use Rattle.steps.specs.declared.map.Ctrl.TheVariants.{Ctrlstatus, Ctrlintmsk, Reserved, DeviceId, Ctrlpreset, Nothing, Ctrlrdy}
use Rattle.steps.specs.declared.map.Op.{Op}
use Rattle.steps.specs.declared.map.Op.TheVariants.{Write, Read, Wire}
use Rattle.steps.specs.declared.map.Step.{Step}
use Rattle.steps.specs.declared.map.Target.{Target}
use Rattle.steps.specs.declared.map.Target.TheVariants.{One, All}
use Rattle.steps.specs.declared.map.Wide.TheVariants.{CtrlWrite, CtrlRead, AllTrigger, AllReset, Beyond}
use Rattle.steps.specs.Facts.{InPart}
use Rattle.steps.specs.Keys.{ctrlpreset_of, op_writes}
use Rattle.steps.proofs.Laws.Map.{in_part}
use Rattle.steps.specs.Map.{target_of}
use Rattle.channel.specs.declared.state.Channel.{Channel}
use Rattle.part.specs.declared.state.Part.{Part}
use Rattle.part.specs.declared.state.PartStepped.{PartStepped}
use Rattle.part.specs.Registers.{ctrl_read, ctrl_written, ctrl_put}
use Rattle.part.specs.State.{blank, chan, window, with_key, fresh_part, device_of, forgotten}
use Rattle.part.specs.Step.{edge_channel, trigger_step, one_served, one_step, all_served, target_served, forgetting, part_served, part_step, accepts}
use Rattle.part.proofs.Laws.Keys.{other_left}
use Rattle.works.proofs.Laws.Keys.{quiet_key, edge_key}
use Rattle.independent.specs.Keys.{key_at, AtMostOneKey}

pub no : {A : Type 0} → false ≡ true → A
no e = absurd (let z = false_not_true e in omega (arith, z))

-- none is pending but number c
abbrev OnlyKey : ℕ → Part → Type 0
OnlyKey c p = (x : ℕ) → key_at p x ≡ true → x ≡ c

only_one : (c : ℕ) (p : Part) → OnlyKey c p → AtMostOneKey p
only_one c p h x y d e = h x d ∙ sym (h y e)

-- by what stands beside the channels, and by each channel
only_of : (c : ℕ) (p : Part) → (eqb c 3 ≡ false → p.key ≡ false) → ((x : ℕ) → (c ≡ x → ⊥) → eqb x 3 ≡ false → (chan p x).head.key ≡ false) → OnlyKey c p
only_of c p key keys x e = go (eqb x c) refl (eqb x 3) refl
  where
    go : (a : Bool) → eqb x c ≡ a → (b : Bool) → eqb x 3 ≡ b → x ≡ c
    go true h b i = eqb-true x c h
    go false h true i =
        let three : x ≡ 3 = eqb-true x 3 i in
        let other : eqb c 3 ≡ false = ne_eqb c 3 (λ q. eqb-false x c h (three ∙ sym q)) in
        no (sym (key other) ∙ rw i at e)
    go false h false i = no (sym (keys x (λ q. eqb-false x c h (sym q)) i) ∙ rw i at e)

-- ---- a reset
fresh_key : (d : Device) (x : ℕ) → (chan (fresh_part d) x).head.key ≡ false
fresh_key d zero = refl
fresh_key d (suc zero) = refl
fresh_key d (suc (suc zero)) = refl
fresh_key d (suc (suc (suc x))) = refl

fresh-only : (d : Device) (c : ℕ) → OnlyKey c (fresh_part d)
fresh-only d c = only_of c (fresh_part d) (λ _. refl) (λ x _ _. fresh_key d x)

-- ---- a write
Only3 : PartStepped → Type 0
Only3 r = OnlyKey 3 r.part

module _ (p : Part) (m : List ℕ) where
  write-only : (a v c : ℕ) → c < 3 → OnlyKey c (one_step (forgotten p c) m c (Write a v)).part
  unfolding one_step
  write-only a v c low =
      let q = forgotten p c in
      let below : eqb c 3 ≡ false = ne_eqb c 3 (λ e. omega (arith, e, low)) in
      only_of c (one_step q m c (Write a v)).part (λ _. rw below)
      (λ x ne _.
      rw (get_or-set_other q.channels c x (one_served q m c (Write a v)).stepped.channel blank (λ e. ne (sym e)), other_left p c x ne))

  channels_only : (q : Part) → q.channels ≡ (forgotten p 3).channels → OnlyKey 3 q
  channels_only q e = only_of 3 q (λ h. no (sym h)) (λ x ne _. rw e (rw (other_left p 3 x ne)))

  ctrl_only : (key : Bool) (reg : Ctrl) (v : ℕ) → Only3 (ctrl_written (with_key (forgotten p 3) key) reg v)
  unfolding Only3 ctrl_written
  ctrl_only key Ctrlstatus v = channels_only (ctrl_written (with_key (forgotten p 3) key) Ctrlstatus v).part refl
  ctrl_only key Ctrlintmsk v = channels_only (ctrl_written (with_key (forgotten p 3) key) Ctrlintmsk v).part refl
  ctrl_only key Reserved v = channels_only (ctrl_written (with_key (forgotten p 3) key) Reserved v).part refl
  ctrl_only key DeviceId v = channels_only (ctrl_written (with_key (forgotten p 3) key) DeviceId v).part refl
  ctrl_only key Ctrlpreset v = channels_only (ctrl_written (with_key (forgotten p 3) key) Ctrlpreset v).part refl
  ctrl_only key Nothing v = channels_only (ctrl_written (with_key (forgotten p 3) key) Nothing v).part refl
  ctrl_only key Ctrlrdy v = channels_only (ctrl_written (with_key (forgotten p 3) key) Ctrlrdy v).part refl

  put_only : (reg : Ctrl) (v : ℕ) → Only3 (ctrl_put (forgotten p 3) reg v)
  unfolding Only3 ctrl_put
  put_only reg v =
      pick_holds Only3 (resets_of (ctrlpreset_of reg) v (forgotten p 3).key) (λ _. fresh-only (device_of (forgotten p 3)) 3) (λ _. ctrl_only (key_after (ctrlpreset_of reg) v) reg v)

-- ---- any other step: each key is as it was
SameKeys : Part → Part → Type 0
SameKeys p q = (x : ℕ) → key_at q x ≡ key_at p x

same_one : (p q : Part) → SameKeys p q → AtMostOneKey p → AtMostOneKey q
unfolding SameKeys
same_one p q h one x y d e = one x y (sym (h x) ∙ d) (sym (h y) ∙ e)

same_of : (p q : Part) → q.key ≡ p.key → ((x : ℕ) → (chan q x).head.key ≡ (chan p x).head.key) → SameKeys p q
unfolding SameKeys
same_of p q key keys x = rw (key, keys x)

set_key : (l : List Channel) (c : ℕ) (r : Channel) → r.head.key ≡ (get_or l c blank).head.key → (x : ℕ) → (get_or (set l c r) x blank).head.key ≡ (get_or l x blank).head.key
set_key [] c r e x = refl
set_key (y ∷ l) zero r e zero = e
set_key (y ∷ l) zero r e (suc x) = refl
set_key (y ∷ l) (suc c) r e zero = refl
set_key (y ∷ l) (suc c) r e (suc x) = set_key l c r e x

edge_keys : (edge : Edge) (l : List Channel) (x : ℕ) → (get_or (map (edge_channel edge) l) x blank).head.key ≡ (get_or l x blank).head.key
edge_keys edge [] x = refl
edge_keys edge (y ∷ l) zero = edge_key y edge
edge_keys edge (y ∷ l) (suc x) = edge_keys edge l x

module _ (p : Part) (m : List ℕ) where
  quiet_same : (c : ℕ) (op : Op) → op_writes op ≡ false → SameKeys p (one_step p m c op).part
  unfolding one_step
  quiet_same c op e = same_of p _ refl (set_key p.channels c _ (quiet_key (chan p c) (window c m) c op e))

  read_same : (reg : Ctrl) → SameKeys p (ctrl_read p reg).part
  unfolding SameKeys ctrl_read
  read_same Ctrlstatus x = refl
  read_same Ctrlintmsk x = refl
  read_same Reserved x = refl
  read_same DeviceId x = refl
  read_same Ctrlpreset x = refl
  read_same Nothing x = refl
  read_same Ctrlrdy x = refl

  edge_same : (edge : Edge) → SameKeys p (trigger_step p edge).part
  unfolding trigger_step
  edge_same edge = same_of p _ refl (edge_keys edge p.channels)

  -- BY WHOM A STEP CONCERNS
  served_one : (t : Target) → InPart t → AtMostOneKey p → AtMostOneKey (part_served p m t).part
  unfolding Only3 part_served target_served forgetting all_served
  served_one (One (Write a v) c) low h = only_one c (one_step (forgotten p c) m c (Write a v)).part (write-only p m a v c low)
  served_one (One (Read a) c) low h = same_one p (one_step p m c (Read a)).part (quiet_same c (Read a) refl) h
  served_one (One (Wire e) c) low h = same_one p (one_step p m c (Wire e)).part (quiet_same c (Wire e) refl) h
  served_one (All (CtrlWrite reg v)) low h = only_one 3 (ctrl_put (forgotten p 3) reg v).part (put_only p m reg v)
  served_one (All (CtrlRead reg)) low h = same_one p (ctrl_read p reg).part (read_same reg) h
  served_one (All (AllTrigger edge)) low h = same_one p (trigger_step p edge).part (edge_same edge) h
  served_one (All (AllReset d)) low h = only_one 3 (fresh_part d) (fresh-only d 3)
  served_one (All Beyond) low h = h

  OneLeft : PartStepped → Type 0
  OneLeft r = AtMostOneKey r.part

  -- NO STEP LEADS TO TWO KEYS
  pub step_one_key : (s : Step) → AtMostOneKey p → AtMostOneKey (part_step p m s).part
  unfolding OneLeft part_step
  step_one_key s h = pick_holds OneLeft (accepts p (length m)) (λ _. served_one (target_of s) (in_part s) h) (λ _. h)

pub fresh-one_key : (d : Device) → AtMostOneKey (fresh_part d)
fresh-one_key d = only_one 3 (fresh_part d) (fresh-only d 3)
