-- A step of the part as one channel sees it.
use Rattle.std.specs.Prelude.{ℕ, zero, suc, ◌+◌, ◌*◌, ◌<◌, ◌≤◌, Bool, true, false, List, [], ◌∷◌, ◌++◌, map, ◌≡◌, eqb, get_or, take, drop, if◌then◌else◌}
use Rattle.std.proofs.Math.Path.{refl, ap}
use Rattle.std.proofs.Common.{sym, ◌∙◌, subst, arith, not-suc-le-zero, le_of_suc-le-suc, eqb-true, eq-eqb, get_or-set_other, take_at, drop_at, length-take-le}
use Rattle.std.proofs.lemmas.Bool.{eqb-false}
use Rattle.std.proofs.Math.ListN.{length, length-set}
use Rattle.std.proofs.Math.Seq.{get_or-set_same}
use Rattle.laws.specs.Cases.{pick_holds}
use Rattle.rules.specs.declared.state.Phase.{Phase}
use Rattle.rules.specs.Access.{key_after, resets_of}
use Rattle.rules.specs.Numbers.{buffer_size}
use Rattle.rules.specs.declared.wires.Action.TheVariants.{Nothing}
use Rattle.rules.specs.declared.wires.Edge.{Edge}
use Rattle.steps.specs.declared.map.Op.{Op}
use Rattle.steps.specs.declared.map.Ctrl.{Ctrl}
use Rattle.steps.specs.declared.map.Ctrl.TheVariants.{Ctrlstatus, Ctrlintmsk, Reserved, DeviceId, Ctrlpreset, Nothing as Nowhere, Ctrlrdy}
use Rattle.steps.specs.declared.map.Target.{Target}
use Rattle.steps.specs.declared.map.Target.TheVariants.{One, All}
use Rattle.steps.specs.declared.map.Wide.{Wide}
use Rattle.steps.specs.declared.map.Wide.TheVariants.{CtrlWrite, CtrlRead, AllTrigger, AllReset, Beyond}
use Rattle.rules.specs.declared.wires.Action.{Action}
use Rattle.steps.specs.Facts.{InPart}
use Rattle.steps.specs.Keys.{ctrlpreset_of, op_writes}
use Rattle.steps.proofs.Laws.Keys.{left_of_lem}
use Rattle.steps.specs.Answer.{quiet}
use Rattle.head.specs.State.{plain}
use Rattle.channel.specs.declared.state.Channel.{Channel}
use Rattle.channel.specs.State.{Served, leaving, on}
use Rattle.channel.specs.Step.{served_by}
use Rattle.channel.specs.Wires.{triggered}
use Rattle.part.specs.declared.state.Part.{Part}
use Rattle.part.specs.declared.state.PartStepped.{PartStepped}
use Rattle.part.specs.Facts.{Whole}
use Rattle.part.specs.Registers.{ctrl_read, ctrl_written, ctrl_put, ctrl_store}
use Rattle.part.specs.State.{blank, chan, window, put_window, with_key, forgotten}
use Rattle.part.specs.Step.{edge_channel, edge_act, one_step, one_bytes, trigger_step, all_served, all_stored, target_served, target_stored, forgetting, part_served, part_stored}
use Rattle.part.proofs.Laws.Memory.{fits}
use Rattle.part.proofs.Laws.Kept.{one-length, left-whole}
use Rattle.part.proofs.Laws.Keys.{own_left_lem, other_left, size_left}
use Rattle.part.proofs.Laws.Apart.{one_others}
use Rattle.works.proofs.Laws.Keys.{rekeyed}
use Rattle.independent.proofs.Laws.Keys.{no}
use Rattle.frames.specs.Wire.{Heard, Watch}
use Rattle.frames.specs.Deeds.{runs_of, heard_by, all_resets, resets_by, asks_by}
use Rattle.frames.specs.Statement.{action_at}
use Rattle.frames.proofs.Laws.Goes.{Goes}
use Rattle.frames.proofs.Laws.Steps.{Under, own_goes, edge_goes, other_goes}
use Rattle.frames.proofs.Laws.Rests.{Outside, own_outside, edge_outside, same_outside, rekeyed_outside}

-- ---- a step of one channel is its own or another's
pub split : (c : ℕ) (Q : Target → Type 0) → ((op : Op) → Q (One op c)) → ((op : Op) (d : ℕ) → eqb d c ≡ false → Q (One op d)) → (op : Op) (d : ℕ) → Q (One op d)
split c Q own other op d = go (eqb d c) refl
  where
    go : (b : Bool) → eqb d c ≡ b → Q (One op d)
    go true e = subst (λ (x : ℕ). Q (One op x)) (sym (eqb-true d c e)) (own op)
    go false e = other op d e

own_eqb : (c : ℕ) → eqb c c ≡ true
own_eqb c = eq-eqb c c refl

-- ---- what a channel feels of a step: its own, a trigger edge, or nothing
abbrev pub unmoved : Channel → List ℕ → Served
unmoved c m = leaving m (on c (plain c.head))

abbrev pub felt_all : Channel → List ℕ → Wide → Served
felt_all c m (CtrlWrite reg v) = unmoved c m
felt_all c m (CtrlRead reg) = unmoved c m
felt_all c m (AllTrigger edge) = leaving m (triggered c edge)
felt_all c m (AllReset d) = unmoved c m
felt_all c m Beyond = unmoved c m

unfoldable pub felt_by : Channel → List ℕ → ℕ → Target → Served
felt_by c m number (One op d) = if eqb d number then served_by c m number op else unmoved c m
felt_by c m number (All t) = felt_all c m t

-- and before that its key may be forgotten
abbrev pub felt : Part → List ℕ → ℕ → Target → Served
felt p m c t = felt_by (chan (forgetting t p) c) m c t

-- channel c of the part q with the memory n and these actions is what d says
pub record Shows (c : ℕ) (q : Part) (n : List ℕ) (acts : List Action) (many : ℕ) (d : Served) : Type 0 where
  pub is : chan q c ≡ d.stepped.channel
  pub bytes : window c n ≡ d.bytes
  pub action : action_at c acts ≡ d.stepped.answer.action
  pub size : length q.channels ≡ many

-- ---- lists
map_at : {A B : Type 0} (f : A → B) (l : List A) (i : ℕ) (d : A) (e : B) → i < length l → get_or (map f l) i e ≡ f (get_or l i d)
map_at f [] i d e h = absurd (not-suc-le-zero h)
map_at f (x ∷ l) zero d e h = refl
map_at f (x ∷ l) (suc i) d e h = map_at f l i d e (le_of_suc-le-suc h)

map-length : {A B : Type 0} (f : A → B) (l : List A) → length (map f l) ≡ length l
map-length f [] = refl
map-length f (x ∷ l) = ap suc (map-length f l)

quiet_at : (c : ℕ) → action_at c quiet ≡ Nothing
quiet_at zero = refl
quiet_at (suc zero) = refl
quiet_at (suc (suc zero)) = refl
quiet_at (suc (suc (suc c))) = refl

-- a window that is put is there
window_same : (c : ℕ) (l m : List ℕ) → length l ≡ buffer_size → buffer_size * c + buffer_size ≤ length m → window c (put_window c l m) ≡ l
unfolding window put_window
window_same c l m e h =
    let k : length (take (buffer_size * c) m) ≡ buffer_size * c = length-take-le (buffer_size * c) m (omega (arith, h)) in
    rw (drop_at (take (buffer_size * c) m) (l ++ drop (buffer_size * c + buffer_size) m) (buffer_size * c) k) (take_at l (drop (buffer_size * c + buffer_size) m) buffer_size e)

-- ---- a step that is not refused by no. 9, of a part that has channel c
module _ (p : Part) (m : List ℕ) (c : ℕ) (whole : Whole p m) (low : c < 3) (inside : c < length p.channels) where
  abbrev Sees : PartStepped → List ℕ → Served → Type 0
  Sees r n d = Shows c r.part n r.answer.actions (length p.channels) d

  own : (op : Op) → Sees (one_step p m c op) (one_bytes p m c op) (served_by (chan p c) (window c m) c op)
  unfolding one_step one_bytes
  own op = record {
    is = get_or-set_same p.channels c _ blank inside;
    bytes = window_same c _ m (one-length p m whole c op low) (fits c m low whole.whole);
    action = get_or-set_same quiet c _ _ low;
    size = length-set p.channels c _;
  }

  other : (d : ℕ) (op : Op) → d < 3 → (d ≡ c → ⊥) → Sees (one_step p m d op) (one_bytes p m d op) (unmoved (chan p c) (window c m))
  unfolding one_step
  other d op h ne =
      let o = one_others p m d op whole h in
      record {
        is = o.records c ne;
        bytes = o.windows c ne;
        action = get_or-set_other quiet d c _ _ (λ e. ne (sym e)) ∙ quiet_at c;
        size = length-set p.channels d _;
      }

  -- one that leaves the channels
  left : (q : Part) → q.channels ≡ p.channels → Shows c q m quiet (length p.channels) (unmoved (chan p c) (window c m))
  left q e = record { is = ap (λ (l : List Channel). get_or l c blank) e; bytes = refl; action = quiet_at c; size = ap length e }

  written : (k : Bool) (reg : Ctrl) (v : ℕ) → Sees (ctrl_written (with_key p k) reg v) m (unmoved (chan p c) (window c m))
  unfolding ctrl_written
  written k Ctrlstatus v = left _ refl
  written k Ctrlintmsk v = left _ refl
  written k Reserved v = left _ refl
  written k DeviceId v = left _ refl
  written k Ctrlpreset v = left _ refl
  written k Nowhere v = left _ refl
  written k Ctrlrdy v = left _ refl

  put : (reg : Ctrl) (v : ℕ) → resets_of (ctrlpreset_of reg) v p.key ≡ false → Sees (ctrl_put p reg v) (ctrl_store p m reg v) (unmoved (chan p c) (window c m))
  unfolding ctrl_put ctrl_store
  put reg v e = rw e (written (key_after (ctrlpreset_of reg) v) reg v)

  read : (reg : Ctrl) → Sees (ctrl_read p reg) m (unmoved (chan p c) (window c m))
  unfolding ctrl_read
  read Ctrlstatus = left _ refl
  read Ctrlintmsk = left _ refl
  read Reserved = left _ refl
  read DeviceId = left _ refl
  read Ctrlpreset = left _ refl
  read Nowhere = left _ refl
  read Ctrlrdy = left _ refl

  edge : (e : Edge) → Sees (trigger_step p e) m (leaving (window c m) (triggered (chan p c) e))
  unfolding trigger_step
  edge e = record {
    is = map_at (edge_channel e) p.channels c blank blank inside;
    bytes = refl;
    action = map_at (edge_act e) p.channels c blank Nothing inside;
    size = map-length (edge_channel e) p.channels;
  }

  all : (t : Wide) → all_resets p t ≡ false → Sees (all_served p t) (all_stored p m t) (felt_all (chan p c) (window c m) t)
  unfolding all_served all_stored
  all (CtrlWrite reg v) e = put reg v e
  all (CtrlRead reg) e = read reg
  all (AllTrigger x) e = edge x
  all (AllReset d) e = no (sym e)
  all Beyond e = left _ refl

  -- a step served, that does not reset channel c
  SeenAt : Target → Type 0
  SeenAt t = InPart t → resets_by c p t ≡ false → Sees (target_served p m t) (target_stored p m t) (felt_by (chan p c) (window c m) c t)

  target_seen : (t : Target) → InPart t → resets_by c p t ≡ false → Sees (target_served p m t) (target_stored p m t) (felt_by (chan p c) (window c m) c t)
  unfolding SeenAt target_served target_stored felt_by resets_by
  target_seen (One op d) h e = split c SeenAt (λ op h e. rw (own_eqb c) (own op)) (λ op d q h e. rw q (other d op h (eqb-false d c q))) op d h e
  target_seen (All t) h e = all t e

  -- and what is heard of it
  HeardAt : Target → Type 0
  HeardAt t = heard_by c t (target_served p m t).answer.number ≡ heard_by c t (felt_by (chan p c) (window c m) c t).stepped.answer.number

  target_heard : (t : Target) → heard_by c t (target_served p m t).answer.number ≡ heard_by c t (felt_by (chan p c) (window c m) c t).stepped.answer.number
  unfolding HeardAt target_served heard_by felt_by one_step
  target_heard (One op d) = split c HeardAt (λ op. rw (own_eqb c)) (λ op d q. rw q) op d
  target_heard (All t) = refl

-- ---- WHAT A STEP FORGETS before it is served: nothing of channel c but its key, and the keys by which this step resets it are left
module _ (p : Part) (c : ℕ) where
  pub record Left (x : Channel) : Type 0 where
    pub key : Bool
    pub is : x ≡ rekeyed key (chan p c)

  same_left : Left (chan p c)
  same_left = record { key = (chan p c).head.key; is = refl }

  but_left : (d : ℕ) → Left (chan (forgotten p d) c)
  but_left d = go (eqb d c) refl
    where
      go : (b : Bool) → eqb d c ≡ b → Left (chan (forgotten p d) c)
      go true e = let q = eqb-true d c e in rw (q, own_left_lem p c) same_left
      go false e = record { key = false; is = other_left p d c (eqb-false d c e) }

  left_at : (t : Target) → Left (chan (forgetting t p) c)
  unfolding forgetting
  left_at = left_of_lem (λ (q : Part). Left (chan q c)) forgotten p same_left but_left

  pub left_size : (t : Target) → length (forgetting t p).channels ≡ length p.channels
  unfolding forgetting
  left_size = left_of_lem (λ (q : Part). length q.channels ≡ length p.channels) forgotten p refl (size_left p)

  left_own : (op : Op) → chan (forgetting (One op c) p) c ≡ chan p c
  unfolding forgetting
  left_own op = pick_holds (λ (q : Part). chan q c ≡ chan p c) (op_writes op) (λ _. own_left_lem p c) (λ _. refl)

  ResetsLeft : Target → Type 0
  ResetsLeft t = resets_by c (forgetting t p) t ≡ resets_by c p t

  pub resets-left : (t : Target) → resets_by c (forgetting t p) t ≡ resets_by c p t
  unfolding ResetsLeft forgetting resets_by
  resets-left (One op d) = split c ResetsLeft (λ op. rw (own_eqb c, left_own op)) (λ op d q. rw q) op d
  resets-left (All (CtrlWrite reg v)) = refl
  resets-left (All (CtrlRead reg)) = refl
  resets-left (All (AllTrigger x)) = refl
  resets-left (All (AllReset z)) = refl
  resets-left (All Beyond) = refl

  AsksLeft : Target → Type 0
  AsksLeft t = asks_by c (forgetting t p) t ≡ asks_by c p t

  asks_left : (t : Target) → asks_by c (forgetting t p) t ≡ asks_by c p t
  unfolding AsksLeft forgetting asks_by
  asks_left (One op d) = split c AsksLeft (λ op. rw (own_eqb c, left_own op)) (λ op d q. rw q) op d
  asks_left (All (CtrlWrite reg v)) = refl
  asks_left (All (CtrlRead reg)) = refl
  asks_left (All (AllTrigger x)) = refl
  asks_left (All (AllReset z)) = refl
  asks_left (All Beyond) = refl

-- A STEP THAT DOES NOT RESET CHANNEL c is what the channel feels
module _ (p : Part) (m : List ℕ) (c : ℕ) (whole : Whole p m) (low : c < 3) (inside : c < length p.channels) (t : Target) where
  within : c < length (forgetting t p).channels
  within = rw (left_size p c t) inside

  pub seen : InPart t → resets_by c p t ≡ false
      → Shows c (part_served p m t).part (part_stored p m t) (part_served p m t).answer.actions (length p.channels) (felt p (window c m) c t)
  unfolding part_served part_stored
  seen h e =
      let v = target_seen (forgetting t p) m c (left-whole p m t whole) low within t h (resets-left p c t ∙ e) in
      record { is = v.is; bytes = v.bytes; action = v.action; size = v.size ∙ left_size p c t }

  pub same_heard : heard_by c t (part_served p m t).answer.number ≡ heard_by c t (felt p (window c m) c t).stepped.answer.number
  unfolding part_served
  same_heard = target_heard (forgetting t p) m c (left-whole p m t whole) low within t

-- ---- what a channel feels, in a frame and outside one
module _ (p : Part) (m : List ℕ) (c : ℕ) (low : c < 3) where
  abbrev heard_in : Target → Heard
  heard_in t = heard_by c t (felt_by (chan p c) m c t).stepped.answer.number

  module _ (w : Watch) (u : Under (chan p c) w (chan p c).head.walk.phase) where
    GoesAt : Target → Type 0
    GoesAt t = resets_by c p t ≡ false → Goes (chan p c).head.walk.phase (chan p c) m w (heard_in t) (felt_by (chan p c) m c t)

    target_goes : (t : Target) → resets_by c p t ≡ false → Goes (chan p c).head.walk.phase (chan p c) m w (heard_in t) (felt_by (chan p c) m c t)
    unfolding GoesAt felt_by heard_by resets_by
    target_goes (One op d) e =
        split c GoesAt (λ op e. rw (own_eqb c) (own_goes (chan p c) m c w u op (rw (own_eqb c) at e))) (λ op d q e. rw q (other_goes (chan p c) m c w u)) op d e
    target_goes (All (CtrlWrite reg v)) e = other_goes (chan p c) m c w u
    target_goes (All (CtrlRead reg)) e = other_goes (chan p c) m c w u
    target_goes (All (AllTrigger x)) e = edge_goes (chan p c) m c w u x
    target_goes (All (AllReset z)) e = no (sym e)
    target_goes (All Beyond) e = other_goes (chan p c) m c w u

  module _ (calm : runs_of (chan p c).head.walk.phase ≡ false) where
    OutsideAt : Target → Type 0
    OutsideAt t = resets_by c p t ≡ false → Outside (chan p c) m (heard_in t) (felt_by (chan p c) m c t) (asks_by c p t)

    target_outside : (t : Target) → resets_by c p t ≡ false → Outside (chan p c) m (heard_in t) (felt_by (chan p c) m c t) (asks_by c p t)
    unfolding OutsideAt felt_by heard_by resets_by asks_by
    target_outside (One op d) e =
        split c OutsideAt (λ op e. rw (own_eqb c) (own_outside (chan p c) m c low calm op (rw (own_eqb c) at e))) (λ op d q e. rw q (same_outside (chan p c) m calm)) op d e
    target_outside (All (CtrlWrite reg v)) e = same_outside (chan p c) m calm
    target_outside (All (CtrlRead reg)) e = same_outside (chan p c) m calm
    target_outside (All (AllTrigger x)) e = edge_outside (chan p c) m calm x
    target_outside (All (AllReset z)) e = no (sym e)
    target_outside (All Beyond) e = same_outside (chan p c) m calm

-- ---- the key is nothing to a frame
module _ (k : Bool) (c : Channel) where
  under_rekeyed : (w : Watch) → Under c w c.head.walk.phase → Under (rekeyed k c) w c.head.walk.phase
  under_rekeyed w u = record { at = u.at; few = u.few; wide = u.wide; watching = u.watching; frame = u.frame; runs = u.runs }

  goes_rekeyed : (p : Phase) (m : List ℕ) (w : Watch) (h : Heard) (d : Served) → Goes p (rekeyed k c) m w h d → Goes p c m w h d
  goes_rekeyed p m w h d g = record {
    slas = g.slas;
    lengths = g.lengths;
    width = g.width;
    left = g.left;
    watch = g.watch;
    counts = g.counts;
    paced = g.paced;
    moment = g.moment;
    kept = g.kept;
    runs = g.runs;
    done = g.done;
  }

module _ (p : Part) (m : List ℕ) (c : ℕ) (low : c < 3) (t : Target) (e : resets_by c p t ≡ false) where
  abbrev heard : Heard
  heard = heard_by c t (felt p m c t).stepped.answer.number

  pub felt_goes : (w : Watch) → Under (chan p c) w (chan p c).head.walk.phase → Goes (chan p c).head.walk.phase (chan p c) m w heard (felt p m c t)
  felt_goes w u =
      let l = left_at p c t in
      let v = subst (λ (x : Channel). Under x w x.head.walk.phase) (sym l.is) (under_rekeyed l.key (chan p c) w u) in
      let g = target_goes (forgetting t p) m c low w v t (resets-left p c t ∙ e) in
      goes_rekeyed l.key (chan p c) _ m w heard (felt p m c t) (subst (λ (x : Channel). Goes x.head.walk.phase x m w heard (felt p m c t)) l.is g)

  pub felt_outside : runs_of (chan p c).head.walk.phase ≡ false → Outside (chan p c) m heard (felt p m c t) (asks_by c p t)
  felt_outside calm =
      let l = left_at p c t in
      let still = ap (λ (x : Channel). runs_of x.head.walk.phase) l.is ∙ calm in
      let o = target_outside (forgetting t p) m c low still t (resets-left p c t ∙ e) in
      rekeyed_outside l.key (chan p c) m heard (felt p m c t) (asks_by c p t)
      (subst (λ (x : Channel). Outside x m heard (felt p m c t) (asks_by c p t)) l.is (rw (asks_left p c t) at o))
