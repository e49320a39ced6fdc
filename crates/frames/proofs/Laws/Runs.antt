-- A frame's steps, one after another: by induction, what one step does.
use Rattle.std.specs.Prelude.{ℕ, zero, suc, ◌+◌, ◌<◌, ◌≤◌, Bool, not, ◌≡◌, eqb, ltb, length, get_or, if◌then◌else◌}
use Rattle.std.proofs.Math.Bool.{true, false}
use mathlib.Core.List.{List, [], ◌∷◌}
use Rattle.std.proofs.Math.Path.{refl}
use Rattle.std.proofs.Common.{sym, ◌∙◌, ap, subst, arith}
use borrow.Author.Tests.{ltb-true, ltb-false, eqb-true, eqb-false, eq-eqb, ne_eqb}
use Rattle.laws.specs.Cases.{pick_holds}
use Rattle.rules.specs.Tables.{start_of, reads_of}
use Rattle.rules.proofs.Laws.Tables.{first_from}
use Rattle.rules.specs.declared.wires.Action.{Action}
use Rattle.rules.specs.declared.wires.Action.TheVariants.{Nothing, S, R, D, C, A, Np, Nr, P}
use Rattle.steps.specs.declared.map.Target.{Target}
use Rattle.steps.specs.declared.answer.PartAnswer.{PartAnswer}
use Rattle.steps.specs.Facts.{InPart}
use Rattle.channel.specs.State.{Served, count_of}
use Rattle.channel.specs.Wires.{slave_of, length_of, bytes_of}
use Rattle.channel.proofs.Laws.Range.{range_count, range_frame}
use Rattle.part.specs.Step.{part_served, part_stored}
use Rattle.part.proofs.Laws.Range.{accepts-whole, chan-in_range}
use Rattle.mixes.specs.Mix.{Machine, ends}
use Rattle.independent.specs.Statement.{State, Accepted}
use Rattle.frames.specs.Wire.{Entry, Slaves, Watch, cost_of, fault_of, spent, faults, ends_of, watch_after, data_heard, one_of, with_data, sent, Carries}
use Rattle.frames.specs.Deeds.{runs_of, heard_by, resets_by, begins_by}
use Rattle.frames.specs.Statement.{channel_of, buffer_of, slaves_of, entry_at, log_of, frame_of, runs_on, until_next, Momentary}
use Rattle.frames.proofs.Laws.Behind.{left_of, Watching, gain, Paced}
use Rattle.frames.proofs.Laws.Goes.{WritesKept}
use Rattle.frames.proofs.Laws.Steps.{Under}
use Rattle.frames.proofs.Laws.Asks.{runs_unbegun}
use Rattle.frames.proofs.Laws.View.{felt, seen, same_heard, felt_goes}

-- ---- the logger from entry to entry: at the same transaction, or at a later one
data Moves (lens : List ℕ) (w v : Watch) (a : Action) : Type 0 where
  same : v.at ≡ w.at → v.given ≡ w.given + gain true a → v.given ≤ get_or lens (v.at + 1) 0 → Moves lens w v a
  next : w.at < v.at → v.given ≡ 0 → gain true a ≡ 0 → Moves lens w v a

moves : (sla : Slaves) (lens m : List ℕ) (w : Watch) (a : Action) → w.given ≤ get_or lens (w.at + 1) 0 → Carries sla lens m w a → Moves lens w (watch_after sla lens w a) a
moves sla lens m w Nothing g x = same refl (omega arith) g
moves sla lens m w (S z) g x = absurd x
moves sla lens m w (R z) g x = let f = first_from sla.kind sla.table lens (w.at + 1) (get_or lens 0 0) in next (omega (arith, f)) refl refl
moves sla lens m w (D b) g x = same refl refl (let h = x.1 in omega (arith, h))
moves sla lens m w C g x = same refl (omega arith) g
moves sla lens m w A g x = same refl (omega arith) g
moves sla lens m w Np g x = same refl (omega arith) g
moves sla lens m w (Nr z) g x = let f = first_from sla.kind sla.table lens (w.at + 1) (get_or lens 0 0) in next (omega (arith, f)) refl refl
moves sla lens m w P g x = same refl (omega arith) g

-- the bytes sent so far, at the next transaction or at the same
paced_on : (sla : Slaves) (lens counts : List ℕ) (w v : Watch) (a : Action) → Moves lens w v a
    → Paced sla counts w.at (w.given + gain true a) → ((k : ℕ) → w.at < k → get_or counts k 0 ≡ 0) → Paced sla counts v.at v.given
paced_on sla lens counts w v a (same p q r) h z = rw (p, q) h
paced_on sla lens counts w v a (next p q r) h z = λ e. let y = z v.at p in rw (q, y) (omega arith, omega arith)

given_on : (lens : List ℕ) (w v : Watch) (a : Action) → Moves lens w v a → v.given ≤ get_or lens (v.at + 1) 0
given_on lens w v a (same p q r) = r
given_on lens w v a (next p q r) = rw q (omega arith)

at_on : (lens : List ℕ) (w v : Watch) (a : Action) → Moves lens w v a → w.at ≤ v.at
at_on lens w v a (same p q r) = omega (arith, p)
at_on lens w v a (next p q r) = omega (arith, p)

-- at a later transaction nothing of it was sent yet
next_given : (lens : List ℕ) (w v : Watch) (a : Action) → Moves lens w v a → w.at < v.at → (v.given ≡ 0) × (gain true a ≡ 0)
next_given lens w v a (same p q r) h = absurd (omega (arith, p, h))
next_given lens w v a (next p q r) h = (q, r)

same_given : (lens : List ℕ) (w v : Watch) (a : Action) → Moves lens w v a → v.at ≡ w.at → v.given ≡ w.given + gain true a
same_given lens w v a (same p q r) e = q
same_given lens w v a (next p q r) e = absurd (omega (arith, p, e))

one_other : (heard : Bool) (at k : ℕ) → (at ≡ k → ⊥) → one_of heard at k ≡ 0
unfolding one_of
one_other heard at k ne = pick_holds (λ (x : ℕ). x ≡ 0) heard (λ _. rw (ne_eqb at k ne) refl) (λ _. refl)

-- ---- the bytes of a write: l follow n others; they are fetched from the buffer in order, and all are as many as are counted, or one more
pub record Fetched (lens m : List ℕ) (k n : ℕ) (l : List ℕ) (count : ℕ) : Type 0 where
  pub fits : n + length l ≤ get_or lens (k + 1) 0
  pub bytes : (j : ℕ) → j < length l → get_or l j 0 ≡ get_or m (start_of lens k + (n + j)) 0
  pub least : count ≤ n + length l
  pub most : n + length l ≤ count + 1

gain_none : (a : Action) → gain false a ≡ 0
gain_none Nothing = refl
gain_none (S x) = refl
gain_none (R x) = refl
gain_none (D b) = refl
gain_none C = refl
gain_none A = refl
gain_none Np = refl
gain_none (Nr x) = refl
gain_none P = refl

gain_here : (at k : ℕ) (a : Action) → at ≡ k → gain (eqb at k) a ≡ gain true a
gain_here at k a e = rw (eq-eqb at k e)

gain_other : (at k : ℕ) (a : Action) → (at ≡ k → ⊥) → gain (eqb at k) a ≡ 0
gain_other at k a ne = rw (ne_eqb at k ne) (gain_none a)

module _ (lens m : List ℕ) (k n count : ℕ) where
  fetched_more : (x : ℕ) (l : List ℕ) → x ≡ get_or m (start_of lens k + n) 0 → Fetched lens m k (n + 1) l count → Fetched lens m k n (x ∷ l) count
  fetched_more x l e f = record {
    fits = let y = f.fits in omega (arith, y);
    bytes = go;
    least = let y = f.least in omega (arith, y);
    most = let y = f.most in omega (arith, y);
  }
    where
      go : (j : ℕ) → j < length (x ∷ l) → get_or (x ∷ l) j 0 ≡ get_or m (start_of lens k + (n + j)) 0
      go zero h = let z : n + 0 ≡ n = omega arith in rw z e
      go (suc j) h = let z : n + suc j ≡ (n + 1) + j = omega arith in rw z (f.bytes j (omega (arith, h)))

  none_more : (l : List ℕ) → Fetched lens m k (n + 0) l count → Fetched lens m k n l count
  none_more l f = let z : n + 0 ≡ n = omega arith in rw z at f

  -- one entry more
  data_more : (sla : Slaves) (w : Watch) (here : Bool) (a : Action) (l : List ℕ) → (here ≡ true → (w.at ≡ k) × (n ≡ w.given)) → Carries sla lens m w a
      → Fetched lens m k (n + gain here a) l count → Fetched lens m k n (with_data here a l) count
  data_more sla w here Nothing l h x f = none_more l f
  data_more sla w here (S z) l h x f = none_more l f
  data_more sla w here (R z) l h x f = none_more l f
  data_more sla w true (D b) l h x f = let q = h refl in fetched_more b l (let e = x.2 in rw (← q.0, q.1) e) f
  data_more sla w false (D b) l h x f = none_more l f
  data_more sla w here C l h x f = none_more l f
  data_more sla w here A l h x f = none_more l f
  data_more sla w here Np l h x f = none_more l f
  data_more sla w here (Nr z) l h x f = none_more l f
  data_more sla w here P l h x f = none_more l f

-- the buffer's bytes of write k are those of the state before
fetched_kept : (lens m m' : List ℕ) (k n count : ℕ) (l : List ℕ) → ((j : ℕ) → j < get_or lens (k + 1) 0 → get_or m' (start_of lens k + j) 0 ≡ get_or m (start_of lens k + j) 0)
    → Fetched lens m' k n l count → Fetched lens m k n l count
fetched_kept lens m m' k n count l h f = record {
  fits = f.fits;
  bytes = λ j i. f.bytes j i ∙ h (n + j) (let x = f.fits in omega (arith, x, i));
  least = f.least;
  most = f.most;
}

-- before, at or behind a transaction
data Order (at k : ℕ) : Type 0 where
  ahead : at < k → Order at k
  here : at ≡ k → Order at k
  behind : k < at → Order at k

order : (at k : ℕ) → Order at k
order at k = go (ltb at k) refl (eqb at k) refl
  where
    go : (x : Bool) → ltb at k ≡ x → (y : Bool) → eqb at k ≡ y → Order at k
    go true e y q = ahead (ltb-true at k e)
    go false e true q = here (eqb-true at k q)
    go false e false q = behind (let h = ltb-false at k e in let g = eqb-false at k q in omega (arith, h, g))

-- ---- a machine whose steps are the part's
pub record Follows {A : Type 0} (M : Machine State A PartAnswer) (aim : A → Target) : Type 0 where
  pub concerns : (a : A) → InPart (aim a)
  pub keeps : (s : State) (a : A) → Accepted s → Accepted (M.after s a)
  pub after : (s : State) (a : A) → Accepted s
      → M.after s a ≡ record { part = (part_served s.part s.memory (aim a)).part; memory = part_stored s.part s.memory (aim a) }
  pub actions : (s : State) (a : A) → Accepted s → (M.answer s a).actions ≡ (part_served s.part s.memory (aim a)).answer.actions
  pub hears : (s : State) (a : A) (c : ℕ) → Accepted s
      → heard_by c (aim a) (M.answer s a).number ≡ heard_by c (aim a) (part_served s.part s.memory (aim a)).answer.number

-- how many events the frame of channel c can still take
abbrev pub left_at : ℕ → State → ℕ
left_at c s = left_of (channel_of c s).head.walk.phase (channel_of c s).tranconfig (channel_of c s).bytecount

-- two choices by one test
pub both_hold : {A B : Type 0} (Q : A → B → Type 0) (b : Bool) {x y : A} {u v : B} → (b ≡ true → Q x u) → (b ≡ false → Q y v) → Q (if b then x else y) (if b then u else v)
both_hold Q true f g = f refl
both_hold Q false f g = g refl

module _ {A : Type 0} (M : Machine State A PartAnswer) (aim : A → Target) (f : Follows M aim) (c : ℕ) (low : c < 3) where
  abbrev entry : State → A → Entry
  entry s a = entry_at M aim c s a

  abbrev felt_at : State → A → Served
  felt_at s a = felt s.part (buffer_of c s) c (aim a)

  -- a step of the machine, as channel c feels it
  pub record Feels (s : State) (a : A) (d : Served) : Type 0 where
    pub accepted : Accepted (M.after s a)
    pub size : length (M.after s a).part.channels ≡ length s.part.channels
    pub is : channel_of c (M.after s a) ≡ d.stepped.channel
    pub bytes : buffer_of c (M.after s a) ≡ d.bytes
    pub action : (entry s a).action ≡ d.stepped.answer.action
    pub heard : (entry s a).heard ≡ heard_by c (aim a) d.stepped.answer.number

  pub feels : (s : State) (a : A) → Accepted s → c < length s.part.channels → resets_by c s.part (aim a) ≡ false → Feels s a (felt_at s a)
  feels s a acc inside e =
      let wh = accepts-whole s.part s.memory acc in
      let v = seen s.part s.memory c wh low inside (aim a) (f.concerns a) e in
      record {
        accepted = f.keeps s a acc;
        size = rw (f.after s a acc) v.size;
        is = rw (f.after s a acc) v.is;
        bytes = rw (f.after s a acc) v.bytes;
        action = rw (f.actions s a acc) v.action;
        heard = f.hears s a c acc ∙ same_heard s.part s.memory c wh low inside (aim a);
      }

  -- what holds before and after each step of a frame
  pub record Holding (s : State) (w : Watch) : Type 0 where
    pub accepted : Accepted s
    pub inside : c < length s.part.channels
    pub wide : length (channel_of c s).bytecount ≡ 64
    pub watching : Watching (channel_of c s).head.walk.phase (channel_of c s).bytecount w
    pub given : w.given ≤ length_of (channel_of c s) w.at
    pub paced : Paced (slaves_of (channel_of c s)) (channel_of c s).bytecount w.at w.given
    pub clear : (k : ℕ) → w.at < k → bytes_of (channel_of c s) k ≡ 0

  abbrev watch_on : State → Watch → A → Watch
  watch_on s w a = watch_after (slaves_of (channel_of c s)) (channel_of c s).tranconfig w (entry s a).action

  -- one step of a frame
  pub record One (s : State) (w : Watch) (a : A) : Type 0 where
    pub holding : Holding (M.after s a) (watch_on s w a)
    pub slas : slaves_of (channel_of c (M.after s a)) ≡ slaves_of (channel_of c s)
    pub lengths : (channel_of c (M.after s a)).tranconfig ≡ (channel_of c s).tranconfig
    pub left : left_at c (M.after s a) + (cost_of (entry s a).heard + fault_of (entry s a).heard) ≤ left_at c s
    pub counts : (k : ℕ) → bytes_of (channel_of c (M.after s a)) k ≡ bytes_of (channel_of c s) k + one_of (data_heard w (entry s a).heard) w.at k
    pub paced : Paced (slaves_of (channel_of c s)) (channel_of c (M.after s a)).bytecount w.at (w.given + gain true (entry s a).action)
    pub moment : Carries (slaves_of (channel_of c s)) (channel_of c s).tranconfig (buffer_of c s) w (entry s a).action
    pub kept : WritesKept (channel_of c s) (buffer_of c s) (buffer_of c (M.after s a))
    pub runs : runs_of (channel_of c (M.after s a)).head.walk.phase ≡ not (ends_of (entry s a).heard)
    pub unreset : resets_by c s.part (aim a) ≡ false
    pub unbegun : begins_by c s.part (aim a) ≡ false

  pub one : (s : State) (w : Watch) (a : A) → Holding s w → runs_of (channel_of c s).head.walk.phase ≡ true → resets_by c s.part (aim a) ≡ false → One s w a
  one s w a h r e =
      let t = feels s a h.accepted h.inside e in
      let wh = accepts-whole s.part s.memory h.accepted in
      let ranged = chan-in_range s.part c wh.ranged in
      let u : Under (channel_of c s) w (channel_of c s).head.walk.phase = record {
        at = refl;
        few = range_count (channel_of c s) ranged;
        wide = h.wide;
        watching = h.watching;
        frame = range_frame (channel_of c s) ranged;
        runs = r;
      } in
      let g = felt_goes s.part (buffer_of c s) c low (aim a) e w u in
      let slas : slaves_of (channel_of c (M.after s a)) ≡ slaves_of (channel_of c s) = rw t.is g.slas in
      let moment : Carries (slaves_of (channel_of c s)) (channel_of c s).tranconfig (buffer_of c s) w (entry s a).action = rw t.action g.moment in
      let counts : (k : ℕ) → bytes_of (channel_of c (M.after s a)) k ≡ bytes_of (channel_of c s) k + one_of (data_heard w (entry s a).heard) w.at k = λ k. rw (t.is, t.heard) (g.counts k) in
      let paced : Paced (slaves_of (channel_of c s)) (channel_of c (M.after s a)).bytecount w.at (w.given + gain true (entry s a).action) = rw (t.is, t.action) (g.paced h.paced) in
      let v = moves (slaves_of (channel_of c s)) (channel_of c s).tranconfig (buffer_of c s) w (entry s a).action h.given moment in
      let clear : (k : ℕ) → w.at < k → bytes_of (channel_of c (M.after s a)) k ≡ 0 = λ k q.
      let x = h.clear k q in
      let y = one_other (data_heard w (entry s a).heard) w.at k (λ e. omega (arith, e, q)) in
      let z = counts k in omega (arith, x, y, z) in
      let later = at_on (channel_of c s).tranconfig w _ _ v in
      record {
        holding = record {
          accepted = t.accepted;
          inside = rw t.size h.inside;
          wide = rw t.is (g.width ∙ h.wide);
          watching = rw (t.is, t.action) g.watch;
          given = rw (t.is, g.lengths) (given_on (channel_of c s).tranconfig w _ _ v);
          paced =
              subst (λ (x : Slaves). Paced x (channel_of c (M.after s a)).bytecount (watch_on s w a).at (watch_on s w a).given) (sym slas)
              (paced_on (slaves_of (channel_of c s)) (channel_of c s).tranconfig (channel_of c (M.after s a)).bytecount w _ _ v paced clear);
          clear = λ k q. clear k (omega (arith, later, q));
        };
        slas = slas;
        lengths = rw t.is g.lengths;
        left = rw (t.is, g.lengths, t.heard) g.left;
        counts = counts;
        paced = paced;
        moment = moment;
        kept = rw t.bytes g.kept;
        runs = rw (t.is, t.heard) g.runs;
        unreset = e;
        unbegun = runs_unbegun c s.part (aim a) r;
      }

  -- ---- by induction on the frame's steps; b tells whether it runs on
  along : (Q : State → Watch → List A → Bool → Type 0)
      → ((s : State) (w : Watch) (b : Bool) → Holding s w → runs_of (channel_of c s).head.walk.phase ≡ b → Q s w [] b)
      → ((s : State) (w : Watch) (a : A) (x : List A) (b : Bool) → Holding s w → One s w a → Q (M.after s a) (watch_on s w a) x b → Q s w (a ∷ x) b)
      → (l : List A) (s : State) (w : Watch) → Holding s w → runs_of (channel_of c s).head.walk.phase ≡ true → Q s w (frame_of M aim c s l) (runs_on M aim c s l)
  unfolding frame_of runs_on
  along Q none more [] s w h r = none s w true h r
  along Q none more (a ∷ l) s w h r =
      both_hold (Q s w) (resets_by c s.part (aim a))
      (λ _. none s w true h r)
      (λ e. let o = one s w a h r e in
      more s w a _ _ h o
      (both_hold (Q (M.after s a) (watch_on s w a)) (ends_of (entry s a).heard)
      (λ t. none _ _ false o.holding (let x = o.runs in rw t at x))
      (λ t. along Q none more l (M.after s a) (watch_on s w a) o.holding (let x = o.runs in rw t at x))))

  -- ---- the bound: what was spent and what is left at the end is no more than what was left at the start
  Bounded : State → Watch → List A → Bool → Type 0
  Bounded s w x b = spent (log_of M aim c s x) + faults (log_of M aim c s x) + left_at c (ends M s x) ≤ left_at c s

  pub bounded : (l : List A) (s : State) (w : Watch) → Holding s w → runs_of (channel_of c s).head.walk.phase ≡ true
      → spent (log_of M aim c s (frame_of M aim c s l)) + faults (log_of M aim c s (frame_of M aim c s l)) ≤ left_at c s
  unfolding Bounded
  bounded l s w h r =
      let x = along Bounded (λ s w b h r. omega arith) (λ s w a x b h o i. let y = o.left in omega (arith, i, y)) l s w h r in omega (arith, x)

  -- ---- the state at the end
  Reached : State → Watch → List A → Bool → Type 0
  Reached s w x b = Accepted (ends M s x) × (runs_of (channel_of c (ends M s x)).head.walk.phase ≡ b)

  pub reached : (l : List A) (s : State) (w : Watch) → Holding s w → runs_of (channel_of c s).head.walk.phase ≡ true
      → Accepted (ends M s (frame_of M aim c s l)) × (runs_of (channel_of c (ends M s (frame_of M aim c s l))).head.walk.phase ≡ runs_on M aim c s l)
  unfolding Reached
  reached = along Reached (λ s w b h r. (h.accepted, r)) (λ s w a x b h o i. i)

  -- ---- no step of the frame begins one or resets the channel
  Within : State → Watch → List A → Bool → Type 0
  Within s w x b = until_next M aim c s x ≡ x

  pub within : (l : List A) (s : State) (w : Watch) → Holding s w → runs_of (channel_of c s).head.walk.phase ≡ true
      → until_next M aim c s (frame_of M aim c s l) ≡ frame_of M aim c s l
  unfolding Within until_next
  within = along Within (λ s w b h r. refl) (λ s w a x b h o i. rw (o.unreset, o.unbegun) (ap (λ (y : List A). a ∷ y) i))

  -- ---- the moment of each D
  Moments : State → Watch → List A → Bool → Type 0
  Moments s w x b = Momentary M aim c (slaves_of (channel_of c s)) (channel_of c s).tranconfig s w x

  pub momentary : (l : List A) (s : State) (w : Watch) → Holding s w → runs_of (channel_of c s).head.walk.phase ≡ true
      → Momentary M aim c (slaves_of (channel_of c s)) (channel_of c s).tranconfig s w (frame_of M aim c s l)
  unfolding Moments
  momentary = along Moments (λ s w b h r. tt) (λ s w a x b h o i. (o.moment, rw (o.slas, o.lengths) at i))

  -- ---- the bytes of write k: n of them were sent before
  pub record Tally (k n : ℕ) (s : State) (w : Watch) : Type 0 where
    pub here : w.at ≡ k → n ≡ w.given
    pub ahead : w.at < k → n ≡ 0
    pub behind : k < w.at → (bytes_of (channel_of c s) k ≤ n) × (n ≤ bytes_of (channel_of c s) k + 1) × (n ≤ length_of (channel_of c s) k)

  Ordered : ℕ → State → Watch → List A → Bool → Type 0
  Ordered k s w x b = (n : ℕ) → k < count_of (channel_of c s) → reads_of (slave_of (channel_of c s) k) ≡ false → Tally k n s w
      → Fetched (channel_of c s).tranconfig (buffer_of c s) k n (sent (slaves_of (channel_of c s)) (channel_of c s).tranconfig k w (log_of M aim c s x)) (bytes_of (channel_of c (ends M s x)) k)

  -- another transaction's count and length are as they were
  count_other : (k : ℕ) (s : State) (w : Watch) (a : A) → One s w a → (w.at ≡ k → ⊥) → bytes_of (channel_of c (M.after s a)) k ≡ bytes_of (channel_of c s) k
  count_other k s w a o ne = let x = o.counts k in let y = one_other (data_heard w (entry s a).heard) w.at k ne in omega (arith, x, y)

  length_same : (k : ℕ) (s : State) (w : Watch) (a : A) → One s w a → length_of (channel_of c (M.after s a)) k ≡ length_of (channel_of c s) k
  length_same k s w a o = rw o.lengths

  tally_on : (k n : ℕ) (s : State) (w : Watch) (a : A) → Holding s w → One s w a → reads_of (slave_of (channel_of c s) k) ≡ false → Tally k n s w
      → Order w.at k → Moves (channel_of c s).tranconfig w (watch_on s w a) (entry s a).action
      → Tally k (n + gain (eqb w.at k) (entry s a).action) (M.after s a) (watch_on s w a)
  tally_on k n s w a h o d t (ahead q) x =
      let g = gain_other w.at k (entry s a).action (λ e. omega (arith, e, q)) in
      let p = t.ahead q in
      let b = count_other k s w a o (λ e. omega (arith, e, q)) in
      let r = h.clear k q in
      record {
        here = λ e. let y = (next_given (channel_of c s).tranconfig w _ _ x (omega (arith, e, q))).0 in omega (arith, p, g, y);
        ahead = λ _. omega (arith, p, g);
        behind = λ _. (omega (arith, p, b, g, r), omega (arith, p, g), omega (arith, p, g));
      }
  tally_on k n s w a h o d t (here q) x =
      let g = gain_here w.at k (entry s a).action q in
      let p = t.here q in
      let later = at_on (channel_of c s).tranconfig w _ _ x in
      let u : Paced (slaves_of (channel_of c s)) (channel_of c (M.after s a)).bytecount k (w.given + gain true (entry s a).action) = rw q at o.paced in
      let r = u d in
      let l = length_same k s w a o in
      let i : w.given ≤ length_of (channel_of c s) k = rw q at h.given in
      record {
        here = λ e. let y = same_given (channel_of c s).tranconfig w _ _ x (omega (arith, e, q)) in omega (arith, p, g, y);
        ahead = λ e. absurd (omega (arith, e, later, q));
        behind = λ e.
            let z = (next_given (channel_of c s).tranconfig w _ _ x (omega (arith, e, q))).1 in
            (omega (arith, p, g, r.0), omega (arith, p, g, r.1), omega (arith, p, g, z, l, i));
      }
  tally_on k n s w a h o d t (behind q) x =
      let g = gain_other w.at k (entry s a).action (λ e. omega (arith, e, q)) in
      let p = t.behind q in
      let later = at_on (channel_of c s).tranconfig w _ _ x in
      let b = count_other k s w a o (λ e. omega (arith, e, q)) in
      let l = length_same k s w a o in
      record {
        here = λ e. absurd (omega (arith, e, later, q));
        ahead = λ e. absurd (omega (arith, e, later, q));
        behind = λ _. (omega (arith, p.0, b, g), omega (arith, p.1, b, g), omega (arith, p.2, l, g));
      }

  -- nothing more is sent
  none_sent : (k n : ℕ) (s : State) (w : Watch) → Holding s w → reads_of (slave_of (channel_of c s) k) ≡ false → Tally k n s w → Order w.at k
      → Fetched (channel_of c s).tranconfig (buffer_of c s) k n [] (bytes_of (channel_of c s) k)
  none_sent k n s w h d t (ahead q) =
      let p = t.ahead q in
      let z = h.clear k q in
      record { fits = omega (arith, p); bytes = λ j i. absurd (omega (arith, i)); least = omega (arith, p, z); most = omega (arith, p) }
  none_sent k n s w h d t (here q) =
      let p = t.here q in
      let i : w.given ≤ length_of (channel_of c s) k = rw q at h.given in
      let r : (bytes_of (channel_of c s) k ≤ w.given) × (w.given ≤ bytes_of (channel_of c s) k + 1) = (rw q at h.paced) d in
      record { fits = omega (arith, p, i); bytes = λ j i. absurd (omega (arith, i)); least = omega (arith, p, r.0); most = omega (arith, p, r.1) }
  none_sent k n s w h d t (behind q) =
      let p = t.behind q in
      record { fits = omega (arith, p.2); bytes = λ j i. absurd (omega (arith, i)); least = omega (arith, p.0); most = omega (arith, p.1) }

  pub ordered : (k : ℕ) (l : List A) (s : State) (w : Watch) → Holding s w → runs_of (channel_of c s).head.walk.phase ≡ true
      → (n : ℕ) → k < count_of (channel_of c s) → reads_of (slave_of (channel_of c s) k) ≡ false → Tally k n s w
      → Fetched (channel_of c s).tranconfig (buffer_of c s) k n (sent (slaves_of (channel_of c s)) (channel_of c s).tranconfig k w (log_of M aim c s (frame_of M aim c s l)))
      (bytes_of (channel_of c (ends M s (frame_of M aim c s l))) k)
  unfolding Ordered
  ordered k =
      along (Ordered k)
      (λ s w b h r n q d t. none_sent k n s w h d t (order w.at k))
      (λ s w a x b h o i n q d t.
      let v = moves (slaves_of (channel_of c s)) (channel_of c s).tranconfig (buffer_of c s) w (entry s a).action h.given o.moment in
      let y = i (n + gain (eqb w.at k) (entry s a).action) (rw o.lengths q) (rw (ap (λ (x : Slaves). x.table) o.slas) d) (tally_on k n s w a h o d t (order w.at k) v) in
      data_more (channel_of c s).tranconfig (buffer_of c s) k n _ (slaves_of (channel_of c s)) w (eqb w.at k) (entry s a).action _
      (λ e. let z = eqb-true w.at k e in (z, t.here z)) o.moment
      (fetched_kept _ _ _ k _ _ _ (λ j p. o.kept k j q d p) (rw (o.slas, o.lengths) at y)))
