-- What the hardware reset chose is left by every other step; and a UFm channel to which nobody ever answered stays so.
use Rattle.std.specs.Prelude.{ℕ, zero, suc, ◌<◌, Bool, true, List, [], ◌∷◌, map, ◌≡◌, refl, get_or, set}
use Rattle.std.proofs.Common.{sym, ap, arith}
use Rattle.laws.specs.Cases.{pick_holds}
use Rattle.rules.specs.declared.parts.Kind.{Kind}
use Rattle.rules.specs.declared.parts.Kind.TheVariants.{Fm}
use Rattle.rules.specs.declared.parts.Straps.{Straps}
use Rattle.rules.specs.Access.{key_after, resets_of}
use Rattle.rules.specs.Parts.{strapped, other_kind}
use Rattle.rules.specs.declared.wires.Edge.{Edge}
use Rattle.bounds.proofs.Laws.Range.{kinds_of}
use Rattle.steps.specs.declared.map.Op.{Op}
use Rattle.steps.specs.declared.map.Ctrl.{Ctrl}
use Rattle.steps.specs.declared.map.Ctrl.TheVariants.{Ctrlstatus, Ctrlintmsk, Reserved, DeviceId, Ctrlpreset, Nothing, Ctrlrdy}
use Rattle.steps.specs.Keys.{ctrlpreset_of}
use Rattle.channel.specs.declared.state.Channel.{Channel}
use Rattle.channel.proofs.Laws.Straps.{Keeps, still, fresh_unanswered, served_keeps, triggered_keeps}
use Rattle.part.specs.declared.state.Part.{Part}
use Rattle.part.specs.declared.state.PartStepped.{PartStepped}
use Rattle.part.specs.State.{blank, chan, window, fresh_part, device_of, with_key, keyless, forgotten}
use Rattle.part.specs.Registers.{ctrl_read, ctrl_written, ctrl_put}
use Rattle.part.specs.Step.{edge_channel, one_step, trigger_step, own_kinds}

-- ---- the channels, one by one: a relation of each to what stands in its place
module _ (R : Channel → Channel → Type 0) (same : (x : Channel) → R x x) where
  -- one anew
  pub set_related : (l : List Channel) (c : ℕ) (x : Channel) → R (get_or l c blank) x → (d : ℕ) → R (get_or l d blank) (get_or (set l c x) d blank)
  set_related [] c x r d = same blank
  set_related (y ∷ l) zero x r zero = r
  set_related (y ∷ l) zero x r (suc d) = same (get_or l d blank)
  set_related (y ∷ l) (suc c) x r zero = same y
  set_related (y ∷ l) (suc c) x r (suc d) = set_related l c x r d

  -- each by a function
  pub map_related : (f : Channel → Channel) → ((x : Channel) → R x (f x)) → (l : List Channel) (d : ℕ) → R (get_or l d blank) (get_or (map f l) d blank)
  map_related f r [] d = same blank
  map_related f r (x ∷ l) zero = r x
  map_related f r (x ∷ l) (suc d) = map_related f r l d

-- ---- where of each channel the same was chosen, the kinds are still one part's
abbrev pub SameStraps : Channel → Channel → Type 0
SameStraps x y = y.head.straps ≡ x.head.straps

pub kinds_kept : (p q : Part) → ((d : ℕ) → SameStraps (chan p d) (chan q d)) → own_kinds p ≡ true → own_kinds q ≡ true
kinds_kept p q k e = let kind : Straps → Kind = λ x. x.kind in rw (ap kind (k 0), ap kind (k 1), ap kind (k 2)) e

-- ---- the steps
pub keeps_same : (x : Channel) → Keeps x x
keeps_same x = still x x refl refl refl

keyless_keeps : (x : Channel) → Keeps x (keyless x)
keyless_keeps x = still x (keyless x) refl refl refl

-- what was chosen of a channel is its kind
same_kind : {x : Straps} {k : Kind} → x.kind ≡ k → strapped k ≡ x
same_kind e = ap strapped (sym e)

module _ (p : Part) where
  abbrev pub Kept : Part → Type 0
  Kept q = (d : ℕ) → d < 3 → Keeps (chan p d) (chan q d)

  abbrev Leaves : PartStepped → Type 0
  Leaves r = Kept r.part

  pub one_keeps : (m : List ℕ) (c : ℕ) (op : Op) → Leaves (one_step p m c op)
  unfolding one_step
  one_keeps m c op d _ = set_related Keeps keeps_same p.channels c _ (served_keeps (chan p c) (window c m) c op) d

  pub trigger_keeps : (edge : Edge) → Leaves (trigger_step p edge)
  unfolding trigger_step
  trigger_keeps edge d _ = map_related Keeps keeps_same (edge_channel edge) (λ x. triggered_keeps x edge) p.channels d

  pub read_keeps : (reg : Ctrl) → Leaves (ctrl_read p reg)
  unfolding ctrl_read
  read_keeps Ctrlstatus d _ = keeps_same (chan p d)
  read_keeps Ctrlintmsk d _ = keeps_same (chan p d)
  read_keeps Reserved d _ = keeps_same (chan p d)
  read_keeps DeviceId d _ = keeps_same (chan p d)
  read_keeps Ctrlpreset d _ = keeps_same (chan p d)
  read_keeps Nothing d _ = keeps_same (chan p d)
  read_keeps Ctrlrdy d _ = keeps_same (chan p d)

  written_keeps : (key : Bool) (reg : Ctrl) (v : ℕ) → Leaves (ctrl_written (with_key p key) reg v)
  unfolding ctrl_written
  written_keeps key Ctrlstatus v d _ = keeps_same (chan p d)
  written_keeps key Ctrlintmsk v d _ = keeps_same (chan p d)
  written_keeps key Reserved v d _ = keeps_same (chan p d)
  written_keeps key DeviceId v d _ = keeps_same (chan p d)
  written_keeps key Ctrlpreset v d _ = keeps_same (chan p d)
  written_keeps key Nothing v d _ = keeps_same (chan p d)
  written_keeps key Ctrlrdy v d _ = keeps_same (chan p d)

  -- CTRLPRESET gives back the part that was chosen
  fresh_keeps : own_kinds p ≡ true → Kept (fresh_part (device_of p))
  fresh_keeps e zero h = record { straps = same_kind (kinds_of _ _ _ e).0; unanswered = λ _ _. fresh_unanswered (strapped Fm) }
  fresh_keeps e (suc zero) h = record { straps = same_kind (kinds_of _ _ _ e).1; unanswered = λ _ _. fresh_unanswered (strapped (other_kind (device_of p))) }
  fresh_keeps e (suc (suc zero)) h = record { straps = same_kind (kinds_of _ _ _ e).2; unanswered = λ _ _. fresh_unanswered (strapped (other_kind (device_of p))) }
  fresh_keeps e (suc (suc (suc d))) h = absurd (omega (arith, h))

  pub put_keeps : own_kinds p ≡ true → (reg : Ctrl) (v : ℕ) → Leaves (ctrl_put p reg v)
  unfolding ctrl_put
  put_keeps e reg v =
      pick_holds Leaves (resets_of (ctrlpreset_of reg) v p.key) (λ _. fresh_keeps e) (λ _. written_keeps (key_after (ctrlpreset_of reg) v) reg v)

-- keys forgotten
pub forgotten_keeps : (p : Part) (c d : ℕ) → Keeps (chan p d) (chan (forgotten p c) d)
forgotten_keeps p c d = go p.channels c d
  where
    go : (l : List Channel) (c d : ℕ) → Keeps (get_or l d blank) (get_or (set (map keyless l) c (get_or l c blank)) d blank)
    go [] c d = keeps_same blank
    go (x ∷ l) zero zero = keeps_same x
    go (x ∷ l) zero (suc d) = map_related Keeps keeps_same keyless keyless_keeps l d
    go (x ∷ l) (suc c) zero = keyless_keeps x
    go (x ∷ l) (suc c) (suc d) = go l c d
