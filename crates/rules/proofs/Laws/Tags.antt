-- A tag is the event's whose own tag it is, and no other's.
use Rattle.std.specs.Prelude.{ℕ, Bool, true, false, List, [], ◌∷◌, Option, Some, None, ◌≡◌, refl, if◌then◌else◌}
use Rattle.std.proofs.Common.{sym, ap₂, arith, eqb-true, eq-eqb}
use Rattle.laws.specs.Cases.{both}
use Rattle.rules.specs.declared.wires.Event.{Event}
use Rattle.rules.specs.declared.wires.Event.TheVariants.{Ninth, Byte, Tick, Stop, Sda, Scl, Ill, Sent}
use Rattle.rules.specs.declared.wires.Level.TheVariants.{Low, High}
use Rattle.rules.specs.declared.tags.Tag.{Tag}
use Rattle.rules.specs.Tags.{tag, event_tag, same_tag, known_as, among, events_with, event_of}

-- ---- no other's

same_tag_lem : (t u : Tag) → same_tag t u ≡ true → u ≡ t
unfolding same_tag
same_tag_lem t u e = let b = both _ _ e in sym (ap₂ tag (eqb-true t.kind u.kind b.0) (eqb-true t.value u.value b.1))

none_known : (e : Event) → None ≡ Some e → ◌≡◌ {A = ℕ} 0 1
none_known e h = cc

known_known : (x e : Event) → Some x ≡ Some e → x ≡ e
known_known x e h = cc

chosen : (b : Bool) (t : Tag) (x e : Event) (r : Option Event) → (b ≡ true → event_tag x ≡ t) → (r ≡ Some e → event_tag e ≡ t) → (if b then Some x else r) ≡ Some e → event_tag e ≡ t
chosen true t x e r f g h = rw (← known_known x e h) (f refl)
chosen false t x e r f g h = g h

among-only : (t : Tag) (l : List Event) (e : Event) → among t l ≡ Some e → event_tag e ≡ t
unfolding known_as
among-only t [] e h = absurd (let z = none_known e h in omega (arith, z))
among-only t (x ∷ l) e h = chosen (same_tag t (event_tag x)) t x e (among t l) (same_tag_lem t (event_tag x)) (among-only t l e) h

pub event_only : (t : Tag) (e : Event) → event_of t ≡ Some e → event_tag e ≡ t
event_only t e h = among-only t (events_with t.value) e h

-- ---- its own

pub event_back : (e : Event) → event_of (event_tag e) ≡ Some e
unfolding known_as same_tag
event_back (Ninth Low) = refl
event_back (Ninth High) = refl
event_back (Byte b) = rw (eq-eqb b b refl) refl
event_back Tick = refl
event_back Stop = refl
event_back Sda = refl
event_back Scl = refl
event_back Ill = refl
event_back Sent = refl
