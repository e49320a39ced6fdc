-- The tags are those that document 02 prints.
use Rattle.std.specs.Prelude.{ℕ, zero, suc, ◌+◌, Bool, true, false, List, [], ◌∷◌, ◌++◌, ◌≡◌, refl, eqb, if◌then◌else◌}
use Rattle.rules.specs.declared.wires.Action.TheVariants.{Nothing, S, R, D, C, A, Np, Nr, P}
use Rattle.rules.specs.declared.wires.Event.TheVariants.{Ninth, Byte, Tick, Stop, Sda, Scl, Ill, Sent}
use Rattle.rules.specs.declared.wires.Level.TheVariants.{Low, High}
use Rattle.rules.specs.declared.tags.Tag.{Tag}
use Rattle.rules.specs.Tags.{tag, action_tag, event_tag}

-- the document's list, with the byte v where one is carried: S, R, D, C, A, NP, NR, P, ACK, BYTE, NACK, TICK, STOP, SDA, SCL, ILL, SENT; before it nothing
abbrev pub listed : ℕ → List Tag
listed v =
    action_tag Nothing
    ∷ action_tag (S v) ∷ action_tag (R v) ∷ action_tag (D v) ∷ action_tag C ∷ action_tag A ∷ action_tag Np ∷ action_tag (Nr v) ∷ action_tag P
    ∷ event_tag (Ninth Low) ∷ event_tag (Byte v) ∷ event_tag (Ninth High) ∷ event_tag Tick ∷ event_tag Stop ∷ event_tag Sda ∷ event_tag Scl ∷ event_tag Ill ∷ event_tag Sent ∷ []

abbrev pub is_in : ℕ → List ℕ → Bool
is_in k [] = false
is_in k (x ∷ l) = if eqb k x then true else is_in k l

-- kinds 1, 2, 3, 7 and 10 carry a value, the others 0
abbrev pub carried : ℕ → ℕ → ℕ
carried v k = if is_in k (1 ∷ 2 ∷ 3 ∷ 7 ∷ 10 ∷ []) then v else 0

-- n tags, of the kinds k, k + 1 and so on
abbrev pub numbered : ℕ → ℕ → ℕ → List Tag
numbered v k zero = []
numbered v k (suc n) = tag k (carried v k) ∷ numbered v (k + 1) n

-- the first of the list is 1, and nothing is 0; SENT is 20
pub as_printed : (v : ℕ) → listed v ≡ numbered v 0 17 ++ numbered v 20 1
as_printed v = refl
