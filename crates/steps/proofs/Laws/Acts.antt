-- An action of one channel alone, channel by channel.
use Rattle.std.specs.Prelude.{ℕ, zero, suc, ◌<◌, [], ◌∷◌, ◌≡◌, refl, eqb}
use Rattle.std.proofs.Common.{not-suc-le-zero, le_of_suc-le-suc}
use Rattle.rules.specs.declared.wires.Action.{Action}
use Rattle.steps.specs.Answer.{act_if, only_at}

pub only_at_lem : (c : ℕ) (a : Action) → c < 3 → (act_if (eqb c 0) a ∷ act_if (eqb c 1) a ∷ act_if (eqb c 2) a ∷ []) ≡ only_at c a
unfolding act_if
only_at_lem zero a h = refl
only_at_lem (suc zero) a h = refl
only_at_lem (suc (suc zero)) a h = refl
only_at_lem (suc (suc (suc n))) a h = absurd (not-suc-le-zero (le_of_suc-le-suc (le_of_suc-le-suc (le_of_suc-le-suc h))))
