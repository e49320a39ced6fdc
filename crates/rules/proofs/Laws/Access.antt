-- What an access that is not refused may rely on.
use Rattle.std.specs.Prelude.{Bool, true, false, List, Option, Some, None, ◌≡◌, refl, ℕ, ◌<◌, ◌≤◌, ltb, if◌then◌else◌}
use Rattle.std.proofs.Common.{arith, ltb-true, ltb-false}
use Rattle.laws.specs.Cases.{not_refused, accepted, pick_holds}
use Rattle.std.specs.Bool.{then_some}
use Rattle.rules.specs.declared.state.Phase.{Phase}
use Rattle.rules.specs.Numbers.{buffer_size, done, locked, past_table, past_buffer, many_transactions}
use Rattle.rules.specs.Registers.{active_of}
use Rattle.rules.specs.Facts.{Configured}
use Rattle.rules.specs.Tables.{start_of, sum_of, configured_at}
use Rattle.rules.specs.Access.{busy_refusal, locked_of, past_refusal, too_many, sla_refusal, conf_refusal, place_refusal, sel_refusal, spot_of, spot_refusal, data_refusal}

pub not_busy : (p : Phase) → busy_refusal p ≡ 0 → active_of p ≡ false
unfolding busy_refusal
not_busy p e = (not_refused (active_of p) locked done (omega arith) e).0

pub not_past : (last at : ℕ) → past_refusal last at ≡ 0 → at ≤ last
unfolding past_refusal
not_past last at e = ltb-false last at (not_refused _ past_table done (omega arith) e).0

pub sla_open : (p : Phase) (at : ℕ) → sla_refusal p at ≡ 0 → (active_of p ≡ false) × (at ≤ 63)
unfolding sla_refusal
sla_open p at e = let r = not_refused (active_of p) locked _ (omega arith) e in (r.0, not_past 63 at r.1)

pub conf_open : (p : Phase) (at v : ℕ) → conf_refusal p at v ≡ 0 → (locked_of p at ≡ false) × (at ≤ 64) × (too_many at v ≡ false)
unfolding conf_refusal
conf_open p at v e =
    let r = not_refused (locked_of p at) locked _ (omega arith) e in
    let q = not_refused _ past_table _ (omega arith) r.1 in (r.0, ltb-false 64 at q.0, (not_refused _ many_transactions done (omega arith) q.1).0)

pub placed : (at : ℕ) → place_refusal at ≡ 0 → at < buffer_size
unfolding place_refusal
placed at e = ltb-true at buffer_size (accepted _ done past_buffer (omega arith) e).0

pub sel_open : (lens : List ℕ) (v : ℕ) → sel_refusal lens v ≡ 0 → (v ≤ 63) × (start_of lens v < buffer_size)
unfolding sel_refusal
sel_open lens v e = let r = not_refused _ past_buffer _ (omega arith) e in (ltb-false 63 v r.0, placed (start_of lens v) r.1)

-- what is found is configured: the finder promises it by this law, and whoever reads or writes there has it from here
found : (lens : List ℕ) (at : ℕ) → Configured lens (spot_of lens at)
unfolding spot_of configured_at
found lens at =
    pick_holds (Configured lens) (ltb at buffer_size) (λ t. pick_holds (Configured lens) (configured_at lens at) {x = Some at} {y = None} (λ u. (ltb-true at buffer_size t, ltb-true at (sum_of lens) u)) (λ _. tt)) (λ _. tt)

pub finds : (lens : List ℕ) (at : ℕ) (s : Option ℕ) → s ≡ spot_of lens at → (s ≡ spot_of lens at) × Configured lens s
finds lens at s e = (e, rw e (found lens at))

pub then_some_if : (b : Bool) (at : ℕ) → then_some b at ≡ (if b then Some at else None)
then_some_if true at = refl
then_some_if false at = refl

-- a place that is not refused is the one that was asked for
found_at : (lens : List ℕ) (at : ℕ) → spot_refusal (spot_of lens at) ≡ 0 → spot_of lens at ≡ Some at
unfolding spot_of
found_at lens at e =
    pick_holds (λ (s : Option ℕ). spot_refusal s ≡ 0 → s ≡ Some at) (ltb at buffer_size)
    (λ _. pick_holds (λ (s : Option ℕ). spot_refusal s ≡ 0 → s ≡ Some at) (configured_at lens at) (λ _ _. refl) (λ _ q. absurd (omega arith)))
    (λ _ q. absurd (omega arith))
    e

pub spot_open : (lens : List ℕ) (at : ℕ) → spot_refusal (spot_of lens at) ≡ 0 → Configured lens (Some at)
spot_open lens at e = rw (found_at lens at e) at (found lens at)

data_both : (p : Phase) (s : Option ℕ) → data_refusal p s ≡ 0 → (active_of p ≡ false) × (spot_refusal s ≡ 0)
unfolding data_refusal
data_both p s e = not_refused (active_of p) locked _ (omega arith) e

pub data_unlocked : (p : Phase) (s : Option ℕ) → data_refusal p s ≡ 0 → active_of p ≡ false
data_unlocked p s e = (data_both p s e).0

pub data_open : (p : Phase) (lens : List ℕ) (at : ℕ) → data_refusal p (spot_of lens at) ≡ 0 → Configured lens (Some at)
data_open p lens at e = spot_open lens at (data_both p _ e).1
