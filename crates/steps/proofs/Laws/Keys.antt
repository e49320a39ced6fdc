-- What a step leaves of the keys: all, or all but those that its write forgets.
use Rattle.std.specs.Prelude.{ℕ}
use Rattle.laws.specs.Cases.{pick_holds}
use Rattle.steps.specs.declared.map.Target.{Target}
use Rattle.steps.specs.declared.map.Target.TheVariants.{One, All}
use Rattle.steps.specs.Keys.{op_writes, wide_writes, write_forgets}

-- what holds of x, and of x with every key forgotten but one, holds of what any step leaves
pub left_of_lem : {A : Type 0} (P : A → Type 0) (but : A → ℕ → A) (x : A) → P x → ((c : ℕ) → P (but x c)) → (t : Target) → P (write_forgets but t x)
left_of_lem P but x h f (One op c) = pick_holds P (op_writes op) (λ _. f c) (λ _. h)
left_of_lem P but x h f (All t) = pick_holds P (wide_writes t) (λ _. f 3) (λ _. h)
