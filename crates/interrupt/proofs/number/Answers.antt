-- `interrupt::number` meets its contract.
use Prim.Native.Nat.{◌≤◌}
use mathlib.Core.Bool.{Bool, true, false}
use mathlib.Core.Path.{◌≡◌, refl}
use mir.Val.{bool_byte}
use native.Mathlib.Omega.{arith}
use Rattle.rules.specs.Registers.{weigh}
use Rattle.interrupt.proofs.number.Goals as goal

as_byte : (b : Bool) → (bool_byte b ≡ weigh b 1) × (bool_byte b ≤ 1)
unfolding weigh
as_byte true = (refl, omega arith)
as_byte false = (refl, omega arith)

pub returns : goal.returns
returns c = rw c.from.ensures (as_byte c.args.flag)
