-- A channel that a step concerns is 0, 1 or 2.
use Rattle.std.specs.Prelude.{ℕ, ◌<◌, ◌≡◌, ltb}
use Rattle.std.proofs.Common.{subst, ltb-true}
use Rattle.laws.specs.Cases.{pick_holds}
use Rattle.steps.specs.declared.map.Op.{Op}
use Rattle.steps.specs.declared.map.Step.{Step}
use Rattle.steps.specs.declared.map.Step.TheVariants.{Write, Read, Wire, Trigger, Reset}
use Rattle.steps.specs.declared.map.Target.TheVariants.{One}
use Rattle.steps.specs.Map.{channel_at, write_target, read_target, wire_target, target_of}
use Rattle.steps.specs.Facts.{InPart}

pub in_part : (s : Step) → InPart (target_of s)
unfolding target_of write_target read_target wire_target
in_part (Write a v) = pick_holds InPart (ltb (channel_at a) 3) (λ t. ltb-true _ _ t) (λ _. tt)
in_part (Read a) = pick_holds InPart (ltb (channel_at a) 3) (λ t. ltb-true _ _ t) (λ _. tt)
in_part (Wire c e) = pick_holds InPart (ltb c 3) (λ t. ltb-true _ _ t) (λ _. tt)
in_part (Trigger edge) = tt
in_part (Reset d) = tt

pub one_in_part : (s : Step) (c : ℕ) (op : Op) → target_of s ≡ One op c → c < 3
one_in_part s c op e = subst InPart e (in_part s)
