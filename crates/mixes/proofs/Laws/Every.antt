-- No order is left out: every list of steps of channels 0 to 2 is a mix of its own three lists.
use Rattle.std.specs.Prelude.{ℕ, zero, suc, ◌<◌, List, [], ◌∷◌, eqb, if◌then◌else◌}
use Rattle.std.proofs.Common.{not-suc-le-zero, le_of_suc-le-suc, eqb-true}
use Rattle.laws.specs.Cases.{pick_holds}
use Rattle.laws.specs.Lists.{All}
use Rattle.mixes.specs.Mix.{Mix, Machine, OfSome, steps_of}
use Rattle.mixes.specs.Mix.Mix.{done, first, second, third}
use Rattle.mixes.proofs.Laws.Apart.{StepOf}

-- one element more, of channel c
more : {A : Type 0} (a : A) (k l n m : List A) (c : ℕ) → c < 3 → Mix A k l n m
    → Mix A (if eqb c 0 then a ∷ k else k) (if eqb c 1 then a ∷ l else l) (if eqb c 2 then a ∷ n else n) (a ∷ m)
more a k l n m zero h t = first t
more a k l n m (suc zero) h t = second t
more a k l n m (suc (suc zero)) h t = third t
more a k l n m (suc (suc (suc c))) h t = absurd (not-suc-le-zero (le_of_suc-le-suc (le_of_suc-le-suc (le_of_suc-le-suc h))))

module _ {S Step Ans : Type 0} (M : Machine S Step Ans) where
  pub every_mix : (m : List Step) → All (OfSome M) m → Mix Step (steps_of M 0 m) (steps_of M 1 m) (steps_of M 2 m) m
  every_mix [] h = done
  every_mix (a ∷ m) h = more a (steps_of M 0 m) (steps_of M 1 m) (steps_of M 2 m) m (M.owner a) h.0 (every_mix m h.1)

  -- and a channel's own list holds steps of that channel alone
  pub all_own : (may : Step → Type 0) (c : ℕ) (m : List Step) → All may m → All (StepOf M may c) (steps_of M c m)
  all_own may c [] h = tt
  all_own may c (a ∷ m) h =
      let own = all_own may c m h.1 in
      pick_holds (All (StepOf M may c)) (eqb (M.owner a) c) (λ e. ((h.0, eqb-true _ _ e), own)) (λ _. own)
