-- A machine over states whose steps keep apart is independent, in every mix and in any order.
use Rattle.std.specs.Prelude.{ℕ, ◌<◌, List, [], ◌∷◌, ◌≡◌}
use Rattle.std.proofs.Common.{ap, subst, sym, arith}
use Rattle.laws.specs.Lists.{All, all_map}
use Rattle.mixes.specs.Mix.{Mix, Machine, OfSome, steps_of}
use Rattle.mixes.proofs.Laws.Apart.{Apart, StepOf, mixed_is_sequential}
use Rattle.mixes.proofs.Laws.Logs.{mixed_logs}
use Rattle.mixes.proofs.Laws.Every.{every_mix, all_own}
use Rattle.part.specs.Registers.{interrupt_of}
use Rattle.independent.specs.Statement.{State, Accepted, Independent}

-- what has P and has Q has both
all_both : {A : Type 0} (P Q : A → Type 0) (l : List A) → All P l → All Q l → All (λ a. P a × Q a) l
all_both P Q [] p q = tt
all_both P Q (a ∷ l) p q = ((p.0, q.0), all_both P Q l p.1 q.1)

-- `Spares` is what a step must keep to beside being of a channel
module _ {A Ans : Type 0} (M : Machine State A Ans) (Spares : A → Type 0) (apart : Apart M Accepted (λ a. OfSome M a × Spares a)) where
  abbrev May : A → Type 0
  May a = OfSome M a × Spares a

  apart-mixed : (s : State) → Accepted s → (k l n m : List A) → Mix A k l n m
      → All (StepOf M May 0) k → All (StepOf M May 1) l → All (StepOf M May 2) n → Independent M s k l n m
  apart-mixed s g k l n m t hk hl hn =
      let e = mixed_is_sequential M Accepted May apart k l n m t hk hl hn s g in
      record {
        state = e.state;
        level = ap (λ (u : State). interrupt_of u.part) e.state;
        answers = e.answers;
        places = mixed_logs M Accepted May apart t hk hl hn s g;
      }

  pub any_order : (s : State) → Accepted s → (m : List A) → All (OfSome M) m → All Spares m → Independent M s (steps_of M 0 m) (steps_of M 1 m) (steps_of M 2 m) m
  any_order s g m h q =
      let may = all_both (OfSome M) Spares m h q in
      let own : (c : ℕ) → All (StepOf M May c) (steps_of M c m) = λ c. all_own M May c m may in
      apart-mixed s g (steps_of M 0 m) (steps_of M 1 m) (steps_of M 2 m) m (every_mix M m h) (own 0) (own 1) (own 2)

  -- by a word for a step of channel c
  module _ (Of : ℕ → A → Type 0) (owns : (c : ℕ) (a : A) → c < 3 → Of c a → M.owner a ≡ c) where
    steps : (c : ℕ) → c < 3 → (l : List A) → All (Of c) l → All Spares l → All (StepOf M May c) l
    steps c h l o q =
        all_map (λ a. Of c a × Spares a) (StepOf M May c) (λ a x. let e = owns c a h x.0 in ((subst (λ (o : ℕ). o < 3) (sym e) h, x.1), e)) l
        (all_both (Of c) Spares l o q)

    pub mixed : (s : State) → Accepted s → (k l n m : List A) → Mix A k l n m → All (Of 0) k → All (Of 1) l → All (Of 2) n
        → All Spares k → All Spares l → All Spares n → Independent M s k l n m
    mixed s g k l n m t hk hl hn qk ql qn = apart-mixed s g k l n m t (steps 0 (omega arith) k hk qk) (steps 1 (omega arith) l hl ql) (steps 2 (omega arith) n hn qn)
