-- The theorem once more, by places: the log of a mixed run is a mix of the three lists' logs, as they are one after the other.
use Rattle.std.specs.Prelude.{ℕ, ◌≡◌, refl}
use Rattle.std.proofs.Common.{sym, ◌∙◌, subst}
use Rattle.std.proofs.Math.Path.{ap}
use mathlib.Core.List.{List, [], ◌∷◌}
use Rattle.std.proofs.lemmas.Bool.{eqb-false}
use Rattle.laws.specs.Lists.{All, all_map}
use Rattle.mixes.specs.Mix.{Mix, Machine, ends, log}
use Rattle.mixes.specs.Mix.Mix.{done, first, second, third}
use Rattle.mixes.proofs.Laws.Apart.{Apart, StepOf}

module _ {S Step Ans : Type 0} (M : Machine S Step Ans) (good : S → Type 0) (may : Step → Type 0) (apart : Apart M good may) where
  -- steps of channels other than b's
  Others : Step → List Step → Type 0
  Others b l = All (λ a. may a × (M.owner a ≡ M.owner b → ⊥)) l

  -- what b before a list of other channels' steps changes: none of their answers, nor its own, and the end is the end with b after
  record Past (b : Step) (l : List Step) (s : S) : Type 0 where
    logs : log M (M.after s b) l ≡ log M s l
    last : ends M (M.after s b) l ≡ M.after (ends M s l) b
    own : M.answer (ends M s l) b ≡ M.answer s b
    stays : good (ends M s l)

  past : (b : Step) (l : List Step) (s : S) → good s → may b → Others b l → Past b l s
  unfolding Others
  past b [] s g hb h = record { logs = refl; last = refl; own = refl; stays = g }
  past b (a ∷ l) s g hb h =
      let ha = h.0.0 in
      let ne = h.0.1 in
      let ne' : M.owner b ≡ M.owner a → ⊥ = λ e. ne (sym e) in
      let p = past b l (M.after s a) (apart.kept s a g ha) hb h.1 in
      let e = apart.commute s a b g ha hb ne in
      record {
        logs =
            ap (λ (x : Ans). (a, x) ∷ log M (M.after (M.after s b) a) l) (apart.unmoved s a b g ha hb ne)
            ∙ ap (λ (t : S). (a, M.answer s a) ∷ log M t l) (sym e)
            ∙ ap (λ (t : List (Step × Ans)). (a, M.answer s a) ∷ t) p.logs;
        last = ap (λ (t : S). ends M t l) (sym e) ∙ p.last;
        own = p.own ∙ apart.unmoved s b a g hb ha ne';
        stays = p.stays;
      }

  others : (b : Step) (c d : ℕ) (l : List Step) → M.owner b ≡ d → (c ≡ d → ⊥) → All (StepOf M may c) l → Others b l
  unfolding Others
  others b c d l e ne h = all_map (StepOf M may c) (λ a. may a × (M.owner a ≡ M.owner b → ⊥)) (λ a h. (h.0, λ q. ne (sym h.1 ∙ q ∙ e))) l h

  goods : (c : ℕ) (l : List Step) (s : S) → good s → All (StepOf M may c) l → good (ends M s l)
  goods c [] s g h = g
  goods c (a ∷ l) s g h = goods c l (M.after s a) (apart.kept s a g h.0.0) h.1

  -- the three logs, one list after the other
  abbrev LogsMix : S → List Step → List Step → List Step → List Step → Type 0
  LogsMix s k l n m = Mix (Step × Ans) (log M s k) (log M (ends M s k) l) (log M (ends M (ends M s k) l) n) (log M s m)

  -- the second list's step b, taken first
  join_second : (b : Step) (k l n m : List Step) (s : S) → Past b k s → LogsMix (M.after s b) k l n m → LogsMix s k (b ∷ l) n (b ∷ m)
  join_second b k l n m s p t =
      subst (λ (x : Ans). Mix (Step × Ans) (log M s k) ((b, x) ∷ log M (M.after (ends M s k) b) l) (log M (ends M (M.after (ends M s k) b) l) n) ((b, M.answer s b) ∷ log M (M.after s b) m))
      (sym p.own)
      (second
      (subst (λ (u : S). Mix (Step × Ans) (log M s k) (log M u l) (log M (ends M u l) n) (log M (M.after s b) m)) p.last
      (subst (λ (x : List (Step × Ans)). Mix (Step × Ans) x (log M (ends M (M.after s b) k) l) (log M (ends M (ends M (M.after s b) k) l) n) (log M (M.after s b) m)) p.logs t)))

  -- the third's
  join_third : (b : Step) (k l n m : List Step) (s : S) → Past b k s → Past b l (ends M s k) → LogsMix (M.after s b) k l n m → LogsMix s k l (b ∷ n) (b ∷ m)
  join_third b k l n m s p q t =
      subst (λ (x : Ans). Mix (Step × Ans) (log M s k) (log M (ends M s k) l) ((b, x) ∷ log M (M.after (ends M (ends M s k) l) b) n) ((b, M.answer s b) ∷ log M (M.after s b) m))
      (sym (q.own ∙ p.own))
      (third
      (subst (λ (u : S). Mix (Step × Ans) (log M s k) (log M (ends M s k) l) (log M u n) (log M (M.after s b) m)) q.last
      (subst (λ (x : List (Step × Ans)). Mix (Step × Ans) (log M s k) x (log M (ends M (M.after (ends M s k) b) l) n) (log M (M.after s b) m)) q.logs
      (subst (λ (u : S). Mix (Step × Ans) (log M s k) (log M u l) (log M (ends M u l) n) (log M (M.after s b) m)) p.last
      (subst (λ (x : List (Step × Ans)). Mix (Step × Ans) x (log M (ends M (M.after s b) k) l) (log M (ends M (ends M (M.after s b) k) l) n) (log M (M.after s b) m)) p.logs t)))))

  pub mixed_logs : {k l n m : List Step} → Mix Step k l n m → All (StepOf M may 0) k → All (StepOf M may 1) l → All (StepOf M may 2) n
      → (s : S) → good s → Mix (Step × Ans) (log M s k) (log M (ends M s k) l) (log M (ends M (ends M s k) l) n) (log M s m)
  mixed_logs done hk hl hn s g = done
  mixed_logs (first {a} t) hk hl hn s g = first (mixed_logs t hk.1 hl hn (M.after s a) (apart.kept s a g hk.0.0))
  mixed_logs (second {a} {k} {l} {n} {m} t) hk hl hn s g =
      join_second a k l n m s (past a k s g hl.0.0 (others a 0 1 k hl.0.1 (eqb-false 0 1 refl) hk))
      (mixed_logs t hk hl.1 hn (M.after s a) (apart.kept s a g hl.0.0))
  mixed_logs (third {a} {k} {l} {n} {m} t) hk hl hn s g =
      join_third a k l n m s
      (past a k s g hn.0.0 (others a 0 2 k hn.0.1 (eqb-false 0 2 refl) hk))
      (past a l (ends M s k) (goods 0 k s g hk) hn.0.0 (others a 1 2 l hn.0.1 (eqb-false 1 2 refl) hl))
      (mixed_logs t hk hl hn.1 (M.after s a) (apart.kept s a g hn.0.0))
