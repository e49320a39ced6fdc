-- A machine whose channels keep apart: the laws of one step beside another, and the theorem that follows from them.
use Rattle.std.specs.Prelude.{ℕ, Bool, true, false, List, [], ◌∷◌, ◌++◌, ◌≡◌, eqb, if◌then◌else◌}
use Rattle.std.proofs.Common.{append_assoc, append-nil, ◌∙◌, eqb-true}
use Rattle.std.proofs.Math.Path.{refl, sym, ap}
use Rattle.std.proofs.lemmas.Bool.{eqb-false}
use Rattle.laws.specs.Lists.{All}
use Rattle.mixes.specs.Mix.{Mix, Machine, ends, log, only}
use Rattle.mixes.specs.Mix.Mix.{done, first, second, third}

-- `good` states stay good under the steps that `may` be taken; of two such steps of different channels, the one gets the same answer
-- with the other before it or not, and the state after both does not tell their order.
pub record Apart {S Step Ans : Type 0} (M : Machine S Step Ans) (good : S → Type 0) (may : Step → Type 0) : Type 0 where
  pub kept : (s : S) (a : Step) → good s → may a → good (M.after s a)
  pub unmoved : (s : S) (a b : Step) → good s → may a → may b → (M.owner a ≡ M.owner b → ⊥) → M.answer (M.after s b) a ≡ M.answer s a
  pub commute : (s : S) (a b : Step) → good s → may a → may b → (M.owner a ≡ M.owner b → ⊥) → M.after (M.after s a) b ≡ M.after (M.after s b) a

module _ {S Step Ans : Type 0} where
  -- a step of channel c that may be taken
  abbrev pub StepOf : Machine S Step Ans → (Step → Type 0) → ℕ → Step → Type 0
  StepOf M may c a = may a × (M.owner a ≡ c)

  -- from s, two lists of steps end in one state, and each channel's steps get the same answers in both
  pub record Same (M : Machine S Step Ans) (s : S) (l r : List Step) : Type 0 where
    pub state : ends M s l ≡ ends M s r
    pub answers : (c : ℕ) → only M c (log M s l) ≡ only M c (log M s r)

-- of a log, an entry that concerns the channel asked for
abbrev keep : {A : Type 0} → Bool → A → List A → List A
keep b a l = if b then a ∷ l else l

-- two kept elements change places, unless both are kept
keep_swap : {A : Type 0} (p q : Bool) (x y : A) (l : List A) → (p ≡ true → q ≡ true → ⊥) → keep p x (keep q y l) ≡ keep q y (keep p x l)
keep_swap true true x y l h = absurd (h refl refl)
keep_swap true false x y l h = refl
keep_swap false true x y l h = refl
keep_swap false false x y l h = refl

module _ {S Step Ans : Type 0} (M : Machine S Step Ans) (good : S → Type 0) (may : Step → Type 0) (apart : Apart M good may) where
  -- the same from every good state
  Rel : List Step → List Step → Type 0
  Rel l r = (s : S) → good s → Same M s l r

  rel_refl : (l : List Step) → Rel l l
  unfolding Rel
  rel_refl l s g = record { state = refl; answers = λ c. refl }

  rel_trans : (l m r : List Step) → Rel l m → Rel m r → Rel l r
  unfolding Rel
  rel_trans l m r p q s g = record {
    state = (p s g).state ∙ (q s g).state;
    answers = λ c. (p s g).answers c ∙ (q s g).answers c;
  }

  rel_swap : (a b : Step) (l : List Step) → may a → may b → (M.owner a ≡ M.owner b → ⊥) → Rel (a ∷ b ∷ l) (b ∷ a ∷ l)
  unfolding Rel
  rel_swap a b l ha hb ne s g =
      let e = apart.commute s a b g ha hb ne in
      let ea = apart.unmoved s a b g ha hb ne in
      let eb = apart.unmoved s b a g hb ha (λ o. ne (sym o)) in
      record {
        state = ap (λ (t : S). ends M t l) e;
        answers = λ c.
            rw (e, ea, eb)
            (keep_swap (eqb (M.owner a) c) (eqb (M.owner b) c) (a, M.answer s a) (b, M.answer s b) (only M c (log M (M.after (M.after s b) a) l))
            (λ p q. ne (eqb-true _ _ p ∙ sym (eqb-true _ _ q))));
      }

  rel_cons : (a : Step) (l r : List Step) → may a → Rel l r → Rel (a ∷ l) (a ∷ r)
  unfolding Rel
  rel_cons a l r h p s g =
      let q = p (M.after s a) (apart.kept s a g h) in
      record {
        state = q.state;
        answers = λ c. ap (keep (eqb (M.owner a) c) (a, M.answer s a)) (q.answers c);
      }

  -- a step moves back past steps of other channels
  rel_past : (b : Step) (p r : List Step) → may b → All (λ a. may a × (M.owner b ≡ M.owner a → ⊥)) p → Rel (b ∷ (p ++ r)) (p ++ (b ∷ r))
  rel_past b [] r hb h = rel_refl (b ∷ r)
  rel_past b (a ∷ p) r hb h =
      rel_trans (b ∷ a ∷ (p ++ r)) (a ∷ b ∷ (p ++ r)) (a ∷ (p ++ (b ∷ r)))
      (rel_swap b a (p ++ r) hb h.0.0 h.0.1)
      (rel_cons a (b ∷ (p ++ r)) (p ++ (b ∷ r)) h.0.0 (rel_past b p r hb h.1))

  all_and : (P Q : Step → Type 0) (l r : List Step) → All P l → All Q r → ((a : Step) → P a → Q a) → All Q (l ++ r)
  all_and P Q [] r h k f = k
  all_and P Q (a ∷ l) r h k f = (f a h.0, all_and P Q l r h.1 k f)

  others : (b : Step) (c : ℕ) (l r : List Step) → (M.owner b ≡ c → ⊥) → All (StepOf M may c) l
      → All (λ a. may a × (M.owner b ≡ M.owner a → ⊥)) r → All (λ a. may a × (M.owner b ≡ M.owner a → ⊥)) (l ++ r)
  others b c l r ne h k =
      all_and (StepOf M may c) (λ a. may a × (M.owner b ≡ M.owner a → ⊥)) l r h k (λ a s. (s.0, λ e. ne (e ∙ s.1)))

  -- any three different channels
  module _ (x y z : ℕ) (xy : y ≡ x → ⊥) (xz : z ≡ x → ⊥) (yz : z ≡ y → ⊥) where
    rel_mixed : {k l n m : List Step} → Mix Step k l n m → All (StepOf M may x) k → All (StepOf M may y) l → All (StepOf M may z) n
        → Rel m (k ++ (l ++ n))
    rel_mixed done hk hl hn = rel_refl []
    rel_mixed (first {a} {k} {l} {n} {m} t) hk hl hn =
        rel_cons a m (k ++ (l ++ n)) hk.0.0 (rel_mixed t hk.1 hl hn)
    rel_mixed (second {a} {k} {l} {n} {m} t) hk hl hn =
        rel_trans (a ∷ m) (a ∷ (k ++ (l ++ n))) (k ++ (a ∷ (l ++ n)))
        (rel_cons a m (k ++ (l ++ n)) hl.0.0 (rel_mixed t hk hl.1 hn))
        (rel_past a k (l ++ n) hl.0.0 (rw (← append-nil k) (others a x k [] (λ e. xy (sym hl.0.1 ∙ e)) hk tt)))
    rel_mixed (third {a} {k} {l} {n} {m} t) hk hl hn =
        rel_trans (a ∷ m) (a ∷ (k ++ (l ++ n))) (k ++ (l ++ (a ∷ n)))
        (rel_cons a m (k ++ (l ++ n)) hn.0.0 (rel_mixed t hk hl hn.1))
        (rw (← append_assoc k l n, ← append_assoc k l (a ∷ n))
        (rel_past a (k ++ l) n hn.0.0
        (others a x k l (λ e. xz (sym hn.0.1 ∙ e)) hk
        (rw (← append-nil l) (others a y l [] (λ e. yz (sym hn.0.1 ∙ e)) hl tt)))))

  -- THE THEOREM: a mix of the three channels' lists does what the three lists do, one after the other.
  pub mixed_is_sequential : (k l n m : List Step) → Mix Step k l n m
      → All (StepOf M may 0) k → All (StepOf M may 1) l → All (StepOf M may 2) n
      → (s : S) → good s → Same M s m (k ++ (l ++ n))
  unfolding Rel
  mixed_is_sequential k l n m t hk hl hn s g =
      rel_mixed 0 1 2 (eqb-false 1 0 refl) (eqb-false 2 0 refl) (eqb-false 2 1 refl) t hk hl hn s g

-- The three lists one after the other are one of their mixes.
pub in_order : {A : Type 0} (k l n : List A) → Mix A k l n (k ++ (l ++ n))
in_order [] [] [] = done
in_order [] [] (a ∷ n) = third (in_order [] [] n)
in_order [] (a ∷ l) n = second (in_order [] l n)
in_order (a ∷ k) l n = first (in_order k l n)
