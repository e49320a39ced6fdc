-- What a deed of an Idle channel leaves: the rest of the part, and all where it is refused.
use Rattle.std.specs.Prelude.{ℕ, ◌<◌, ◌≤◌, Bool, List, ◌≡◌, eqb, length}
use Rattle.std.proofs.Math.Bool.{true, false}
use Rattle.std.proofs.Math.Path.{refl, sym}
use Rattle.std.proofs.Common.{◌∙◌, ap, arith}
use borrow.Author.Tests.{ltb-true, ne_eqb}
use Rattle.std.proofs.Math.Dec.{ltb}
use Rattle.laws.specs.Cases.{pick-false, pick_holds}
use Rattle.rules.specs.Numbers.{done, past_buffer}
use Rattle.part.specs.Step.{accepts}
use Rattle.works.specs.State.{State, Accepted}
use Rattle.works.specs.Work.{Own, Reply, own_of, work_after, work_gives, work_done, work_reply}
use Rattle.works.specs.Idle.{Deed, Spares, deed_number, deed_after, deed_out}
use Rattle.works.proofs.IdleWork.{idle_work}
use Rattle.works.proofs.Laws.Work.{own_other}
use Rattle.works.proofs.Laws.Calls.{call_replies, after_left}

-- AN IDLE CHANNEL'S WORK SPARES THE REST OF THE PART
module _ (s : State) (g : Accepted s) (c : ℕ) (d : Deed) where
  after_spares : c < 3 → Spares c s (work_after s c (idle_work d))
  unfolding work_after
  after_spares h = record { others = λ e ne. own_other s g c e (idle_work d) h ne; mask = refl; key = refl }

  pub idle_spares : Spares c s (work_done s c (idle_work d))
  unfolding work_done
  idle_spares = rw g (pick_holds (Spares c s) (ltb c 3) (λ t. after_spares (ltb-true c 3 t)) (λ _. record { others = λ e ne. refl; mask = refl; key = refl }))

-- ---- what leaves all, where no number is 5, which sets BE
module _ (s : State) (c : ℕ) (d : Deed) (calm : (o : Own) → eqb (deed_number d o) past_buffer ≡ false) where
  -- refused before the work, or of a channel that is there
  by_call : (P : State → List ℕ → Type 0) → P s d.lent → (Accepted s → c ≤ 2 → P (work_after s c (idle_work d)) (deed_out d (own_of s c))) → P (work_done s c (idle_work d)) (work_reply s c (idle_work d)).out
  unfolding work_done work_reply work_gives
  by_call P left done' = go (accepts s.part (length s.memory)) (ltb c 3) refl refl
    where
      go : (a b : Bool) → accepts s.part (length s.memory) ≡ a → ltb c 3 ≡ b → P (work_done s c (idle_work d)) (work_reply s c (idle_work d)).out
      go true true t u = rw (t, u) (done' t (let h = ltb-true c 3 u in omega (arith, h)))
      go true false t u = rw (t, u) left
      go false b t u = rw t left

  left_in : Accepted s → c ≤ 2 → deed_after d (own_of s c) ≡ own_of s c → work_after s c (idle_work d) ≡ s
  left_in t low same = after_left (idle_work d) s.part s.memory c t low refl (deed_number d (own_of s c)) same refl (calm (own_of s c))

  -- A DEED THAT CHANGES NOTHING LEAVES THE PART AND THE MEMORY
  pub idle-leaves : ((o : Own) → d.change o ≡ o) → work_done s c (idle_work d) ≡ s
  unfolding deed_after
  idle-leaves same =
      by_call (λ t l. t ≡ s) refl
      (λ t low. left_in t low (pick_holds (λ (o : Own). o ≡ own_of s c) (eqb (deed_number d (own_of s c)) done) (λ _. same (own_of s c)) (λ _. refl)))

  -- AT A REFUSAL ALL MEMORY STAYS, the record and the buffer too
  refused_in : (deed_number d (own_of s c) ≡ 0 → ⊥) → (deed_after d (own_of s c) ≡ own_of s c) × (deed_out d (own_of s c) ≡ d.lent)
  unfolding deed_after deed_out
  refused_in z = let ne = ne_eqb (deed_number d (own_of s c)) 0 z in (sym (pick-false _ _ _ _ ne refl), sym (pick-false _ _ _ _ ne refl))

  pub refused-leaves : ((work_reply s c (idle_work d)).answer.number ≡ 0 → ⊥) → (work_done s c (idle_work d) ≡ s) × ((work_reply s c (idle_work d)).out ≡ d.lent)
  unfolding work_gives
  refused-leaves z =
      by_call (λ t l. (t ≡ s) × (l ≡ d.lent)) (refl, refl)
      (λ t low.
      let says = call_replies (idle_work d) s.part s.memory c t low in
      let k = refused_in (λ e. z (ap (λ (r : Reply). r.answer.number) says ∙ e)) in (left_in t low k.0, k.1))
