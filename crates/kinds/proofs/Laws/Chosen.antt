-- Which step chooses the part, and what is left of a part to whose UFm channels nobody ever answered.
use Rattle.std.specs.Prelude.{ℕ, zero, suc, Bool, true, false, List, ◌≡◌, refl, length}
use Rattle.std.proofs.Common.{sym, ◌∙◌, ap, arith, ltb, ⊎_elim}
use Rattle.std.proofs.lemmas.Bool.{cases_Bool}
use Rattle.laws.specs.Cases.{pick_holds, false_not_true, both}
use Rattle.rules.specs.declared.parts.Device.{Device}
use Rattle.rules.specs.declared.parts.Kind.TheVariants.{Fm, Ufm}
use Rattle.rules.specs.declared.parts.Straps.{Straps}
use Rattle.rules.specs.Parts.{strapped, other_kind, device_by}
use Rattle.steps.specs.declared.map.Step.{Step}
use Rattle.steps.specs.declared.map.Step.TheVariants.{Write, Read, Wire, Trigger, Reset}
use Rattle.steps.specs.declared.map.Target.{Target}
use Rattle.steps.specs.declared.map.Target.TheVariants.{One, All}
use Rattle.steps.specs.declared.map.Wide.TheVariants.{CtrlWrite, CtrlRead, AllTrigger, AllReset, Beyond}
use Rattle.steps.specs.Map.{channel_at, write_target, read_target, wire_target, target_of}
use Rattle.steps.proofs.Laws.Keys.{left_of_lem}
use Rattle.head.specs.Head.{kind_of}
use Rattle.channel.proofs.Laws.Straps.{fresh_unanswered}
use Rattle.part.specs.declared.state.Part.{Part}
use Rattle.part.specs.declared.state.PartStepped.{PartStepped}
use Rattle.part.specs.State.{chan, fresh_part, device_of, forgotten}
use Rattle.part.specs.Step.{target_served, all_served, target_stored, all_stored, forgetting, part_served, part_stored, part_in, own_kinds, accepts, part_step}
use Rattle.part.proofs.Laws.Range.{accepts-whole, step_accepted, bytes_accepted}
use Rattle.part.proofs.Laws.Kept.{left-whole}
use Rattle.part.proofs.Laws.Chosen.{Kept, keeps_same, one_keeps, trigger_keeps, read_keeps, put_keeps, forgotten_keeps}
use Rattle.independent.specs.Keys.{at_reset}
use Rattle.independent.specs.Statement.{State, Accepted, the_part}
use Rattle.kinds.specs.Statement.{is_reset, NobodyAnswers}

-- ---- a step that is no hardware reset
abbrev resets : Target → Bool
resets (One op c) = false
resets (All (CtrlWrite reg v)) = false
resets (All (CtrlRead reg)) = false
resets (All (AllTrigger edge)) = false
resets (All (AllReset d)) = true
resets (All Beyond) = false

reset_target : (a : Step) → resets (target_of a) ≡ is_reset a
unfolding target_of write_target read_target wire_target
reset_target (Write a v) = ⊎_elim (λ e. rw e refl) (λ e. rw e refl) (cases_Bool (ltb (channel_at a) 3))
reset_target (Read a) = ⊎_elim (λ e. rw e refl) (λ e. rw e refl) (cases_Bool (ltb (channel_at a) 3))
reset_target (Wire c e) = ⊎_elim (λ e. rw e refl) (λ e. rw e refl) (cases_Bool (ltb c 3))
reset_target (Trigger edge) = refl
reset_target (Reset d) = refl

target_keeps : (p : Part) (m : List ℕ) (t : Target) → own_kinds p ≡ true → resets t ≡ false → Kept p (target_served p m t).part
unfolding target_served all_served
target_keeps p m (One op c) own e = one_keeps p m c op
target_keeps p m (All (CtrlWrite reg v)) own e = put_keeps p own reg v
target_keeps p m (All (CtrlRead reg)) own e = read_keeps p reg
target_keeps p m (All (AllTrigger edge)) own e = trigger_keeps p edge
target_keeps p m (All (AllReset d)) own e = absurd (let z = false_not_true (sym e) in omega (arith, z))
target_keeps p m (All Beyond) own e = λ d _. keeps_same (chan p d)

left_keeps : (p : Part) (t : Target) → Kept p (forgetting t p)
unfolding forgetting
left_keeps p t = left_of_lem (Kept p) forgotten p (λ d _. keeps_same (chan p d)) (λ c d _. forgotten_keeps p c d) t

own_of : (p : Part) → part_in p ≡ true → own_kinds p ≡ true
unfolding part_in
own_of p e = (both _ _ (both _ _ e).1).1

-- ---- what follows of a part of which the same was chosen
device_of_lem : (p q : Part) → Kept p q → device_of q ≡ device_of p
device_of_lem p q k = ap (λ (x : Straps). device_by x.kind) (k 1 (omega arith)).straps

clean_of : (p q : Part) → Kept p q → NobodyAnswers p → NobodyAnswers q
clean_of p q k h c low u =
    let x = k c low in
    let own : kind_of (chan p c).head ≡ Ufm = sym (ap (λ (t : Straps). t.kind) x.straps) ∙ u in
    x.unanswered own (h c low own)

pub fresh_clean : (d : Device) → NobodyAnswers (fresh_part d)
fresh_clean d zero low u = fresh_unanswered (strapped Fm)
fresh_clean d (suc zero) low u = fresh_unanswered (strapped (other_kind d))
fresh_clean d (suc (suc zero)) low u = fresh_unanswered (strapped (other_kind d))
fresh_clean d (suc (suc (suc c))) low u = absurd (omega (arith, low))

-- what holds of a part as it is, of a part of which the same was chosen, and of a reset, holds after every step
module _ (p : Part) (m : List ℕ) (a : Step) where
  served : (P : Part → Type 0) → ((q r : Part) → Kept q r → P q → P r) → P p → is_reset a ≡ false → P (part_step p m a).part
  unfolding part_step part_served
  served P along h e =
      pick_holds (λ (r : PartStepped). P r.part) (accepts p (length m))
      (λ t.
      let w = accepts-whole p m t in
      let q = forgetting (target_of a) p in
      along q _ (target_keeps q m (target_of a) (own_of q (left-whole p m (target_of a) w).ranged) (reset_target a ∙ e)) (along p q (left_keeps p (target_of a)) h))
      (λ _. h)

pub keeps_device : (s : State) (a : Step) → is_reset a ≡ false → device_of (part_step s.part s.memory a).part ≡ device_of s.part
keeps_device s a e = served s.part s.memory a (λ q. device_of q ≡ device_of s.part) (λ q r k h. device_of_lem q r k ∙ h) refl e

reset_step : (p : Part) (m : List ℕ) (d : Device) → NobodyAnswers p → NobodyAnswers (part_step p m (Reset d)).part
unfolding part_step part_served target_served all_served target_of
reset_step p m d h = pick_holds (λ (r : PartStepped). NobodyAnswers r.part) (accepts p (length m)) (λ _. fresh_clean d) (λ _. h)

pub keeps_clean : (s : State) (a : Step) → NobodyAnswers s.part → NobodyAnswers (part_step s.part s.memory a).part
keeps_clean s (Write a v) h = served s.part s.memory (Write a v) NobodyAnswers clean_of h refl
keeps_clean s (Read a) h = served s.part s.memory (Read a) NobodyAnswers clean_of h refl
keeps_clean s (Wire c e) h = served s.part s.memory (Wire c e) NobodyAnswers clean_of h refl
keeps_clean s (Trigger edge) h = served s.part s.memory (Trigger edge) NobodyAnswers clean_of h refl
keeps_clean s (Reset d) h = reset_step s.part s.memory d h

pub reset_after : (s : State) → Accepted s → (d : Device) → the_part.after s (Reset d) ≡ at_reset d
unfolding part_served part_stored target_served target_stored all_served all_stored target_of
reset_after s acc d = rw (step_accepted s.part s.memory (Reset d) acc, bytes_accepted s.part s.memory (Reset d) acc)
