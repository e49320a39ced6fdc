-- REQUEST THREE, proved: of each part, every state and every run.
use Rattle.std.specs.Prelude.{false, List, [], ◌∷◌, ◌≡◌, refl}
use Rattle.std.proofs.Common.{◌∙◌}
use Rattle.laws.specs.Lists.{All}
use Rattle.rules.specs.declared.parts.Device.{Device}
use Rattle.steps.specs.declared.map.Step.{Step}
use Rattle.steps.specs.declared.map.Step.TheVariants.{Reset}
use Rattle.mixes.specs.Mix.{ends}
use Rattle.independent.specs.Keys.{at_reset}
use Rattle.independent.specs.Statement.{State, Accepted, the_part}
use Rattle.kinds.specs.Statement.{chosen_in, is_reset, NobodyAnswers, AlikeStates, SameStep, SameRun}
use Rattle.kinds.proofs.Laws.Chosen.{keeps_device, keeps_clean, fresh_clean, reset_after}
use Rattle.kinds.proofs.Laws.Parts.{levels, step_same, bytes_same}

-- ---- the part is chosen at hardware reset

-- whatever it was before
pub reset_chooses : (s : State) → Accepted s → (d : Device) → the_part.after s (Reset d) ≡ at_reset d
reset_chooses s acc d = reset_after s acc d

-- and kept by every other step, PRESET and CTRLPRESET too
pub only-reset_chooses : (s : State) (a : Step) → is_reset a ≡ false → chosen_in (the_part.after s a) ≡ chosen_in s
only-reset_chooses s a e = keeps_device s a e

-- so every run without one ends with the part that it began with
pub chosen_kept : (s : State) (l : List Step) → All (λ a. is_reset a ≡ false) l → chosen_in (ends the_part s l) ≡ chosen_in s
chosen_kept s [] e = refl
chosen_kept s (a ∷ l) e = chosen_kept (the_part.after s a) l e.1 ∙ only-reset_chooses s a e.0

-- ---- on a UFm channel STATUS uses only its two low bits, and WE, RE, DAE and CLE stay 0

pub nobody_answers_on : (s : State) (a : Step) → NobodyAnswers s.part → NobodyAnswers (the_part.after s a).part
nobody_answers_on s a h = keeps_clean s a h

answers_none : (s : State) (l : List Step) → NobodyAnswers s.part → NobodyAnswers (ends the_part s l).part
answers_none s [] h = h
answers_none s (a ∷ l) h = answers_none (the_part.after s a) l (nobody_answers_on s a h)

-- from a reset on, whatever steps follow, other resets too
pub nobody_answers : (d : Device) (l : List Step) → NobodyAnswers (ends the_part (at_reset d) l).part
nobody_answers d l = answers_none (at_reset d) l (fresh_clean d)

-- ---- INTMSK bits 5 and 4 have no effect there on any answer but their own read-back

pub mask_unheeded : (s t : State) → AlikeStates s t → (a : Step) → SameStep s t a
mask_unheeded s t h a =
    let same = step_same s.part t.part h.parts s.memory a in
    rw h.memory
    (record {
      answer = same.answer;
      level = levels _ _ same.parts;
      states = record { parts = same.parts; memory = bytes_same s.part t.part h.parts s.memory a };
    })

pub mask_unheeded_run : (s t : State) → AlikeStates s t → (l : List Step) → SameRun s t l
mask_unheeded_run s t h [] = tt
mask_unheeded_run s t h (a ∷ l) = let x = mask_unheeded s t h a in (x, mask_unheeded_run (the_part.after s a) (the_part.after t a) x.states l)
