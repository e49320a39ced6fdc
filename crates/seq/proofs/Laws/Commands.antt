-- The library's calls, from the states that the program has.
use Rattle.std.specs.Prelude.{ℕ, List, ◌≡◌, eqb, Ok, Err}
use Rattle.std.proofs.Common.{◌∙◌, ap, sym, eq-eqb, ne_eqb}
use Rattle.laws.specs.Cases.{pick_true, pick-false}
use Rattle.rules.specs.Numbers.{done}
use Rattle.rules.specs.declared.parts.Device.TheVariants.{Pca9663}
use Rattle.part.specs.declared.state.Part.{Part}
use Rattle.part.specs.declared.state.PartStepped.{PartStepped}
use Rattle.part.specs.State.{fresh_part, wiped}
use Rattle.works.specs.State.{State}
use Rattle.works.specs.Work.{work_reply}
use Rattle.works.specs.Idle.{state_of, call_step, call_out}
use Rattle.independent.specs.Keys.{at_reset}
use Rattle.runner.specs.Run.{start}
use Rattle.files.specs.Deeds.{load_work, save_work}
use Rattle.seq.specs.Commands.{after_script, sized}

-- ---- what is made has a length where the number is 0
module _ (n m k : ℕ) (e : n ≡ m) where
  pub sized_done : (len : ℕ) → n ≡ done → len ≡ k → Ok len ≡ sized m k
  sized_done len d f = pick_true (eqb m done) (Ok len) (Ok k) (Err m) (eq-eqb m done (sym e ∙ d)) (ap (λ (x : ℕ). Ok x) f)

  pub sized_refused : (n ≡ done → ⊥) → Err n ≡ sized m k
  sized_refused d = pick-false (eqb m done) (Err n) (Ok k) (Err m) (ne_eqb m done (λ z. d (e ∙ z))) (ap (λ (x : ℕ). Err x) e)

-- ---- the library's calls

pub load_number : (f m : List ℕ) (p : Part) (c : ℕ) (r : PartStepped) → p ≡ fresh_part Pca9663 → m ≡ wiped → r ≡ call_step (load_work f) p m c
    → r.answer.number ≡ (work_reply (at_reset Pca9663) c (load_work f)).answer.number
load_number f m p c r e z w =
    ap (λ (x : PartStepped). x.answer.number) w
    ∙ ap (λ (x : Part). (work_reply (state_of x m) c (load_work f)).answer.number) e
    ∙ ap (λ (x : List ℕ). (work_reply (state_of (fresh_part Pca9663) x) c (load_work f)).answer.number) z

module _ (script o : List ℕ) (p : Part) (m : List ℕ) (c : ℕ) (e : start p m ≡ after_script script) where
  pub save_number : (r : PartStepped) → r ≡ call_step (save_work o) p m c → r.answer.number ≡ (work_reply (after_script script) c (save_work o)).answer.number
  save_number r w = ap (λ (x : PartStepped). x.answer.number) w ∙ ap (λ (s : State). (work_reply s c (save_work o)).answer.number) e

  pub save_out : (o' : List ℕ) → o' ≡ call_out (save_work o) p m c → o' ≡ (work_reply (after_script script) c (save_work o)).out
  save_out o' w = w ∙ ap (λ (s : State). (work_reply s c (save_work o)).out) e
