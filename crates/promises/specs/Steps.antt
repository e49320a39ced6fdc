-- No second outcome of crate steps: a statement for each public function.
use Rattle.std.specs.Prelude.{ℕ, Bool, List, ◌≡◌}
use Rattle.rules.specs.declared.numbers.Refusal.{Refusal}
use Rattle.rules.specs.Numbers.{done, refusal_number}
use Rattle.rules.specs.declared.wires.Action.{Action}
use Rattle.steps.specs.declared.answer.PartAnswer.{PartAnswer}
use Rattle.steps.specs.declared.map.Ctrl.{Ctrl}
use Rattle.steps.specs.declared.map.Op.{Op}
use Rattle.steps.specs.declared.map.Step.{Step}
use Rattle.steps.specs.declared.map.Target.{Target}
use Rattle.steps.specs.declared.map.Wide.{Wide}
use Rattle.steps.specs.Answer.{quiet, only_at, numbered, valued}
use Rattle.steps.specs.Keys.{ctrlpreset_of, op_writes, wide_writes}
use Rattle.steps.specs.Map.{target_of}
use Rattle.steps.specs.Facts.{InPart}
use Rattle.promises.specs.Promise.{Once, no_second}

-- ---- answer.rt
pub no_acts_once : Once (List Action) (λ r. r ≡ quiet)
no_acts_once = no_second (λ r h. h)

pub act_at_once : (c : ℕ) (action : Action) → Once (List Action) (λ r. r ≡ only_at c action)
act_at_once c action = no_second (λ r h. h)

pub numbered_once : (number : ℕ) → Once PartAnswer (λ r. r ≡ numbered number)
numbered_once number = no_second (λ r h. h)

pub done_once : Once PartAnswer (λ r. r ≡ numbered done)
done_once = no_second (λ r h. h)

pub refused_once : (e : Refusal) → Once PartAnswer (λ r. r ≡ numbered (refusal_number e))
refused_once e = no_second (λ r h. h)

pub reply_once : (value : ℕ) → Once PartAnswer (λ r. r ≡ valued value)
reply_once value = no_second (λ r h. h)

-- ---- keys.rt
pub is_ctrlpreset_once : (reg : Ctrl) → Once Bool (λ r. r ≡ ctrlpreset_of reg)
is_ctrlpreset_once reg = no_second (λ r h. h)

pub op_writes_once : (op : Op) → Once Bool (λ r. r ≡ op_writes op)
op_writes_once op = no_second (λ r h. h)

pub wide_writes_once : (t : Wide) → Once Bool (λ r. r ≡ wide_writes t)
wide_writes_once t = no_second (λ r h. h)

-- ---- map.rt
pub target_of_once : (s : Step) → Once Target (λ r. (r ≡ target_of s) × InPart r)
target_of_once s = no_second (λ r h. h.0)
