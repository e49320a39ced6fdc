-- No second outcome of crate part: a statement for each public function.
use Rattle.std.specs.Prelude.{ℕ, Bool, List, ◌≡◌}
use Rattle.rules.specs.declared.parts.Device.{Device}
use Rattle.steps.specs.declared.answer.PartAnswer.{PartAnswer}
use Rattle.steps.specs.declared.map.Op.{Op}
use Rattle.steps.specs.declared.map.Step.{Step}
use Rattle.steps.specs.declared.map.Target.{Target}
use Rattle.steps.specs.declared.map.Wide.{Wide}
use Rattle.part.specs.declared.state.Part.{Part}
use Rattle.part.specs.declared.state.PartStepped.{PartStepped}
use Rattle.part.specs.Registers.{interrupt_of}
use Rattle.part.specs.State.{fresh_part, refused_part, given}
use Rattle.part.specs.Step.{accepts, part_in, one_step, one_bytes, all_served, all_stored, part_served, part_stored, part_step, part_bytes}
use Rattle.promises.specs.Promise.{Once, no_second, both}

-- ---- registers.rt
pub interrupt_once : (self : Part) → Once Bool (λ r. r ≡ interrupt_of self)
interrupt_once self = no_second (λ r h. h)

-- ---- state.rt
pub new_once : (d : Device) → Once Part (λ r. r ≡ fresh_part d)
new_once d = no_second (λ r h. h)

pub answer_once : (self : Part) (number : ℕ) → Once PartStepped (λ r. r ≡ refused_part self number)
answer_once self number = no_second (λ r h. h)

pub in_range_once : (self : Part) → Once Bool (λ r. r ≡ part_in self)
in_range_once self = no_second (λ r h. h)

pub accepts_len_once : (self : Part) (len : ℕ) → Once Bool (λ r. r ≡ accepts self len)
accepts_len_once self len = no_second (λ r h. h)

-- ---- step.rt
pub one_once : (self : Part) (mem : List ℕ) (c : ℕ) (op : Op)
    → Once (PartAnswer × Part × List ℕ) (λ (r, self', mem'). (given self' r ≡ one_step self mem c op) × (mem' ≡ one_bytes self mem c op))
one_once self mem c op = no_second (λ o h. λ i. ((h.0 i).answer, (h.0 i).part, h.1 i))

pub all_once : (self : Part) (mem : List ℕ) (t : Wide)
    → Once (PartAnswer × Part × List ℕ) (λ (r, self', mem'). (given self' r ≡ all_served self t) × (mem' ≡ all_stored self mem t))
all_once self mem t = no_second (λ o h. λ i. ((h.0 i).answer, (h.0 i).part, h.1 i))

pub serve_once : (self : Part) (mem : List ℕ) (t : Target)
    → Once (PartAnswer × Part × List ℕ) (λ (r, self', mem'). (given self' r ≡ part_served self mem t) × (mem' ≡ part_stored self mem t))
serve_once self mem t = no_second (λ o h. λ i. ((h.0 i).answer, (h.0 i).part, h.1 i))

pub step_once : (self : Part) (mem : List ℕ) (s : Step)
    → Once (PartStepped × List ℕ) (λ (r, mem'). (r ≡ part_step self mem s) × (mem' ≡ part_bytes self mem s))
step_once self mem s = no_second (λ o h. both h.0 h.1)
