-- No second outcome of crate channel: a statement for each public function.
use Rattle.std.specs.Prelude.{ℕ, Bool, List, Result, ◌≡◌}
use Rattle.rules.specs.declared.numbers.Refusal.{Refusal}
use Rattle.rules.specs.declared.parts.Straps.{Straps}
use Rattle.rules.specs.declared.wires.Edge.{Edge}
use Rattle.rules.specs.Numbers.{number_of}
use Rattle.steps.specs.declared.map.Op.{Op}
use Rattle.head.specs.declared.state.Answer.{Answer}
use Rattle.head.specs.State.{refused}
use Rattle.channel.specs.declared.state.Channel.{Channel}
use Rattle.channel.specs.declared.state.Stepped.{Stepped}
use Rattle.channel.specs.Range.{in_range}
use Rattle.channel.specs.State.{fresh, on, leaving, stepped}
use Rattle.channel.specs.Step.{served_by, range_number, step_of, bytes_after}
use Rattle.channel.specs.Wires.{triggered}
use Rattle.promises.specs.Promise.{Once, no_second, no_second_number, both}

-- ---- range.rt
pub in_range_once : (self : Channel) → Once Bool (λ r. r ≡ in_range self)
in_range_once self = no_second (λ r h. h)

-- ---- state.rt
pub new_once : (straps : Straps) → Once Channel (λ r. r ≡ fresh straps)
new_once straps = no_second (λ r h. h)

pub answer_once : (self : Channel) (number : ℕ) → Once Stepped (λ r. r ≡ on self (refused self.head number))
answer_once self number = no_second (λ r h. h)

-- ---- step.rt
pub range_number_once : (len : ℕ) (ok : Bool) → Once (Result (Unit {0}) Refusal) (λ r. number_of r ≡ range_number len ok)
range_number_once len ok = no_second_number

pub serve_once : (self : Channel) (number : ℕ) (mem : List ℕ) (op : Op)
    → Once (Answer × Channel × List ℕ) (λ (r, self', mem'). leaving mem' (stepped self' r) ≡ served_by self mem number op)
serve_once self number mem op = no_second (λ o e. λ i. ((e i).stepped.answer, (e i).stepped.channel, (e i).bytes))

pub step_once : (self : Channel) (number : ℕ) (mem : List ℕ) (op : Op)
    → Once (Stepped × List ℕ) (λ (r, mem'). (r ≡ step_of self mem number op) × (mem' ≡ bytes_after self mem number op))
step_once self number mem op = no_second (λ o h. both h.0 h.1)

-- ---- wires.rt
pub trigger_once : (self : Channel) (edge : Edge) → Once (Answer × Channel) (λ (r, self'). stepped self' r ≡ triggered self edge)
trigger_once self edge = no_second (λ o e. λ i. ((e i).answer, (e i).channel))
