-- No second outcome of crate head: a statement for each public function.
use Rattle.std.specs.Prelude.{ℕ, Bool, List, Result, ◌≡◌}
use Rattle.rules.specs.declared.numbers.Refusal.{Refusal}
use Rattle.rules.specs.declared.parts.Kind.{Kind}
use Rattle.rules.specs.declared.parts.Straps.{Straps}
use Rattle.rules.specs.declared.registers.Command.{Command}
use Rattle.rules.specs.declared.registers.Register.{Register}
use Rattle.rules.specs.declared.wires.Action.{Action}
use Rattle.rules.specs.declared.wires.Event.{Event}
use Rattle.rules.specs.Numbers.{done, refusal_number, number_of}
use Rattle.rules.specs.Registers.{chstatus_value}
use Rattle.sequence.specs.declared.wires.Ending.{Ending}
use Rattle.sequence.specs.declared.wires.Fault.{Fault}
use Rattle.sequence.specs.declared.wires.Turn.{Turn}
use Rattle.sequence.specs.Walk.{no_flags}
use Rattle.head.specs.declared.state.Answer.{Answer}
use Rattle.head.specs.declared.state.Head.{Head}
use Rattle.head.specs.declared.state.Settings.{Settings}
use Rattle.head.specs.State.{Headed, headed, fresh_head, numbered, valued, acting, answer_by, replied, with_flags}
use Rattle.head.specs.Head.{kind_of, halt_of, turn_at, stopped, clocked, noted, failed, late_by, faulted, ended_by, frame_ended}
use Rattle.head.specs.Access.{setting_of, setting_set, read_refusal, control_of, data_place, moded, pointed, refusal_of, selected, offset}
use Rattle.head.specs.Range.{head_in}
use Rattle.promises.specs.Promise.{Once, no_second, no_second_number}

-- what is told of a head with an answer tells both
no_second_head : {x : Headed} → Once (Answer × Head) (λ (r, self'). headed self' r ≡ x)
no_second_head = no_second (λ o e. λ i. ((e i).answer, (e i).head))

-- ---- access.rt
pub get_once : (self : Settings) (n : ℕ) → Once ℕ (λ r. r ≡ setting_of self n)
get_once self n = no_second (λ r h. h)

pub set_once : (self : Settings) (n v : ℕ) → Once Settings (λ self'. self' ≡ setting_set self n v)
set_once self n v = no_second (λ r h. h)

pub read_refusal_once : (self : Head) (lens : List ℕ) (reg : Register) → Once (Result (Unit {0}) Refusal) (λ r. number_of r ≡ read_refusal self.ptrs lens reg)
read_refusal_once self lens reg = no_second_number

pub control_once : (self : Head) → Once ℕ (λ r. r ≡ control_of self)
control_once self = no_second (λ r h. h)

pub read_chstatus_once : (self : Head) → Once (Answer × Head) (λ (r, self'). headed self' r ≡ replied (with_flags self no_flags) (chstatus_value self.flags))
read_chstatus_once self = no_second_head

pub set_modes_once : (self : Head) (k : Command) → Once Head (λ self'. self' ≡ moded self k)
set_modes_once self k = no_second (λ r h. h)

pub data_place_once : (self : Head) (lens : List ℕ) → Once ℕ (λ r. r ≡ data_place self lens)
data_place_once self lens = no_second (λ r h. h)

pub set_pointers_once : (self : Head) (k : Command) (place : ℕ) → Once Head (λ self'. self' ≡ pointed self k place)
set_pointers_once self k place = no_second (λ r h. h)

pub refusal_once : (self : Head) (lens : List ℕ) (reg : Register) (v : ℕ) → Once (Result (Unit {0}) Refusal) (λ r. number_of r ≡ refusal_of self lens reg v)
refusal_once self lens reg v = no_second_number

pub select_once : (self : Head) (lens : List ℕ) (v : ℕ) → Once Head (λ self'. self' ≡ selected self lens v)
select_once self lens v = no_second (λ r h. h)

pub offset_once : (self : Head) (lens : List ℕ) (v : ℕ) → Once Head (λ self'. self' ≡ offset self lens v)
offset_once self lens v = no_second (λ r h. h)

-- ---- range.rt
pub in_range_once : (self : Head) (count : ℕ) → Once Bool (λ r. r ≡ head_in self count)
in_range_once self count = no_second (λ r h. h)

-- ---- state.rt
pub numbered_once : (number : ℕ) → Once Answer (λ r. r ≡ numbered number)
numbered_once number = no_second (λ r h. h)

pub done_once : Once Answer (λ r. r ≡ numbered done)
done_once = no_second (λ r h. h)

pub refused_once : (e : Refusal) → Once Answer (λ r. r ≡ numbered (refusal_number e))
refused_once e = no_second (λ r h. h)

pub by_once : (outcome : Result Answer Refusal) → Once Answer (λ r. r ≡ answer_by outcome)
by_once outcome = no_second (λ r h. h)

pub reply_once : (value : ℕ) → Once Answer (λ r. r ≡ valued value)
reply_once value = no_second (λ r h. h)

pub act_once : (action : Action) → Once Answer (λ r. r ≡ acting action)
act_once action = no_second (λ r h. h)

pub new_once : (straps : Straps) → Once Head (λ r. r ≡ fresh_head straps)
new_once straps = no_second (λ r h. h)

-- ---- wires.rt
pub halts_once : (self : Head) → Once Bool (λ r. r ≡ halt_of self)
halts_once self = no_second (λ r h. h)

pub kind_once : (self : Head) → Once Kind (λ r. r ≡ kind_of self)
kind_once self = no_second (λ r h. h)

pub stop_once : (self : Head) (a : Action) → Once (Answer × Head) (λ (r, self'). headed self' r ≡ stopped self a)
stop_once self a = no_second_head

pub clock_once : (self : Head) (n : ℕ) → Once (Answer × Head) (λ (r, self'). headed self' r ≡ clocked self n)
clock_once self n = no_second_head

pub note_once : (self : Head) (read : Bool) → Once Head (λ self'. self' ≡ noted self read)
note_once self read = no_second (λ r h. h)

pub fail_once : (self : Head) → Once (Answer × Head) (λ (r, self'). headed self' r ≡ failed self)
fail_once self = no_second_head

pub be_late_once : (self : Head) → Once Head (λ self'. self' ≡ late_by self)
be_late_once self = no_second (λ r h. h)

pub fault_once : (self : Head) (f : Fault) → Once Head (λ self'. self' ≡ faulted self f)
fault_once self f = no_second (λ r h. h)

pub end_by_once : (self : Head) (e : Ending) → Once Head (λ self'. self' ≡ ended_by self e)
end_by_once self e = no_second (λ r h. h)

pub end_frame_once : (self : Head) → Once Head (λ self'. self' ≡ frame_ended self)
end_frame_once self = no_second (λ r h. h)

pub turn_at_once : (self : Head) (e : Event) → Once Turn (λ r. r ≡ turn_at self e)
turn_at_once self e = no_second (λ r h. h)
