-- No second outcome of what crate head defines: functions of channel compute most of it as a part of theirs.
use Rattle.std.specs.Prelude.{ℕ, Bool, List, ◌≡◌, get_or, set}
use Rattle.rules.specs.declared.state.Phase.{Phase}
use Rattle.rules.specs.Registers.{mask_kept}
use Rattle.rules.specs.declared.wires.Action.{Action}
use Rattle.sequence.specs.declared.wires.Ending.{Ending}
use Rattle.sequence.specs.declared.wires.Fault.{Fault}
use Rattle.head.specs.declared.state.Head.{Head}
use Rattle.head.specs.State.{Headed, refused, plain, replied, acted, with_key, with_settings}
use Rattle.head.specs.Head.{in_phase, idled, late_by, faulted, ended_by, frame_ended}
use Rattle.head.specs.Head.{waits, sto_taken, seq_taken, sla_next, conf_next, count_next, data_next, mask_to}
use Rattle.head.specs.Access.{setting_of, setting_set, control_of, selected, offset}
use Rattle.promises.specs.Promise.{Once, no_second, both}

pub read_status_once : (self : Head) (status : List ℕ) (n : ℕ) → Once Headed (λ r. r ≡ replied self (get_or status n 0))
read_status_once self status n = no_second (λ r h. h)

pub read_control_once : (self : Head) → Once Headed (λ r. r ≡ replied self (control_of self))
read_control_once self = no_second (λ r h. h)

pub read_sla_once : (self : Head) (sla : List ℕ) → Once Headed (λ r. r ≡ replied (sla_next self) (get_or sla self.ptrs.sla 0))
read_sla_once self sla = no_second (λ r h. h)

pub read_conf_once : (self : Head) (lens : List ℕ) → Once Headed (λ r. r ≡ replied (conf_next self) (get_or lens self.ptrs.conf 0))
read_conf_once self lens = no_second (λ r h. h)

pub read_data_once : (self : Head) (mem : List ℕ) → Once Headed (λ r. r ≡ replied (data_next self) (get_or mem self.ptrs.buf 0))
read_data_once self mem = no_second (λ r h. h)

pub read_count_once : (self : Head) (counts : List ℕ) → Once Headed (λ r. r ≡ replied (count_next self) (get_or counts self.ptrs.count 0))
read_count_once self counts = no_second (λ r h. h)

pub read_setting_once : (self : Head) (n : ℕ) → Once Headed (λ r. r ≡ replied self (setting_of self.settings n))
read_setting_once self n = no_second (λ r h. h)

pub wait_once : (self : Head) → Once Headed (λ r. r ≡ plain (waits self))
wait_once self = no_second (λ r h. h)

pub take_sto_once : (self : Head) → Once Headed (λ r. r ≡ plain (sto_taken self))
take_sto_once self = no_second (λ r h. h)

pub take_seq_once : (self : Head) → Once Headed (λ r. r ≡ plain (seq_taken self))
take_seq_once self = no_second (λ r h. h)

pub write_mask_once : (self : Head) (v : ℕ) → Once Headed (λ r. r ≡ plain (mask_to self (mask_kept v)))
write_mask_once self v = no_second (λ r h. h)

pub write_sla_once : (self : Head) (sla : List ℕ) (v : ℕ) → Once (Headed × List ℕ) (λ (r, sla'). (r ≡ plain (sla_next self)) × (sla' ≡ set sla self.ptrs.sla v))
write_sla_once self sla v = no_second (λ o h. both h.0 h.1)

pub write_conf_once : (self : Head) (lens : List ℕ) (v : ℕ) → Once (Headed × List ℕ) (λ (r, lens'). (r ≡ plain (conf_next self)) × (lens' ≡ set lens self.ptrs.conf v))
write_conf_once self lens v = no_second (λ o h. both h.0 h.1)

pub write_data_once : (self : Head) (mem : List ℕ) (v : ℕ) → Once (Headed × List ℕ) (λ (r, mem'). (r ≡ plain (data_next self)) × (mem' ≡ set mem self.ptrs.buf v))
write_data_once self mem v = no_second (λ o h. both h.0 h.1)

pub write_setting_once : (self : Head) (n v : ℕ) → Once Headed (λ r. r ≡ plain (with_settings self (setting_set self.settings n v)))
write_setting_once self n v = no_second (λ r h. h)

pub answer_once : (self : Head) (number : ℕ) → Once Headed (λ r. r ≡ refused self number)
answer_once self number = no_second (λ r h. h)

pub with_key_once : (self : Head) (key : Bool) → Once Head (λ r. r ≡ with_key self key)
with_key_once self key = no_second (λ r h. h)

pub anew_once : (self : Headed) → Once Headed (λ r. r ≡ self)
anew_once self = no_second (λ r h. h)

pub to_phase_once : (self : Head) (phase : Phase) → Once Head (λ r. r ≡ in_phase self phase)
to_phase_once self phase = no_second (λ r h. h)

pub to_idle_once : (self : Head) → Once Head (λ r. r ≡ idled self)
to_idle_once self = no_second (λ r h. h)

-- ---- a head and the answer beside it, where a function changes the head alone or makes the answer alone
pub select_once : (self : Head) (lens : List ℕ) (v : ℕ) → Once Headed (λ r. r ≡ plain (selected self lens v))
select_once self lens v = no_second (λ r h. h)

pub offset_once : (self : Head) (lens : List ℕ) (v : ℕ) → Once Headed (λ r. r ≡ plain (offset self lens v))
offset_once self lens v = no_second (λ r h. h)

pub reply_once : (self : Head) (value : ℕ) → Once Headed (λ r. r ≡ replied self value)
reply_once self value = no_second (λ r h. h)

pub act_once : (self : Head) (action : Action) → Once Headed (λ r. r ≡ acted self action)
act_once self action = no_second (λ r h. h)

pub be_late_once : (self : Head) → Once Headed (λ r. r ≡ plain (late_by self))
be_late_once self = no_second (λ r h. h)

pub fault_once : (self : Head) (f : Fault) → Once Headed (λ r. r ≡ plain (faulted self f))
fault_once self f = no_second (λ r h. h)

pub end_by_once : (self : Head) (e : Ending) → Once Headed (λ r. r ≡ plain (ended_by self e))
end_by_once self e = no_second (λ r h. h)

pub end_frame_once : (self : Head) → Once Headed (λ r. r ≡ plain (frame_ended self))
end_frame_once self = no_second (λ r h. h)
