-- No second outcome of crate rules: a statement for each public function.
use Rattle.std.specs.Prelude.{ℕ, ◌<◌, ◌≤◌, ◌*◌, Bool, List, Option, Result, ◌≡◌, length, replicate}
use Rattle.rules.specs.declared.numbers.Refusal.{Refusal}
use Rattle.rules.specs.declared.parts.Device.{Device}
use Rattle.rules.specs.declared.parts.Kind.{Kind}
use Rattle.rules.specs.declared.registers.Command.{Command}
use Rattle.rules.specs.declared.registers.Register.{Register}
use Rattle.rules.specs.declared.state.Flags.{Flags}
use Rattle.rules.specs.declared.tags.Tag.{Tag}
use Rattle.rules.specs.declared.state.Phase.{Phase}
use Rattle.rules.specs.declared.wires.Action.{Action}
use Rattle.rules.specs.declared.wires.Event.{Event}
use Rattle.rules.specs.Access.{busy_refusal, past_refusal, place_refusal, sla_refusal, conf_refusal, spot_of, spot_refusal, data_refusal, sel_refusal}
use Rattle.rules.specs.Access.{overrun_of, preset_of, key_after, resets_of}
use Rattle.rules.specs.Facts.{Configured, KnownPlace}
use Rattle.rules.specs.Numbers.{refusal_number, number_of}
use Rattle.rules.specs.Parts.{is_fm, other_kind, device_by, device_id}
use Rattle.rules.specs.Registers.{place_of, active_of, bit_of, command_of, weigh, control_value, chstatus_value, mask_kept}
use Rattle.rules.specs.Tables.{start_of, fitting, reads_of, skipped_of, first_sent, marked}
use Rattle.rules.specs.Tags.{tag, action_tag, event_of}
use Rattle.promises.specs.Promise.{Once, no_second, no_second_number}

-- ---- numbers.rt
pub number_once : (self : Refusal) → Once ℕ (λ r. r ≡ refusal_number self)
number_once self = no_second (λ r h. h)

pub number_of_once : (outcome : Result (Unit {0}) Refusal) → Once ℕ (λ r. r ≡ number_of outcome)
number_of_once outcome = no_second (λ r h. h)

-- ---- access.rt
pub busy_refusal_once : (p : Phase) → Once (Result (Unit {0}) Refusal) (λ r. number_of r ≡ busy_refusal p)
busy_refusal_once p = no_second_number

pub past_refusal_once : (last at : ℕ) → Once (Result (Unit {0}) Refusal) (λ r. number_of r ≡ past_refusal last at)
past_refusal_once last at = no_second_number

pub place_refusal_once : (at : ℕ) → Once (Result (Unit {0}) Refusal) (λ r. number_of r ≡ place_refusal at)
place_refusal_once at = no_second_number

pub sla_refusal_once : (p : Phase) (at : ℕ) → Once (Result (Unit {0}) Refusal) (λ r. number_of r ≡ sla_refusal p at)
sla_refusal_once p at = no_second_number

pub conf_refusal_once : (p : Phase) (at v : ℕ) → Once (Result (Unit {0}) Refusal) (λ r. number_of r ≡ conf_refusal p at v)
conf_refusal_once p at v = no_second_number

pub find_place_once : (lens : List ℕ) (at : ℕ) → Once (Option ℕ) (λ r. (r ≡ spot_of lens at) × Configured lens r)
find_place_once lens at = no_second (λ r h. h.0)

pub spot_refusal_once : (s : Option ℕ) → Once (Result (Unit {0}) Refusal) (λ r. number_of r ≡ spot_refusal s)
spot_refusal_once s = no_second_number

pub data_refusal_once : (p : Phase) (s : Option ℕ) → Once (Result (Unit {0}) Refusal) (λ r. number_of r ≡ data_refusal p s)
data_refusal_once p s = no_second_number

pub sel_refusal_once : (lens : List ℕ) (v : ℕ) → Once (Result (Unit {0}) Refusal) (λ r. number_of r ≡ sel_refusal lens v)
sel_refusal_once lens v = no_second_number

pub overrun_once : (aiptrrst : Bool) (place : ℕ) → Once Bool (λ r. r ≡ overrun_of aiptrrst place)
overrun_once aiptrrst place = no_second (λ r h. h)

pub is_preset_once : (reg : Register) → Once Bool (λ r. r ≡ preset_of reg)
is_preset_once reg = no_second (λ r h. h)

pub key_after_once : (preset : Bool) (v : ℕ) → Once Bool (λ r. r ≡ key_after preset v)
key_after_once preset v = no_second (λ r h. h)

pub resets_once : (preset : Bool) (v : ℕ) (key : Bool) → Once Bool (λ r. r ≡ resets_of preset v key)
resets_once preset v key = no_second (λ r h. h)

-- ---- parts.rt
pub is_fm_once : (k : Kind) → Once Bool (λ r. r ≡ is_fm k)
is_fm_once k = no_second (λ r h. h)

pub other_kind_once : (d : Device) → Once Kind (λ r. r ≡ other_kind d)
other_kind_once d = no_second (λ r h. h)

pub device_by_once : (k : Kind) → Once Device (λ r. r ≡ device_by k)
device_by_once k = no_second (λ r h. h)

pub device_id_once : (d : Device) → Once ℕ (λ r. r ≡ device_id d)
device_id_once d = no_second (λ r h. h)

-- ---- registers.rt
pub place_of_once : (c a : ℕ) → Once (Option Register) (λ r. (r ≡ place_of c a) × KnownPlace r)
place_of_once c a = no_second (λ r h. h.0)

pub active_once : (p : Phase) → Once Bool (λ r. r ≡ active_of p)
active_once p = no_second (λ r h. h)

pub bit_once : (v w : ℕ) → Once Bool (λ r. r ≡ bit_of v w)
bit_once v w = no_second (λ r h. h)

pub command_of_once : (v : ℕ) → Once Command (λ r. r ≡ command_of v)
command_of_once v = no_second (λ r h. h)

pub weight_once : (b : Bool) (w : ℕ) → Once ℕ (λ r. (r ≡ weigh b w) × (r ≤ w))
weight_once b w = no_second (λ r h. h.0)

pub control_value_once : (seq sta sto tp te : Bool) → Once ℕ (λ r. r ≡ control_value seq sta sto tp te)
control_value_once seq sta sto tp te = no_second (λ r h. h)

pub chstatus_value_once : (f : Flags) → Once ℕ (λ r. r ≡ chstatus_value f)
chstatus_value_once f = no_second (λ r h. h)

pub mask_kept_once : (v : ℕ) → Once ℕ (λ r. r ≡ mask_kept v)
mask_kept_once v = no_second (λ r h. h)

-- ---- tables.rt
pub byte_once : (x : ℕ) → Once ℕ (λ r. (r ≡ x) × (r < 256))
byte_once x = no_second (λ r h. h.0)

pub start_of_once : (lens : List ℕ) (v : ℕ) → Once ℕ (λ r. (r ≡ start_of lens v) × (r ≤ 255 * v))
start_of_once lens v = no_second (λ r h. h.0)

pub fits_once : (lens : List ℕ) → Once Bool (λ r. r ≡ fitting lens)
fits_once lens = no_second (λ r h. h)

pub reads_once : (sla : ℕ) → Once Bool (λ r. r ≡ reads_of sla)
reads_once sla = no_second (λ r h. h)

pub skipped_once : (kind : Kind) (sla len : ℕ) → Once Bool (λ r. r ≡ skipped_of kind sla len)
skipped_once kind sla len = no_second (λ r h. h)

pub first_sent_once : (kind : Kind) (sla lens : List ℕ) (from count : ℕ) → Once ℕ (λ r. (r ≡ first_sent kind sla lens from count) × (from ≤ r) × (r ≤ count))
first_sent_once kind sla lens from count = no_second (λ r h. h.0)

pub mark_once : (status : List ℕ) (from to : ℕ) → Once (List ℕ) (λ status'. status' ≡ marked status from to)
mark_once status from to = no_second (λ r h. h)

pub wipe_once : (mem : List ℕ) → Once (List ℕ) (λ mem'. mem' ≡ replicate (length mem) 0)
wipe_once mem = no_second (λ r h. h)

-- ---- tags.rt
pub action_tag_once : (a : Action) → Once Tag (λ r. r ≡ action_tag a)
action_tag_once a = no_second (λ r h. h)

pub event_of_once : (kind value : ℕ) → Once (Option Event) (λ r. r ≡ event_of (tag kind value))
event_of_once kind value = no_second (λ r h. h)
