-- No second outcome of crate files: a statement for each public function.
use Rattle.std.specs.Prelude.{ℕ, List, Result, ◌≡◌}
use Rattle.channel.specs.declared.state.Channel.{Channel}
use Rattle.channel.specs.declared.state.Stepped.{Stepped}
use Rattle.part.specs.declared.state.Part.{Part}
use Rattle.part.specs.declared.state.PartStepped.{PartStepped}
use Rattle.works.specs.Idle.{alone_by, call_step, call_bytes, call_out}
use Rattle.files.specs.declared.format.Fault.{Fault}
use Rattle.files.specs.File.{fault_of}
use Rattle.files.specs.Deeds.{load_work, save_work}
use Rattle.promises.specs.Promise.{Once, no_second, both}

-- ---- format.rt
pub fault_of_once : (file : List ℕ) → Once (Result (Unit {0}) Fault) (λ r. r ≡ fault_of file)
fault_of_once file = no_second (λ r h. h)

-- ---- single.rt
pub load_once : (c : Channel) (mem file : List ℕ)
    → Once (Stepped × List ℕ) (λ (r, mem'). (r ≡ (alone_by (load_work file) c mem).stepped) × (mem' ≡ (alone_by (load_work file) c mem).bytes))
load_once c mem file = no_second (λ o h. both h.0 h.1)

pub save_once : (c : Channel) (mem out : List ℕ)
    → Once (Stepped × List ℕ) (λ (r, out'). (r ≡ (alone_by (save_work out) c mem).stepped) × (out' ≡ (alone_by (save_work out) c mem).out))
save_once c mem out = no_second (λ o h. both h.0 h.1)

-- ---- whole.rt
pub load_into_once : (p : Part) (mem : List ℕ) (c : ℕ) (file : List ℕ)
    → Once (PartStepped × List ℕ) (λ (r, mem'). (r ≡ call_step (load_work file) p mem c) × (mem' ≡ call_bytes (load_work file) p mem c))
load_into_once p mem c file = no_second (λ o h. both h.0 h.1)

pub save_from_once : (p : Part) (mem : List ℕ) (c : ℕ) (out : List ℕ)
    → Once (PartStepped × List ℕ) (λ (r, out'). (r ≡ call_step (save_work out) p mem c) × (out' ≡ call_out (save_work out) p mem c))
save_from_once p mem c out = no_second (λ o h. both h.0 h.1)
