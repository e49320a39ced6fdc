-- No second outcome of crate interrupt: a statement for each public function.
use Rattle.std.specs.Prelude.{ℕ, Bool, ◌≡◌}
use Rattle.rules.specs.declared.parts.Kind.{Kind}
use Rattle.rules.specs.declared.state.Flags.{Flags}
use Rattle.interrupt.specs.Interrupt.{ctrl_kept, pending_of, pulled_by, be_after, mask_in}
use Rattle.promises.specs.Promise.{Once, no_second}

pub ctrl_kept_once : (v : ℕ) → Once ℕ (λ r. r ≡ ctrl_kept v)
ctrl_kept_once v = no_second (λ r h. h)

pub pending_once : (kind : Kind) (f : Flags) (mask : ℕ) → Once Bool (λ r. r ≡ pending_of kind f mask)
pending_once kind f mask = no_second (λ r h. h)

pub pulled_once : (be : Bool) (mask : ℕ) (ch0 ch1 ch2 : Bool) → Once Bool (λ r. r ≡ pulled_by be mask ch0 ch1 ch2)
pulled_once be mask ch0 ch1 ch2 = no_second (λ r h. h)

pub be_after_once : (be : Bool) (number : ℕ) → Once Bool (λ r. r ≡ be_after be number)
be_after_once be number = no_second (λ r h. h)

pub mask_in_once : (mask : ℕ) → Once Bool (λ r. r ≡ mask_in mask)
mask_in_once mask = no_second (λ r h. h)
