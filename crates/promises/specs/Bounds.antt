-- No second outcome of crate bounds: a statement for each public function.
use Rattle.std.specs.Prelude.{ℕ, Bool, List, ◌≡◌}
use Rattle.rules.specs.declared.parts.Kind.{Kind}
use Rattle.rules.specs.declared.state.Phase.{Phase}
use Rattle.rules.specs.declared.state.Ptrs.{Ptrs}
use Rattle.rules.specs.declared.state.Walk.{Walk}
use Rattle.bounds.specs.Range.{pointers_in, registers_in, walk_in, frame_in, kinds_in}
use Rattle.promises.specs.Promise.{Once, no_second}

pub pointers_in_once : (p : Ptrs) → Once Bool (λ r. r ≡ pointers_in p)
pointers_in_once p = no_second (λ r h. h)

pub registers_in_once : (count transel intmsk : ℕ) → Once Bool (λ r. r ≡ registers_in count transel intmsk)
registers_in_once count transel intmsk = no_second (λ r h. h)

pub walk_in_once : (w : Walk) (te : Bool) (framecnt : ℕ) → Once Bool (λ r. r ≡ walk_in w te framecnt)
walk_in_once w te framecnt = no_second (λ r h. h)

pub frame_in_once : (kind : Kind) (p : Phase) (sla lens counts : List ℕ) → Once Bool (λ r. r ≡ frame_in kind p sla lens counts)
frame_in_once kind p sla lens counts = no_second (λ r h. h)

pub kinds_in_once : (first second third : Kind) → Once Bool (λ r. r ≡ kinds_in first second third)
kinds_in_once first second third = no_second (λ r h. h)
