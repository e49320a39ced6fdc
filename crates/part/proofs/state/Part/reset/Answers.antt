-- `part::state::Part::reset` meets its contract: every byte is zero.
use Rattle.std.proofs.Common.{ℕ, ◌∙◌, ap, replicate}
use Rattle.part.specs.State.{wiped}
use Rattle.part.proofs.state.Part.reset.Goals as goal

pub returns : goal.returns
unfolding wiped
returns c = (rw (c.new.ensures, c.done.ensures), c.wipe.ensures ∙ ap (λ (n : ℕ). replicate n 0) c.requires)
