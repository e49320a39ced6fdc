-- `files::format::headed_by` meets its contract: the twelve bytes are the header, or are not.
use Rattle.std.proofs.Common.{refl, ◌∙◌}
use Rattle.files.specs.File.{headed}
use Rattle.files.proofs.format.headed_by.Goals as goal

pub returns-then-eq : goal.returns-then-eq
unfolding headed
returns-then-eq c = let h = c.as_flattened.ensures.value ∙ c.header.ensures in rw (← h, ← c.eq.ensures, c.if-eq.true) refl

pub returns-else-eq : goal.returns-else-eq
unfolding headed
returns-else-eq c = let h = c.as_flattened.ensures.value ∙ c.header.ensures in rw (← h, ← c.eq.ensures, c.if-eq.false) refl
