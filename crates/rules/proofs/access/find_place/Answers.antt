-- `rules::access::find_place` meets its contract: a place that passes both tests is the one that was asked for, and no other is found.
use Rattle.std.proofs.Common.{◌∙◌, refl, lt-ltb, le-ltb}
use Rattle.rules.specs.Access.{spot_of}
use Rattle.rules.proofs.Laws.Access.{finds, then_some_if}
use Rattle.rules.proofs.access.find_place.Goals.{then-at-lt-BUFFER, else-at-lt-BUFFER}
use Rattle.rules.proofs.access.find_place.Goals as goal

pub returns : goal.returns
unfolding spot_of
returns c = finds _ _ _ (c.then_some.ensures ∙ elim c.if-at-lt-BUFFER.branch [
  | then-at-lt-BUFFER w ↦ rw (w.then_some-is, w.configured.ensures, lt-ltb _ _ w.if-at-lt-BUFFER.true) (then_some_if _ _)
  | else-at-lt-BUFFER w ↦ rw (w.then_some-is, le-ltb _ _ w.if-at-lt-BUFFER.false) refl
])
