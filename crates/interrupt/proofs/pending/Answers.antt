-- `interrupt::pending` meets its contract.
use Rattle.interrupt.specs.Interrupt.{pending_of}
use Rattle.interrupt.proofs.Laws.Interrupt.{rows, calm_pending}
use mathlib.Core.Path.{◌∙◌, sym}
use Rattle.interrupt.proofs.pending.Goals as goal

pub returns-then-not-calm : goal.returns-then-not-calm
unfolding pending_of
returns-then-not-calm c = search rows

pub returns-else-not-calm : goal.returns-else-not-calm
unfolding pending_of
returns-else-not-calm c = rw (c.if-not-calm.false, calm_pending c.args.kind c.args.f c.args.mask (sym c.calm.ensures ∙ c.if-not-calm.false))
