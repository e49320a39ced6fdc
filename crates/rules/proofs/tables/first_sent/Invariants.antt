-- `rules::tables::first_sent` meets its contract: what is found from i is what is found from the start, of whichever kind skips reads up to that length.
use Prim.Native.Nat.{◌-◌, ◌≤◌}
use Rattle.rules.specs.declared.parts.Kind.{Kind}
use Rattle.rules.specs.Tables.{longest_skipped, first_sent}
use mathlib.Core.Path.{◌≡◌}
use Rattle.rules.proofs.tables.first_sent.Given as goal

abbrev pub invariant-loop-i : goal.invariant-loop-i
invariant-loop-i l = (l.from ≤ l.i) × (l.i ≤ l.count) × ((k : Kind) → l.most ≡ longest_skipped k → first_sent k l.sla l.lens l.i l.count ≡ first_sent k l.sla l.lens l.from l.count)

abbrev pub decreases-loop-i : goal.decreases-loop-i
decreases-loop-i l = l.count - l.i
