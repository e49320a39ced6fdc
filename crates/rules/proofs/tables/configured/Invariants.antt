-- `rules::tables::configured` meets its contract: the place is the start of the transaction that comes next, and what is left of it.
use Rattle.std.proofs.Common.{◌≡◌, ◌+◌}
use Rattle.rules.specs.Tables.{start_of}
use Rattle.rules.proofs.tables.configured.Given as goal

abbrev pub invariant-loop-len : goal.invariant-loop-len
invariant-loop-len l = start_of l.lens l.len-index + l.left ≡ l.at
