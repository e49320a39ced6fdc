-- `rules::tables::start_of` meets its contract: the sum so far is `start_of` at the lengths passed.
use Rattle.std.proofs.Common.{◌≡◌, ◌*◌, ◌≤◌}
use Rattle.rules.specs.Tables.{start_of}
use Rattle.rules.proofs.tables.start_of.Given as goal

abbrev pub invariant-loop-len : goal.invariant-loop-len
invariant-loop-len l = (l.sum ≤ 255 * l.len-index) × (l.sum ≡ start_of l.lens l.len-index)
