-- `rules::tables::start_of` meets its contract: the sum so far is `start_of` at the lengths passed.
use Rattle.std.proofs.Common.{arith}
use Rattle.rules.proofs.Laws.Tables.{start_none, start-more, range_below, range_at}
use Rattle.rules.proofs.tables.start_of.Goals as goal

pub loop-len-init : goal.loop-len-init
loop-len-init c = (omega arith, start_none _)

pub loop-len-preserved : goal.loop-len-preserved
loop-len-preserved c =
    let h = range_below c.args.lens.now c.args.v (omega (arith, c.told-lens, c.requires)) _ c.loop-len-test.true in
    (omega (arith, c.loop-len.invariant.0, c.byte-sum.ensures.1), start-more _ _ _ _ c.loop-len.invariant.1 (range_at c.args.lens.now c.args.v (omega (arith, c.told-lens, c.requires)) _ _ h c.byte-sum.ensures.0))
