-- `rules::tables::configured` meets its contract: the place is the start of the transaction that comes next, and what is left of it.
use Rattle.std.proofs.Common.{◌<◌, length, arith}
use Rattle.rules.proofs.Laws.Tables.{within, behind_none, behind, behind_all, range_length, range_below, range_at}
use Rattle.rules.proofs.tables.configured.Goals as goal

pub loop-len-init : goal.loop-len-init
loop-len-init c = behind_none c.args.lens.now c.args.at

pub returns-then-left-len : goal.returns-then-left-len
returns-then-left-len c =
    let few : c.byte-count.result < length c.args.lens.now = omega (arith, c.told-lens, c.requires, c.byte-count.ensures.0) in
    let h = range_below c.args.lens.now c.byte-count.result few _ c.loop-len-test.true in
    within _ _ _ _ _ _ c.byte-count.ensures.0 c.loop-len.invariant (range_at c.args.lens.now c.byte-count.result few _ _ h c.byte-len.ensures.0) h c.if-left-len.true

pub loop-len-preserved : goal.loop-len-preserved
loop-len-preserved c =
    let few : c.byte-count.result < length c.args.lens.now = omega (arith, c.told-lens, c.requires, c.byte-count.ensures.0) in
    let h = range_below c.args.lens.now c.byte-count.result few _ c.loop-len-test.true in
    behind _ _ _ _ _ c.loop-len.invariant (range_at c.args.lens.now c.byte-count.result few _ _ h c.byte-len.ensures.0) c.if-left-len.false

pub returns : goal.returns
returns c =
    let few : c.byte-count.result < length c.args.lens.now = omega (arith, c.told-lens, c.requires, c.byte-count.ensures.0) in
    let n = range_length c.args.lens.now c.byte-count.result few in
    behind_all _ _ _ _ _ c.byte-count.ensures.0 c.loop-len.invariant (omega (arith, n, c.loop-len.auto.len-index-end)) (omega (arith, n, c.loop-len-test.false))
