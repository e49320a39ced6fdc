-- `rules::tables::first_sent` meets its contract: what is found from i is what is found from the start, of whichever kind skips reads up to that length.
use Rattle.rules.proofs.Laws.Tables.{sent_end, sent-found, sent-more}
use borrow.Author.Rules.{rules}
use Rattle.rules.proofs.tables.first_sent.Goals as goal

pub loop-i-preserved : goal.loop-i-preserved
loop-i-preserved c = (search rules, search rules, λ k e. sent-more k _ _ _ _ _ _ (c.loop-i.invariant.2 k e) c.if-count-i.false (c.skips.ensures k e) c.if-not-skips.false-raw)

pub returns-then-count-i : goal.returns-then-count-i
returns-then-count-i c = (sent_end _ _ _ _ _ _ (c.loop-i.invariant.2 _ c.longest_skipped-most.ensures) c.loop-i.invariant.1 c.if-count-i.true, search rules, search rules)

pub returns-then-not-skips : goal.returns-then-not-skips
returns-then-not-skips c = let e = c.longest_skipped-most.ensures in
    (sent-found _ _ _ _ _ _ _ (c.loop-i.invariant.2 _ e) c.if-count-i.false (c.skips.ensures _ e) c.if-not-skips.true-raw, search rules, search rules)
