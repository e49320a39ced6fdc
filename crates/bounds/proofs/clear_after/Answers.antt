-- `bounds::clear_after` meets its contract: what `all` says of the entries behind the first `from`.
use Rattle.std.proofs.Common.{◌∙◌, eqb, rules, tests}
use Rattle.std.proofs.lemmas.Iterator.{YieldsList-from_slice}
use Rattle.std.proofs.lemmas.Iterator.Adapters.{YieldsList-from_skip}
use Rattle.std.proofs.lemmas.Iterator.Search.{all_from_yields_List}
use Rattle.bounds.proofs.Laws.Range.{clear_all}
use Rattle.bounds.proofs.clear_after.Goals as goal

pub returns : goal.returns
returns c =
    all_from_yields_List (λ n. eqb n 0) _ _ _ c.all.ensures.ran (YieldsList-from_skip _ (YieldsList-from_slice c.args.counts.now cc) c.skip.ensures.count) (λ x b q k. search (rules, tests))
    ∙ clear_all c.args.counts.now c.args.from c.told-counts
