-- `interrupt::some` meets its contract: what `any` says of the rows.
use Rattle.std.proofs.Common.{Bool, ◌∙◌, rules, tests}
use Rattle.std.proofs.lemmas.Iterator.{YieldsList-from_slice}
use Rattle.std.proofs.lemmas.Iterator.Search.{any_from_yields_List}
use Rattle.interrupt.proofs.Laws.Interrupt.{some_is}
use Rattle.interrupt.proofs.some.Goals as goal

pub returns : goal.returns
returns c =
    any_from_yields_List (λ (row : Bool). row) _ _ _ c.any.ensures.ran (YieldsList-from_slice c.args.rows.now cc) (λ x b q k. search (rules, tests))
    ∙ some_is c.args.rows.now
