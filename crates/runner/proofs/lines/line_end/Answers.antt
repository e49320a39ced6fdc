-- `runner::lines::line_end` meets its contract: `position` runs over the bytes from the place on.
use Rattle.std.proofs.Common.{ℕ, ◌+◌, ◌-◌, ◌≡◌, ◌∙◌, arith, eqb, length, take, drop, take_all, length-drop, rules, tests}
use Rattle.std.proofs.lemmas.Iterator.{YieldsList-from_slice}
use Rattle.std.proofs.lemmas.Iterator.Search.{position_from_yields_List}
use Rattle.runner.specs.Lines.{line_end}
use Rattle.runner.proofs.Laws.Lines.{lf_found, no_lf}
use Rattle.runner.proofs.lines.line_end.Goals as goal

pub returns-in-Some : goal.returns-in-Some
unfolding line_end
returns-in-Some c =
    let block = c.args.block.now in
    let from = c.args.from in
    let whole : take (length block - from) (drop from block) ≡ drop from block = take_all _ _ (omega (arith, length-drop from block)) in
    let e =
    lf_found (drop from block) c.position.result
    (position_from_yields_List (λ (b : ℕ). eqb b 10) c.position.new.self _ _ c.position.ensures.ran (YieldsList-from_slice (drop from block) (c.iter.ensures.rest ∙ whole))
    (λ x b q k. search (rules, tests)))
    c.in-Some.n c.in-Some.is in
    omega (arith, e)

pub returns-in-None : goal.returns-in-None
unfolding line_end
returns-in-None c =
    let block = c.args.block.now in
    let from = c.args.from in
    let n = length-drop from block in
    let whole : take (length block - from) (drop from block) ≡ drop from block = take_all _ _ (omega (arith, n)) in
    let e =
    no_lf (drop from block) c.position.result
    (position_from_yields_List (λ (b : ℕ). eqb b 10) c.position.new.self _ _ c.position.ensures.ran (YieldsList-from_slice (drop from block) (c.iter.ensures.rest ∙ whole))
    (λ x b q k. search (rules, tests)))
    c.in-None.is in
    omega (arith, e, n, c.requires)
