-- `bench::answer_from` meets its contract.
use Rattle.bench.proofs.Laws.Blocks.{from-heard}
use Rattle.script.specs.Grammar.{line_room}
use Rattle.bench.proofs.answer_from.Goals as goal

pub returns-clause-heard : goal.returns-clause-heard
unfolding line_room
returns-clause-heard c =
    let p = c.put_start-at.ensures in
    let h = from-heard c.args.s _ c.args.b.now.block c.args.n c.put_start-at.result c.kept.result _ _ _ _ c.requires.0 p.0 p.1 p.2 c.kept.ensures.0
    c.kept.ensures.1 c.requires.1 c.answer_block.ensures in
    h.0

pub returns-clause-block_unchanged : goal.returns-clause-block_unchanged
unfolding line_room
returns-clause-block_unchanged c =
    let p = c.put_start-at.ensures in
    let h = from-heard c.args.s _ c.args.b.now.block c.args.n c.put_start-at.result c.kept.result _ _ _ _ c.requires.0 p.0 p.1 p.2 c.kept.ensures.0
    c.kept.ensures.1 c.requires.1 c.answer_block.ensures in
    (h.1, h.2)
