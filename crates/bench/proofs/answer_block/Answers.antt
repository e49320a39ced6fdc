-- `bench::answer_block` meets its contract.
use Rattle.std.proofs.Common.{◌-◌, length, take, drop, length-drop, take_all, ◌∙◌, arith}
use Rattle.bench.proofs.Laws.Blocks.{block-heard}
use Rattle.bench.proofs.answer_block.Goals as goal

pub returns : goal.returns
returns c =
    let block = take (c.args.till - c.args.from) (drop c.args.from c.args.block.now) in
    let from = c.answer_lines-r.result.from in
    let n = length-drop from block in
    block-heard c.args.s _ _ block _ _ _ _ c.requires.0 c.answer_lines-r.ensures
    (c.lengthen.ensures ∙ rw (c.no_line.ensures, take_all (length block - from) (drop from block) (omega (arith, n))))
