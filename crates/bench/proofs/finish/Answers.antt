-- `bench::finish` meets its contract: an LF is put behind the last line, if that has a byte.
use Rattle.std.proofs.Common.{ℕ, List, take, drop, ◌∙◌, ap, arith, rules}
use Rattle.bench.proofs.Laws.Blocks.{last_heard, silent_closed}
use Rattle.runner.proofs.Laws.Lines.{put_one}
use Rattle.script.specs.Grammar.{line_room}
use Rattle.bench.proofs.finish.Goals as goal

-- the last line has a byte
pub returns-then-begun : goal.returns-then-begun
unfolding line_room
returns-then-begun c =
    let behind = ap (λ (x : List ℕ). take 1 (drop line_room x)) c.put.ensures.bytes ∙ put_one c.args.b.now.block 10 (search rules) in
    last_heard c.args.s _ _ _ _ _ behind c.answer_from.ensures.block_unchanged.1 (omega (arith, c.if-begun.true)) c.answer_from.ensures.heard

-- or none
pub returns-else-begun : goal.returns-else-begun
returns-else-begun c = silent_closed c.args.s _ _ _ c.silent.ensures (omega (arith, c.if-begun.false)) c.requires
