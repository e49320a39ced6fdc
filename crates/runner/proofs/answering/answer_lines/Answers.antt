-- `runner::answering::answer_lines` meets its contract: each turn answers one line, and what is left to answer is the same as at the start.
use Rattle.std.proofs.Common.{◌∙◌, [], refl, arith, rules}
use Rattle.runner.proofs.Laws.Feeding.{going_done, going_on_lem, put-length}
use Rattle.runner.proofs.Laws.Lines.{end_after, end_in}
use Rattle.runner.proofs.answering.answer_lines.Goals as goal

pub loop-end-init : goal.loop-end-init
loop-end-init c = (
  refl,
  record {
    whole = c.requires.0;
    told = [];
    texts = refl;
    ends = refl;
    rests = refl;
    put = record { place = omega arith; bytes = refl };
    room = c.requires.2;
    here = c.line_end-end.ensures;
    inside = c.requires.1;
  },
)

-- ---- a line lies in the block
pub slice_bounds-do_line-count : goal.slice_bounds-do_line-count
slice_bounds-do_line-count c = omega (arith, end_after c.args.block.now c.loop-end.c.from, c.loop-end.invariant.1.here)

pub slice_bounds-do_line-start : goal.slice_bounds-do_line-start
slice_bounds-do_line-start c =
    let g = c.loop-end.invariant.1 in
    omega (arith, end_after c.args.block.now c.loop-end.c.from, end_in c.args.block.now c.loop-end.c.from g.inside, g.here)

-- ---- a turn; what a line leaves is searched, so that `common_not_told` is refused for BE and not for the form of its text
pub loop-end-smaller : goal.loop-end-smaller
loop-end-smaller c = omega (arith, end_after c.args.block.now c.loop-end.c.from, c.loop-end.invariant.1.here)

pub loop-end-preserved : goal.loop-end-preserved
loop-end-preserved c = (
  put-length _ _ _ _ _ c.write_answer.ensures.0 ∙ c.loop-end.invariant.0,
  going_on_lem c.args.block.now _ _ _ c.loop-end.c c.loop-end.mem c.loop-end.out c.loop-end.end c.loop-end.invariant.1 _ _ _ _ _ _ _ _ c.loop-end-test.true
      c.do_line-answer.ensures.answer (search rules) c.next_number.ensures c.interrupt.ensures c.write_answer.ensures.0 c.write_answer.ensures.1
      c.line_end-end-in-loop-end.ensures,
)

-- ---- after the loop
pub returns : goal.returns
returns c = going_done c.args.block.now _ _ _ c.loop-end.c c.loop-end.mem c.loop-end.out c.loop-end.end c.loop-end.invariant.1 c.loop-end-test.false
