-- `seq::lines::run_lines` meets its contract: a turn does one line, and what is left to do gives what all gives.
use Rattle.std.proofs.Common.{◌≤◌, length, arith, rules}
use Rattle.runner.proofs.Laws.Lines.{end_after, end_in}
use Rattle.seq.proofs.Laws.Lines.{going_on_lem, going_done}
use Rattle.seq.proofs.lines.run_lines.Goals as goal

pub slice_bounds-read_line-count : goal.slice_bounds-read_line-count
slice_bounds-read_line-count c = omega (arith, end_after c.args.text.now c.loop-from.from, c.line_end-end.ensures)

pub slice_bounds-read_line-start : goal.slice_bounds-read_line-start
slice_bounds-read_line-start c = omega (arith, end_after c.args.text.now c.loop-from.from, c.line_end-end.ensures)

pub slice_bounds-read_line-end : goal.slice_bounds-read_line-end
slice_bounds-read_line-end c =
    let h : c.loop-from.from ≤ length c.args.text.now = search rules in
    omega (arith, end_in c.args.text.now c.loop-from.from h, c.line_end-end.ensures)

pub loop-from-smaller : goal.loop-from-smaller
loop-from-smaller c = omega (arith, end_after c.args.text.now c.loop-from.from, c.line_end-end.ensures, c.loop-from-test.true)

pub loop-from-preserved : goal.loop-from-preserved
loop-from-preserved c =
    let after : c.loop-from.from ≤ c.line_end-end.result = omega (arith, end_after c.args.text.now c.loop-from.from, c.line_end-end.ensures) in (
      search rules,
      going_on_lem _ _ _ _ _ _ _ c.loop-from.invariant.1 _ _ _ _ _ _ c.loop-from-test.true c.line_end-end.ensures c.read_line.ensures
          c.do_line-r.ensures.0 c.do_line-r.ensures.1 c.count.ensures.0 c.count.ensures.1 c.count.ensures.2 after,
    )

pub returns : goal.returns
returns c = going_done _ _ _ _ _ _ _ _ c.loop-from.invariant.1 (search rules) c.new-part.ensures c.new-tally.ensures
