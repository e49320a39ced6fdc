-- `seq::commands::save_file` meets its contract: the header of the file that was written says its length.
use Rattle.std.proofs.Common.{arith}
use Rattle.part.specs.State.{wiped}
use Rattle.files.proofs.Laws.Answered.{save_answered}
use Rattle.seq.proofs.Laws.Commands.{sized_done, sized_refused, save_number, save_out}
use Rattle.seq.proofs.commands.save_file.Goals as goal

pub returns-in-0 : goal.returns-in-0
unfolding wiped
returns-in-0 c =
    let room = save_answered _ _ _ _ c.in-0.is _ _ c.save_from-r.ensures.0 c.save_from-r.ensures.1 in
    record {
      tally = c.run_lines-ran.ensures.tally;
      answer = sized_done _ _ _ (save_number c.args.script.now _ _ _ c.args.c c.run_lines-ran.ensures.state _ c.save_from-r.ensures.0) _ c.in-0.is c.size.ensures;
      file = save_out c.args.script.now _ _ _ c.args.c c.run_lines-ran.ensures.state _ c.save_from-r.ensures.1;
      fits = omega (arith, room, c.size.ensures);
    }

pub returns-in_default : goal.returns-in_default
unfolding wiped
returns-in_default c = record {
  tally = c.run_lines-ran.ensures.tally;
  answer = sized_refused _ _ _ (save_number c.args.script.now _ _ _ c.args.c c.run_lines-ran.ensures.state _ c.save_from-r.ensures.0) (λ e. omega (arith, e));
  file = save_out c.args.script.now _ _ _ c.args.c c.run_lines-ran.ensures.state _ c.save_from-r.ensures.1;
  fits = tt;
}
