-- `files::single::save` meets its contract: no. 9, or the file written.
use Rattle.works.proofs.Laws.Calls.{alone_accepts, alone_refused, alone_did}
use Rattle.files.specs.Deeds.{save_deed, save_work}
use Rattle.files.proofs.single.save.Goals as goal

pub returns-in-Err : goal.returns-in-Err
returns-in-Err c = let a = c.args in
    let t = alone_refused (save_work a.out.now) a.c a.mem.now _ (rw c.in_range.ensures at c.range_number.ensures) _ c.in-Err.is _ (rw c.number.ensures at c.answer.ensures) in (t.0, t.2)

pub save_sound-outcome-requires : goal.save_sound-outcome-requires
save_sound-outcome-requires c = let a = c.args in
    alone_accepts (save_work a.out.now) a.c a.mem.now _ (rw c.in_range.ensures at c.range_number.ensures) _ c.in_default.is

pub returns : goal.returns
returns c = let a = c.args in
    let t = alone_did (save_deed a.out.now) a.c a.mem.now _ (rw c.in_range.ensures at c.range_number.ensures) _ c.in_default.is _ _ _ c.save_sound-outcome.ensures _ (rw c.number_of.ensures at c.answer-2.ensures) in (t.0, t.2)
