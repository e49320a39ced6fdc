-- `files::single::load` meets its contract: no. 9, or the file read.
use Rattle.works.proofs.Laws.Calls.{alone_accepts, alone_refused, alone_did}
use Rattle.files.specs.Deeds.{load_deed, load_work}
use Rattle.files.proofs.single.load.Goals as goal

pub returns-in-Err : goal.returns-in-Err
returns-in-Err c = let a = c.args in
    let t = alone_refused (load_work a.file.now) a.c a.mem.now _ (rw c.in_range.ensures at c.range_number.ensures) _ c.in-Err.is _ (rw c.number.ensures at c.answer.ensures) in (t.0, t.1)

pub load_sound-outcome-requires : goal.load_sound-outcome-requires
load_sound-outcome-requires c = let a = c.args in
    alone_accepts (load_work a.file.now) a.c a.mem.now _ (rw c.in_range.ensures at c.range_number.ensures) _ c.in_default.is

pub returns : goal.returns
returns c = let a = c.args in
    let t = alone_did (load_deed a.file.now) a.c a.mem.now _ (rw c.in_range.ensures at c.range_number.ensures) _ c.in_default.is _ _ _ c.load_sound-outcome.ensures _ (rw c.number_of.ensures at c.answer-2.ensures) in (t.0, t.1)
