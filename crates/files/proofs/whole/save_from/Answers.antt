-- `files::whole::save_from` meets its contract: no. 9, no. 1, or the channel's.
use Rattle.std.proofs.Common.{arith}
use Rattle.std.proofs.Math.Seq.{set-get_or}
use Rattle.part.specs.State.{blank, chan}
use Rattle.works.proofs.Laws.Calls.{call_refused, call_open, call_did, window-ends, window-lent, window_accepted}
use Rattle.files.specs.Deeds.{save_deed, save_work}
use Rattle.files.proofs.Laws.Calls.{did_in}
use Rattle.files.proofs.Laws.Stays.{save_calm}
use Rattle.files.proofs.whole.save_from.Goals as goal

pub returns-in-Err : goal.returns-in-Err
returns-in-Err c = let a = c.args in
    let t = call_refused (save_work a.out.now) a.p a.mem.now a.c _ c.call_refusal.ensures _ c.in-Err.is _ (rw c.number.ensures at c.answer.ensures) in (t.0, t.2)

pub bounds-p-i : goal.bounds-p-i
bounds-p-i c = let a = c.args in
    let o = call_open (save_work a.out.now) a.p a.mem.now a.c _ c.call_refusal.ensures _ c.in_default.is in
    let few = o.1 in let i = c.from-i.ensures in omega (arith, few, i)

pub slice_bounds-save_sound-end : goal.slice_bounds-save_sound-end
slice_bounds-save_sound-end c = let a = c.args in
    let w = save_work a.out.now in
    let o = call_open w a.p a.mem.now a.c _ c.call_refusal.ensures _ c.in_default.is in
    rw c.from-i.ensures (window-ends w a.p a.mem.now a.c o.0 o.1)

pub save_sound-outcome-requires : goal.save_sound-outcome-requires
save_sound-outcome-requires c = let a = c.args in
    let w = save_work a.out.now in
    let o = call_open w a.p a.mem.now a.c _ c.call_refusal.ensures _ c.in_default.is in
    rw c.from-i.ensures (window_accepted w a.p a.mem.now a.c o.0 o.1)

pub returns : goal.returns
returns c = let a = c.args in
    let w = save_work a.out.now in
    let o = call_open w a.p a.mem.now a.c _ c.call_refusal.ensures _ c.in_default.is in
    let lent = window-lent w a.p a.mem.now a.c o.0 o.1 in
    let did = did_in (save_deed a.out.now) (chan a.p a.c) _ _ _ _ _ lent (rw c.from-i.ensures at c.save_sound-outcome.ensures) in
    let calm = save_calm a.out.now _ in
    let same = set-get_or a.p.channels a.c blank in
    let t = call_did (save_deed a.out.now) a.p a.mem.now a.c o.0 o.1 calm _ _ _ did _ (rw same (rw c.number_of.ensures at c.answer-2.ensures)) in (t.0, t.2)
