-- `files::whole::load_into` meets its contract: no. 9, no. 1, or the channel's.
use Rattle.std.proofs.Common.{◌∙◌, arith}
use Rattle.part.specs.State.{chan}
use Rattle.works.proofs.Laws.Calls.{call_refused, call_open, call_did, window-ends, window-lent, window_accepted, window-put}
use Rattle.files.specs.Deeds.{load_deed, load_work}
use Rattle.files.proofs.Laws.Calls.{did_in}
use Rattle.files.proofs.Laws.Stays.{load_calm}
use Rattle.files.proofs.whole.load_into.Goals as goal

pub returns-in-Err : goal.returns-in-Err
returns-in-Err c = let a = c.args in
    let t = call_refused (load_work a.file.now) a.p a.mem.now a.c _ c.call_refusal.ensures _ c.in-Err.is _ (rw c.number.ensures at c.answer.ensures) in (t.0, t.1)

pub bounds-p-i : goal.bounds-p-i
bounds-p-i c = let a = c.args in
    let o = call_open (load_work a.file.now) a.p a.mem.now a.c _ c.call_refusal.ensures _ c.in_default.is in
    let few = o.1 in let i = c.from-i.ensures in omega (arith, few, i)

pub slice_bounds-load_sound-end : goal.slice_bounds-load_sound-end
slice_bounds-load_sound-end c = let a = c.args in
    let w = load_work a.file.now in
    let o = call_open w a.p a.mem.now a.c _ c.call_refusal.ensures _ c.in_default.is in
    rw c.from-i.ensures (window-ends w a.p a.mem.now a.c o.0 o.1)

pub load_sound-outcome-requires : goal.load_sound-outcome-requires
load_sound-outcome-requires c = let a = c.args in
    let w = load_work a.file.now in
    let o = call_open w a.p a.mem.now a.c _ c.call_refusal.ensures _ c.in_default.is in
    rw c.from-i.ensures (window_accepted w a.p a.mem.now a.c o.0 o.1)

pub returns : goal.returns
returns c = let a = c.args in
    let w = load_work a.file.now in
    let o = call_open w a.p a.mem.now a.c _ c.call_refusal.ensures _ c.in_default.is in
    let lent = window-lent w a.p a.mem.now a.c o.0 o.1 in
    let did = did_in (load_deed a.file.now) (chan a.p a.c) _ _ _ _ _ lent (rw c.from-i.ensures at c.load_sound-outcome.ensures) in
    let calm = load_calm a.file.now _ in
    let t = call_did (load_deed a.file.now) a.p a.mem.now a.c o.0 o.1 calm _ _ _ did _ (rw (c.from-i.ensures, c.number_of.ensures) at c.answer-2.ensures) in
    (t.0, (rw c.from-i.ensures (window-put w a.p a.mem.now a.c o.0 o.1 _)) ∙ t.1)
