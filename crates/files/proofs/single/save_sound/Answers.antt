-- `files::single::save_sound` meets its contract: refused, or written.
use Rattle.std.proofs.Common.{◌∙◌, sym}
use Rattle.std.proofs.lemmas.Result.{err_from_is_err_and}
use Rattle.rules.proofs.Laws.Numbers.{done_at_ok}
use Rattle.works.specs.Idle.{own_by}
use Rattle.files.specs.Deeds.{save_deed}
use Rattle.files.proofs.Laws.Calls.{busy-did, own-did, done-did}
use Rattle.files.proofs.single.save_sound.Goals as goal

pub returns-in_err-busy_refusal : goal.returns-in_err-busy_refusal
returns-in_err-busy_refusal c =
    let p = err_from_is_err_and c.from_residual.result c.from_residual.ensures.1 in
    rw (p.1, p.2) (busy-did (save_deed c.args.out.now) (own_by c.args.c.now c.args.mem.now) _ c.busy_refusal.ensures _ c.in_err-busy_refusal.was)

pub returns-in_err-room_refusal : goal.returns-in_err-room_refusal
returns-in_err-room_refusal c =
    let p = err_from_is_err_and c.from_residual-in_err-room_refusal.result c.from_residual-in_err-room_refusal.ensures.1 in
    let k = rw c.in_err-room_refusal.was at c.room_refusal.ensures in
    rw (p.1, p.2) (own-did (save_deed c.args.out.now) (own_by c.args.c.now c.args.mem.now) _ c.busy_refusal.ensures _ c.in_ok-busy_refusal.was _ k)

pub save_tables-requires : goal.save_tables-requires
save_tables-requires c = (c.requires, sym c.room_refusal.ensures ∙ done_at_ok _ _ c.in_ok-room_refusal.was)

pub returns : goal.returns
returns c =
    let k = rw c.in_ok-room_refusal.was at c.room_refusal.ensures in
    rw c.save_tables.ensures
    (done-did (save_deed c.args.out.now) (own_by c.args.c.now c.args.mem.now) _ c.busy_refusal.ensures _ c.in_ok-busy_refusal.was k)
