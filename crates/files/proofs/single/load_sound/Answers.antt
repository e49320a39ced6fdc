-- `files::single::load_sound` meets its contract: refused, or read.
use Rattle.std.proofs.Common.{◌∙◌, ap, sym}
use Rattle.std.proofs.lemmas.Result.{err_from_is_err_and}
use Rattle.works.specs.Idle.{own_by}
use Rattle.files.specs.File.{fault_number}
use Rattle.files.specs.Deeds.{load_deed}
use Rattle.files.proofs.Laws.Calls.{filed, busy-did, own-did, done-did}
use Rattle.files.proofs.single.load_sound.Goals as goal

pub returns-in_err-busy_refusal : goal.returns-in_err-busy_refusal
returns-in_err-busy_refusal c =
    let p = err_from_is_err_and c.from_residual.result c.from_residual.ensures.1 in
    rw (p.1, p.2) (busy-did (load_deed c.args.file.now) (own_by c.args.c.now c.args.mem.now) _ c.busy_refusal.ensures _ c.in_err-busy_refusal.was)

pub returns-in_err-fault_of : goal.returns-in_err-fault_of
returns-in_err-fault_of c =
    let p = err_from_is_err_and c.from_residual-in_err-fault_of.result c.from_residual-in_err-fault_of.ensures.1 in
    let k = ap fault_number (sym c.in_err-fault_of.was ∙ c.fault_of.ensures) in
    rw (p.1, p.2) (own-did (load_deed c.args.file.now) (own_by c.args.c.now c.args.mem.now) _ c.busy_refusal.ensures _ c.in_ok-busy_refusal.was _ k)

pub take_blocks-requires : goal.take_blocks-requires
take_blocks-requires c = (c.requires.whole, filed c.args.file.now (sym c.fault_of.ensures ∙ c.in_ok-fault_of.was))

pub returns : goal.returns
returns c =
    let k = ap fault_number (sym c.in_ok-fault_of.was ∙ c.fault_of.ensures) in
    rw (c.take_blocks.ensures.0, c.take_blocks.ensures.1)
    (done-did (load_deed c.args.file.now) (own_by c.args.c.now c.args.mem.now) _ c.busy_refusal.ensures _ c.in_ok-busy_refusal.was k)
