-- `channel::state::Channel::read` meets its contract.
use Rattle.std.proofs.Common.{refl}
use Rattle.std.proofs.lemmas.Result.{err_from_is_err_and}
use Rattle.channel.proofs.Laws.Access.{accepted_count, guarded_no, guarded-yes}
use Rattle.channel.proofs.Laws.Step.{keeps}
use Rattle.channel.specs.Access.{read_of}
use Rattle.channel.specs.Step.{read_at}
use Rattle.channel.proofs.state.Channel.read.Goals as goal

pub returns-in_default : goal.returns-in_default
unfolding read_at
returns-in_default c = rw c.in_default.is

pub read_refusal-requires : goal.read_refusal-requires
read_refusal-requires c = accepted_count _ _ c.requires.0

pub returns-in_err-read_refusal : goal.returns-in_err-read_refusal
unfolding read_at read_of
returns-in_err-read_refusal c =
    let p = err_from_is_err_and c.from_residual.result c.from_residual.ensures.1 in
    rw (c.in-Some.is, p.1, p.2) (guarded_no _ _ _ _ _ _ c.read_refusal.ensures _ c.in_err-read_refusal.was refl)

pub returns : goal.returns
unfolding read_at read_of
returns c = rw c.in-Some.is (guarded-yes _ _ _ _ _ _ c.read_refusal.ensures _ c.in_ok-read_refusal.was (keeps _ _ _ c.read_by.ensures))
