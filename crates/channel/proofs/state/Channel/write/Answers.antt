-- `channel::state::Channel::write` meets its contract: the reset by the key, a refusal, or the write.
use Rattle.std.proofs.Common.{refl}
use Rattle.std.proofs.lemmas.Result.{err_from_is_err_and}
use Rattle.channel.proofs.Laws.Access.{accepted_sel, accepted_count, write-reset, write-refused, write_done}
use Rattle.channel.proofs.Laws.Step.{known_some}
use Rattle.channel.specs.Range.{in_range}
use Rattle.head.specs.Range.{head_in}
use Rattle.channel.specs.Step.{write_at}
use mathlib.Core.Path.{sym, ◌∙◌}
use Rattle.rules.proofs.Laws.Numbers.{done_at_ok}
use Rattle.channel.proofs.state.Channel.write.Goals as goal

pub returns-in_default : goal.returns-in_default
unfolding write_at
returns-in_default c = rw c.in_default.is

pub returns-then-resets : goal.returns-then-resets
returns-then-resets c = write-reset _ _ _ _ _ _ _ c.in-Some.is c.is_preset-preset.ensures c.resets.ensures _ c.if-resets.true c.reset.ensures

pub refusal-requires : goal.refusal-requires
refusal-requires c = (accepted_sel _ _ c.requires.0, accepted_count _ _ c.requires.0)

pub returns-in_err-refusal : goal.returns-in_err-refusal
returns-in_err-refusal c =
    let p = err_from_is_err_and c.from_residual.result c.from_residual.ensures.1 in
    rw (p.1, p.2) (write-refused _ _ _ _ _ _ _ c.in-Some.is c.is_preset-preset.ensures c.resets.ensures _ c.if-resets.false
    _ c.key_after-self.ensures _ c.refusal.ensures _ c.in_err-refusal.was refl)

pub write_by-requires : goal.write_by-requires
unfolding in_range head_in
write_by-requires c = (
  record { ranged = c.requires.0.ranged; whole = c.requires.0.whole },
  known_some _ _ c.requires.1 c.in-Some.is,
  sym c.refusal.ensures ∙ done_at_ok _ _ c.in_ok-refusal.was,
)

pub returns : goal.returns
returns c = write_done _ _ _ _ _ _ _ c.in-Some.is c.is_preset-preset.ensures c.resets.ensures _ c.if-resets.false
    _ c.key_after-self.ensures _ c.refusal.ensures _ c.in_ok-refusal.was c.write_by.ensures
