-- `channel::state::Channel::step` meets its contract.
use Rattle.channel.proofs.Laws.Access.{guarded_no, guarded-yes}
use Rattle.channel.proofs.Laws.Step.{accepts, steps}
use Rattle.channel.specs.Step.{range_number, outcome_of}
use mathlib.Core.Path.{◌∙◌, ap}
use Rattle.channel.proofs.state.Channel.step.Goals as goal

pub returns-in-Err : goal.returns-in-Err
unfolding outcome_of
returns-in-Err c = let e = c.range_number.ensures ∙ ap (range_number _) c.in_range.ensures in
    steps _ _ _ (guarded_no _ _ _ _ _ _ e _ c.in-Err.is (rw (c.answer.ensures, c.number.ensures)))

pub serve-answer-requires : goal.serve-answer-requires
serve-answer-requires c = accepts _ _ _ _ (c.range_number.ensures ∙ ap (range_number _) c.in_range.ensures) c.in_default.is

pub returns : goal.returns
unfolding outcome_of
returns c = let e = c.range_number.ensures ∙ ap (range_number _) c.in_range.ensures in
    steps _ _ _ (guarded-yes _ _ _ _ _ _ e _ c.in_default.is c.serve-answer.ensures)
