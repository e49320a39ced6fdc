-- `part::state::Part::step` meets its contract.
use Rattle.laws.specs.Cases.{pick_true, pick-false}
use Rattle.part.proofs.Laws.Range.{accepts-whole}
use Rattle.part.specs.Step.{part_bytes, part_step}
use mathlib.Core.Path.{◌∙◌, refl, sym}
use Rattle.part.proofs.state.Part.step.Goals as goal

pub returns-then-not-accepts_len : goal.returns-then-not-accepts_len
unfolding part_step part_bytes
returns-then-not-accepts_len c = let t = sym c.accepts_len.ensures ∙ c.if-not-accepts_len.true in (pick-false _ _ _ _ t c.answer.ensures, pick-false _ _ _ _ t refl)

pub serve-answer-requires : goal.serve-answer-requires
serve-answer-requires c = (accepts-whole _ _ (sym c.accepts_len.ensures ∙ c.if-not-accepts_len.false), c.target_of.ensures.1)

pub returns : goal.returns
unfolding part_step part_bytes
returns c =
    let t = sym c.accepts_len.ensures ∙ c.if-not-accepts_len.false in
    let s = c.target_of.ensures.0 in
    (pick_true _ _ _ _ t (c.serve-answer.ensures.0 ∙ rw s refl), pick_true _ _ _ _ t (c.serve-answer.ensures.1 ∙ rw s refl))
