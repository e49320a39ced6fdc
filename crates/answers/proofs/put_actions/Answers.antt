-- `answers::put_actions` meets its contract: three texts, one after the other, by flags that are known, or the one that says that none acts.
use Rattle.std.proofs.Common.{◌≡◌, ◌∙◌, sym, rules}
use Rattle.answers.proofs.Laws.Writing.{put_three, put_dash, or_yes, or_no}
use Rattle.answers.specs.Answer.{actions_of, action_at, busy_of, or_of}
use Rattle.answers.proofs.put_actions.Goals as goal
use Rattle.answers.proofs.put_actions.Goals.{then-one, else-one, then-two, else-two}

pub returns-then-busy : goal.returns-then-busy
unfolding actions_of
returns-then-busy c =
    let two : c.if-one.two ≡ or_of (busy_of (action_at c.args.acts 0)) (busy_of (action_at c.args.acts 1)) =
    elim c.if-one.branch [
      | then-one w ↦ or_yes _ _ _ (sym c.busy-one.ensures ∙ w.if-one.true) (w.two-is ∙ w.if-one.true)
      | else-one w ↦ or_no _ _ _ (sym c.busy-one.ensures ∙ w.if-one.false) (w.two-is ∙ w.busy-two.ensures)
    ] in
    let three : c.if-two.value ≡ or_of c.if-one.two (busy_of (action_at c.args.acts 2)) =
    elim c.if-two.branch [
      | then-two w ↦ or_yes _ _ _ w.if-two.true (w.value-is ∙ w.if-two.true)
      | else-two w ↦ or_no _ _ _ w.if-two.false (w.value-is ∙ w.busy.ensures)
    ] in (
      put_three _ _ _ _ _ c.busy-one.ensures two (sym three ∙ c.if-busy.true) c.put_action-at.ensures.0 c.put_action-at-then-busy.ensures.0 c.put_action.ensures.0,
      search rules,
    )

pub returns-else-busy : goal.returns-else-busy
unfolding actions_of
returns-else-busy c =
    let two : c.if-one.two ≡ or_of (busy_of (action_at c.args.acts 0)) (busy_of (action_at c.args.acts 1)) =
    elim c.if-one.branch [
      | then-one w ↦ or_yes _ _ _ (sym c.busy-one.ensures ∙ w.if-one.true) (w.two-is ∙ w.if-one.true)
      | else-one w ↦ or_no _ _ _ (sym c.busy-one.ensures ∙ w.if-one.false) (w.two-is ∙ w.busy-two.ensures)
    ] in
    let three : c.if-two.value ≡ or_of c.if-one.two (busy_of (action_at c.args.acts 2)) =
    elim c.if-two.branch [
      | then-two w ↦ or_yes _ _ _ w.if-two.true (w.value-is ∙ w.if-two.true)
      | else-two w ↦ or_no _ _ _ w.if-two.false (w.value-is ∙ w.busy.ensures)
    ] in
    (put_dash _ _ _ c.put.ensures (rw two at (sym three ∙ c.if-busy.false)), search rules)
