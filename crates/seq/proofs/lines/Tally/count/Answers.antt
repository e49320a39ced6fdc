-- `seq::lines::Tally::count` meets its contract.
use Rattle.std.proofs.Common.{rules, refl, eq-eqb, ne_eqb}
use Rattle.laws.specs.Cases.{cases, pick_true, pick-false}
use Rattle.seq.specs.Lines.{counted}
use Rattle.seq.proofs.Laws.Lines.{counted_refused}
use Rattle.seq.proofs.lines.Tally.count.Goals as goal
use Rattle.seq.proofs.lines.Tally.count.Goals.{then-self-eq0, else-self-eq0}

pub returns-then-number-eq-DONE : goal.returns-then-number-eq-DONE
unfolding counted
returns-then-number-eq-DONE c = (search cases depth 12, search rules, search rules)

pub returns : goal.returns
returns c = elim c.if-self-eq0.branch [
  | then-self-eq0 w ↦ (
    rw w.self-is (counted_refused _ _ _ c.if-number-eq-DONE.false (pick_true _ _ _ _ (eq-eqb _ _ w.if-self-eq0.true) refl)),
    search rules,
    search rules,
  )
  | else-self-eq0 w ↦ (
    rw w.self-is (counted_refused _ _ _ c.if-number-eq-DONE.false (pick-false _ _ _ _ (ne_eqb _ _ w.if-self-eq0.false) refl)),
    search rules,
    search rules,
  )
]
