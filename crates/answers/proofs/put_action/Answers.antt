-- `answers::put_action` meets its contract.
use Rattle.answers.proofs.Laws.Writing.{puts}
use Rattle.answers.specs.Answer.{action_of}
use borrow.Author.Rules.{rules}
use Rattle.answers.proofs.put_action.Goals as goal

pub returns-then-busy : goal.returns-then-busy
unfolding action_of
returns-then-busy c = (search puts, search rules)

pub returns-else-busy : goal.returns-else-busy
unfolding action_of
returns-else-busy c = (search puts, search rules)
