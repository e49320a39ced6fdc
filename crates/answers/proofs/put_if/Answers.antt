-- `answers::put_if` meets its contract.
use Rattle.answers.proofs.Laws.Writing.{puts}
use borrow.Author.Rules.{rules}
use Rattle.answers.proofs.put_if.Goals as goal

pub returns-then-wanted : goal.returns-then-wanted
returns-then-wanted c = (search puts, search rules)

pub returns-else-wanted : goal.returns-else-wanted
returns-else-wanted c = (search puts, search rules)
