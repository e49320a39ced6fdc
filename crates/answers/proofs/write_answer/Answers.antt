-- `answers::write_answer` meets its contract.
use Rattle.answers.proofs.Laws.Writing.{puts}
use borrow.Author.Rules.{rules}
use Rattle.answers.proofs.write_answer.Goals as goal

pub returns-then-has_room : goal.returns-then-has_room
returns-then-has_room c = let e = c.put_line.ensures in (search puts, e.1)

pub returns-else-has_room : goal.returns-else-has_room
returns-else-has_room c = (search puts, search rules)
