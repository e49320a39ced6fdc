-- `answers::write_header` meets its contract.
use Rattle.answers.proofs.Laws.Writing.{puts}
use Rattle.answers.proofs.write_header.Goals as goal

pub returns-then-has_room : goal.returns-then-has_room
returns-then-has_room c = search puts

pub returns-else-has_room : goal.returns-else-has_room
returns-else-has_room c = search puts
