-- `interrupt::unless` meets its contract. Answers and no attribute, which cannot spell ◌unless◌.
use Rattle.laws.specs.Cases.{cases}
use Rattle.interrupt.specs.Interrupt.{◌unless◌}
use Rattle.interrupt.proofs.unless.Goals as goal

pub returns-then-cause : goal.returns-then-cause
unfolding ◌unless◌
returns-then-cause c = search cases depth 12

pub returns-else-cause : goal.returns-else-cause
unfolding ◌unless◌
returns-else-cause c = search cases depth 12
