-- What is proved of the page of this name in specs/.
use Rattle.std.specs.Prelude.{refl}
use Rattle.laws.specs.Lists.{All}
use Rattle.channel.specs.State.{zeros}
use Rattle.sheet.specs.Model.{the_part}
use Rattle.sheet.specs.Run.{Holds}
use Rattle.sheet.specs.Second.{defaults, written, passed, heard, kept, second}

-- ---- the checker computes each row

defaults_hold : Holds the_part defaults
unfolding Holds the_part
defaults_hold = refl

written_holds : Holds the_part written
unfolding Holds the_part
written_holds = refl

passed_holds : Holds the_part passed
unfolding Holds the_part
passed_holds = refl

heard_holds : Holds the_part heard
unfolding Holds the_part
heard_holds = refl

kept_holds : Holds the_part kept
unfolding Holds the_part zeros
kept_holds = refl

-- ---- and the table holds, row by row
pub second_holds : All (Holds the_part) second
unfolding second
second_holds = (defaults_hold, (written_holds, (passed_holds, (heard_holds, (kept_holds, tt)))))
