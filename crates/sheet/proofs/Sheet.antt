-- What is proved of the page of this name in specs/.
use Rattle.std.specs.Prelude.{refl}
use Rattle.laws.specs.Lists.{All}
use Rattle.sheet.specs.Model.{the_part}
use Rattle.sheet.specs.Run.{Holds}
use Rattle.sheet.specs.Sheet.{row1, row2, row3, row4, row5, row6, row7, row8, row9, row10, sheet}

-- ---- the checker computes each row

holds1 : Holds the_part row1
unfolding Holds the_part
holds1 = refl

holds2 : Holds the_part row2
unfolding Holds the_part
holds2 = refl

holds3 : Holds the_part row3
unfolding Holds the_part
holds3 = refl

holds4 : Holds the_part row4
unfolding Holds the_part
holds4 = refl

holds5 : Holds the_part row5
unfolding Holds the_part
holds5 = refl

holds6 : Holds the_part row6
unfolding Holds the_part
holds6 = refl

holds7 : Holds the_part row7
unfolding Holds the_part
holds7 = refl

holds8 : Holds the_part row8
unfolding Holds the_part
holds8 = refl

holds9 : Holds the_part row9
unfolding Holds the_part
holds9 = refl

holds10 : Holds the_part row10
unfolding Holds the_part
holds10 = refl

-- THE TEN LINES HOLD
pub sheet_holds : All (Holds the_part) sheet
unfolding sheet
sheet_holds = (holds1, (holds2, (holds3, (holds4, (holds5, (holds6, (holds7, (holds8, (holds9, (holds10, tt))))))))))
