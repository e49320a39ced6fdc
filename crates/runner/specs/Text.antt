-- WHAT A SCRIPT'S BYTES COME TO: its lines, each a step of the part, and a line of text for each. How far the program is proved to keep to it, docs/PROMISES.md says.
use Rattle.std.specs.Prelude.{ℕ, ◌+◌, List, [], ◌∷◌, ◌++◌, eqb, if◌then◌else◌}
use Rattle.part.specs.Registers.{interrupt_of}
use Rattle.rules.specs.declared.parts.Device.TheVariants.{Pca9663}
use Rattle.independent.specs.Keys.{at_reset}
use Rattle.independent.specs.Statement.{State}
use Rattle.answers.specs.Answer.{answer_line, header}
use Rattle.runner.specs.Run.{the_script}

-- ---- the lines of some bytes: an LF (10) ends a line

-- the lines that end, where `line` is what came of the first one before
unfoldable pub ended_lines : List ℕ → List ℕ → List (List ℕ)
ended_lines line [] = []
ended_lines line (b ∷ l) = if eqb b 10 then line ∷ ended_lines [] l else ended_lines (line ++ (b ∷ [])) l

-- what follows the last LF
unfoldable pub rest_of : List ℕ → List ℕ → List ℕ
rest_of line [] = line
rest_of line (b ∷ l) = if eqb b 10 then rest_of [] l else rest_of (line ++ (b ∷ [])) l

-- it is a line if it has a byte
abbrev pub last_line : List ℕ → List (List ℕ)
last_line [] = []
last_line (b ∷ l) = (b ∷ l) ∷ []

abbrev pub lines_of : List ℕ → List (List ℕ)
lines_of input = ended_lines [] input ++ last_line (rest_of [] input)

-- ---- the lines done in turn

-- the number of the next step, which stays at the largest one
unfoldable pub number_after : ℕ → ℕ
number_after step = if eqb step 18446744073709551615 then step else step + 1

-- where a script stands: the part and its memory, and the number of the last step
pub record Desk : Type 0 where
  pub state : State
  pub step : ℕ

-- after a line, and the line of its answer: the number of the step, its answer, and INT after it
unfoldable pub after_one : Desk → List ℕ → Desk
after_one d l = record { state = the_script.after d.state l; step = number_after d.step }

unfoldable pub reply_to : Desk → List ℕ → List ℕ
reply_to d l = answer_line (number_after d.step) (the_script.answer d.state l) (interrupt_of (the_script.after d.state l).part)

unfoldable pub after_all : Desk → List (List ℕ) → Desk
after_all d [] = d
after_all d (l ∷ k) = after_all (after_one d l) k

unfoldable pub replies_to : Desk → List (List ℕ) → List ℕ
replies_to d [] = []
replies_to d (l ∷ k) = reply_to d l ++ replies_to (after_one d l) k

-- ---- THE OUTPUT of a script: the header, and a line for each of its lines, from the PCA9663 after a reset
abbrev pub reset : Desk
reset = record { state = at_reset Pca9663; step = 0 }

unfoldable pub output_of : List ℕ → List ℕ
output_of input = header ++ replies_to reset (lines_of input)

-- ---- bytes that come in pieces: where a script stands between two of them. Cut anywhere, the input comes to the same (`output_in_two`, proofs/Laws/Text.antt)
pub record Sitting : Type 0 where
  pub desk : Desk
  pub line : List ℕ

-- after some more bytes, and the text that they give
unfoldable pub fed : Sitting → List ℕ → Sitting
fed s l = record { desk = after_all s.desk (ended_lines s.line l); line = rest_of s.line l }

unfoldable pub said : Sitting → List ℕ → List ℕ
said s l = replies_to s.desk (ended_lines s.line l)

-- the end of the input
unfoldable pub last_said : Sitting → List ℕ
last_said s = replies_to s.desk (last_line s.line)

-- the start
abbrev pub opening : Sitting
opening = record { desk = reset; line = [] }
