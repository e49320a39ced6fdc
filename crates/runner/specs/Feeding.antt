-- The promise of the loop over a block: every line that ends in it is answered, and its text stands in the output.
use Rattle.std.specs.Prelude.{ℕ, ◌+◌, ◌*◌, ◌-◌, ◌≤◌, List, [], ◌≡◌, length, take, drop}
use Rattle.part.specs.declared.state.Part.{Part}
use Rattle.script.specs.Grammar.{line_room}
use Rattle.answers.specs.Answer.{Put, answer_room}
use Rattle.runner.specs.declared.answering.Course.{Course}
use Rattle.runner.specs.Run.{start}
use Rattle.runner.specs.Text.{Desk, Sitting, ended_lines, rest_of, after_all, replies_to}

abbrev pub desk_of : Part → List ℕ → ℕ → Desk
desk_of p m step = record { state = start p m; step = step }

-- what is kept between two pieces of the input: of the line that has begun the first `line_room` bytes, with which it is read alike (proofs/Laws/Kept.antt)
abbrev pub shortened : Sitting → Sitting
shortened s = record { desk = s.desk; line = take line_room s.line }

-- the lines that end in the block, from a place on
abbrev pub lines_from : List ℕ → ℕ → List (List ℕ)
lines_from block from = ended_lines [] (drop from block)

-- room for an answer to each byte: a line has an LF at least
abbrev pub Room : List ℕ → ℕ → ℕ → List ℕ → Type 0
Room block from at out = at + answer_room * (length block - from) ≤ length out

pub record Answered (block : List ℕ) (s : Course) (m o : List ℕ) (r : Course) (m' o' : List ℕ) : Type 0 where
  pub desk : desk_of r.part m' r.step ≡ after_all (desk_of s.part m s.step) (lines_from block s.from)
  pub text : Put o s.at (replies_to (desk_of s.part m s.step) (lines_from block s.from)) r.at o'
  pub rest : drop r.from block ≡ rest_of [] (drop s.from block)
  pub inside : r.from ≤ length block
  pub fits : r.at ≤ length o'
