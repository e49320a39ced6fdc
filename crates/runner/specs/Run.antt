-- What a line of the script does: a step of the part, by the rules of demand 3's run (crate independent, `the_part`), with an answer to what can't be read.
use Rattle.std.specs.Prelude.{ℕ, false, List, ◌≡◌, Option, Some, None}
use Rattle.steps.specs.declared.map.Target.{Target}
use Rattle.steps.specs.declared.map.Target.TheVariants.{All}
use Rattle.steps.specs.declared.map.Wide.TheVariants.{Beyond}
use Rattle.steps.specs.declared.answer.PartAnswer.{PartAnswer}
use Rattle.steps.specs.Map.{target_of}
use Rattle.part.specs.declared.state.Part.{Part}
use Rattle.mixes.specs.Mix.{Machine}
use Rattle.independent.specs.Statement.{State, preset_written, the_part}
use Rattle.steps.specs.declared.map.Step.{Step}
use Rattle.script.specs.Grammar.{line_of}
use Rattle.answers.specs.Answer.{no_answer}

-- the state of a part and a memory
abbrev pub start : Part → List ℕ → State
start p m = record { part = p; memory = m }

-- a step is answered by the part's rules; what can't be read is answered no. 8
abbrev pub line_answer : State → Option Step → PartAnswer
line_answer s (Some a) = the_part.answer s a
line_answer s None = no_answer

-- and leaves all
abbrev pub after_line : State → Option Step → State
after_line s (Some a) = the_part.after s a
after_line s None = s

-- the channel that a step is of, and 3 where it is one of the whole part or can't be read
abbrev pub owner_of_line : Option Step → ℕ
owner_of_line (Some a) = the_part.owner a
owner_of_line None = 3

-- whom a line concerns; one that can't be read concerns none, as an event of a channel above 2
abbrev pub line_target : Option Step → Target
line_target (Some a) = target_of a
line_target None = All Beyond

abbrev pub line_aim : List ℕ → Target
line_aim l = line_target (line_of l)

-- the line does not write to a PRESET
abbrev pub LineSparesPreset : List ℕ → Type 0
LineSparesPreset l = preset_written (line_aim l) ≡ false

-- the script as a machine: a step is the bytes of a line
abbrev pub the_script : Machine State (List ℕ) PartAnswer
the_script = record {
  answer = λ s l. line_answer s (line_of l);
  after = λ s l. after_line s (line_of l);
  owner = λ l. owner_of_line (line_of l);
}
