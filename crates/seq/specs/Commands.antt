-- What the two commands come to: a channel's file after a script, and the script that types a file.
use Rattle.std.specs.Prelude.{ℕ, ◌≤◌, List, ◌≡◌, length, eqb, Result, Ok, Err, IfOk, if◌then◌else◌}
use Rattle.rules.specs.Numbers.{done}
use Rattle.rules.specs.declared.parts.Device.TheVariants.{Pca9663}
use Rattle.mixes.specs.Mix.{ends}
use Rattle.works.specs.State.{State}
use Rattle.works.specs.Work.{work_reply}
use Rattle.independent.specs.Keys.{at_reset}
use Rattle.answers.specs.Answer.{Put}
use Rattle.runner.specs.Run.{the_script}
use Rattle.runner.specs.Text.{lines_of}
use Rattle.files.specs.File.{size_in}
use Rattle.files.specs.Deeds.{load_work, save_work}
use Rattle.seq.specs.declared.commands.Saved.{Saved}
use Rattle.seq.specs.Lines.{none_yet, tallied}
use Rattle.seq.specs.Typing.{script_of, typing_all}

-- the part and its memory after a script
abbrev pub after_script : List ℕ → State
after_script script = ends the_script (at_reset Pca9663) (lines_of script)

-- the length of what was made, by the number of the library's answer; or a refusal's number
abbrev pub sized : ℕ → ℕ → Result ℕ ℕ
sized number len = if eqb number done then Ok len else Err number

-- `save c`: the library's answer and output for channel c after the script, over the output o; and how many bytes of it are the file
pub record Saves (c : ℕ) (script o : List ℕ) (r : Saved) (o' : List ℕ) : Type 0 where
  pub tally : r.tally ≡ tallied (at_reset Pca9663) none_yet (lines_of script)
  pub answer : r.len ≡ sized (work_reply (after_script script) c (save_work o)).answer.number (size_in o')
  pub file : o' ≡ (work_reply (after_script script) c (save_work o)).out
  pub fits : IfOk r.len (λ n. n ≤ length o')

-- `load c`: the library's answer for a part after a reset; and where it is 0, the script of the writes that type the file
pub record Loads (c : ℕ) (f o : List ℕ) (r : Result ℕ ℕ) (o' : List ℕ) : Type 0 where
  pub answer : r ≡ sized (work_reply (at_reset Pca9663) c (load_work f)).answer.number (length (script_of (typing_all c f)))
  pub script : IfOk r (λ n. Put o 0 (script_of (typing_all c f)) n o')
  pub fits : IfOk r (λ n. n ≤ length o')
