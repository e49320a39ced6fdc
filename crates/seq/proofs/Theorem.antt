-- What `./seq load` prints is a script of just those writes: each line is read as its write, and the script does what the writes do.
use Rattle.std.specs.Prelude.{ℕ, ◌<◌, List, ◌≡◌, Some}
use Rattle.laws.specs.Lists.{All}
use Rattle.steps.specs.declared.map.Step.TheVariants.{Write}
use Rattle.mixes.specs.Mix.{ends}
use Rattle.independent.specs.Statement.{State, the_part}
use Rattle.script.specs.Grammar.{line_of}
use Rattle.runner.specs.Run.{the_script}
use Rattle.runner.specs.Text.{lines_of}
use Rattle.files.specs.File.{Readable}
use Rattle.files.specs.Typed.{Typed}
use Rattle.seq.specs.Typing.{Byte, Small, line_for, script_of, steps_for, typing_all}
use Rattle.seq.proofs.Laws.Typing.{read_write, script_does, typing_small}

-- a line is read as its write
pub line_is_write : (w : Typed) → Small w → line_of (line_for w) ≡ Some (Write w.at w.value)
line_is_write = read_write

-- what is printed of a readable file does what its writes do, from any state
pub script_is_writes : (s : State) (k : ℕ) (f : List ℕ) → k < 3 → Readable f → All Byte f
    → ends the_script s (lines_of (script_of (typing_all k f))) ≡ ends the_part s (steps_for (typing_all k f))
script_is_writes s k f h e i = script_does s (typing_all k f) (typing_small k f h e i)
