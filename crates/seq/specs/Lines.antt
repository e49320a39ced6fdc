-- What `./seq save` makes of a script's lines: the part and the memory after them, and which of them were refused.
use Rattle.std.specs.Prelude.{ℕ, ◌+◌, List, [], ◌∷◌, ◌≡◌, eqb, Option, Some, None, if◌then◌else◌}
use Rattle.rules.specs.Numbers.{done}
use Rattle.rules.specs.declared.parts.Device.TheVariants.{Pca9663}
use Rattle.part.specs.State.{fresh_part}
use Rattle.mixes.specs.Mix.{ends}
use Rattle.independent.specs.Statement.{State}
use Rattle.runner.specs.Run.{start, the_script}
use Rattle.runner.specs.Text.{lines_of}
use Rattle.seq.specs.declared.lines.Refused.{Refused}
use Rattle.seq.specs.declared.lines.Tally.{Tally}
use Rattle.seq.specs.declared.lines.Ran.{Ran}

-- the input is shorter than this: asked of each call that it is lent to, since any bytes can be lent
abbrev pub input_room : ℕ
input_room = 1048576

-- no line yet
abbrev pub none_yet : Tally
none_yet = record { lines = 0; refused = 0; first = None }

-- the first refused line after one more, which got number n
abbrev pub first_of : Tally → ℕ → Option Refused
first_of t n = if eqb t.refused 0 then Some (record { line = t.lines + 1; number = n }) else t.first

-- one more line, which got number n: any number but 0 is a refusal, and the first of them is kept
unfoldable pub counted : Tally → ℕ → Tally
counted t n =
    if eqb n done then record { lines = t.lines + 1; refused = t.refused; first = t.first } else
    record { lines = t.lines + 1; refused = t.refused + 1; first = first_of t n }

-- the tally of some lines, from a state on, behind those before them
unfoldable pub tallied : State → Tally → List (List ℕ) → Tally
tallied s t [] = t
tallied s t (l ∷ k) = tallied (the_script.after s l) (counted t (the_script.answer s l).number) k

-- the lines of a text, done in turn by the script's rules from the PCA9663 after a reset over the memory m
pub record Runs (text m : List ℕ) (r : Ran) (m' : List ℕ) : Type 0 where
  pub state : start r.part m' ≡ ends the_script (start (fresh_part Pca9663) m) (lines_of text)
  pub tally : r.tally ≡ tallied (start (fresh_part Pca9663) m) none_yet (lines_of text)
