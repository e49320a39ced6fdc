-- How a row of the bench sheet is run, on a model of the part.
use Rattle.std.specs.Prelude.{ℕ, List, [], ◌∷◌, ◌≡◌}
use Rattle.rules.specs.declared.parts.Device.{Device}
use Rattle.rules.specs.declared.parts.Device.TheVariants.{Pca9663}
use Rattle.rules.specs.declared.wires.Action.{Action}
use Rattle.steps.specs.declared.map.Step.{Step}
use Rattle.steps.specs.declared.map.Step.TheVariants.{Write, Read}
use Rattle.steps.specs.declared.answer.PartAnswer.{PartAnswer}
use Rattle.steps.specs.Answer.{quiet, only_at}
use Rattle.part.specs.State.{chan}
use Rattle.independent.specs.Keys.{at_reset}
use Rattle.works.specs.State.{State}
use Rattle.sheet.specs.Model.{Model}

-- a line of a row: a step with the answer it gets, or the place in channel c's 4,352 bytes that its DATA points at
pub data Entry : Type 0 where
  gets : Step → PartAnswer → Entry
  points : ℕ → ℕ → Entry

-- a row: the state from which it is run, and its lines
pub record Row : Type 0 where
  pub start : State
  pub lines : List Entry

-- the lines as a model has them, from a state on: each step with the answer that it really gets, and where DATA really points
unfoldable pub seen : Model → State → List Entry → List Entry
seen model u [] = []
seen model u (gets s r ∷ l) = gets s (model.answer u s) ∷ seen model (model.after u s) l
seen model u (points c at ∷ l) = points c (chan u.part c).head.ptrs.buf ∷ seen model u l

-- a row holds of a model: run from its state, it is what the model does
unfoldable pub Holds : Model → Row → Type 0
unfolding seen
Holds model row = seen model row.start row.lines ≡ row.lines

-- ---- words for the rows and the lines

-- a row that is run from the reset state of a part, with its 13,056 bytes
abbrev pub from : Device → List Entry → Row
from d l = record { start = at_reset d; lines = l }

-- of the PCA9663
abbrev pub from_reset : List Entry → Row
from_reset l = from Pca9663 l

-- a step that is answered 0, with no value and no action
abbrev pub does : Step → Entry
does s = gets s (record { number = 0; value = 0x00; actions = quiet })

-- a step that channel c answers 0 with an action, and channel 0
abbrev pub acts_at : ℕ → Step → Action → Entry
acts_at c s a = gets s (record { number = 0; value = 0x00; actions = only_at c a })

abbrev pub acts : Step → Action → Entry
acts s a = acts_at 0 s a

-- a step that is refused by a number
abbrev pub refuses : Step → ℕ → Entry
refuses s n = gets s (record { number = n; value = 0x00; actions = quiet })

-- a byte written at an address, answered 0 with no action
abbrev pub writes : ℕ → ℕ → Entry
writes a v = does (Write a v)

-- a value read at an address
abbrev pub reads : ℕ → ℕ → Entry
reads a v = gets (Read a) (record { number = 0; value = v; actions = quiet })
