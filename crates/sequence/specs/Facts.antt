-- Facts that functions hand to each other, beside what they return. Nobody has to believe them: each is proved where it is promised.
-- They are of a moment of the sequence, and no invariant of the record that it goes over.
use Rattle.std.specs.Prelude.{ℕ, ◌+◌, ◌<◌, List, get_or}
use Rattle.rules.specs.Facts.{Running}
use Rattle.sequence.specs.declared.wires.Next.{Next}
use Rattle.sequence.specs.declared.wires.Next.TheVariants.{Cut, More, Over}
use Rattle.sequence.specs.declared.wires.Move.{Move}
use Rattle.sequence.specs.declared.wires.Move.TheVariants.{Halt, Send}

-- a byte of transaction n is awaited
pub record Counting (lens counts : List ℕ) (n : ℕ) : Type 0 where
  pub running : Running lens n
  pub short : get_or counts n 0 < get_or lens (n + 1) 0

-- one more byte is one of the transaction's
abbrev pub Ready : Next → ℕ → ℕ → Type 0
Ready Cut n len = Unit {0}
Ready More n len = n < len
Ready Over n len = Unit {0}

-- a move to a transaction that exists
abbrev pub Exists : Move → Type 0
Exists Halt = Unit {0}
Exists (Send n) = n < 64
