-- The state of a part that demand 3 speaks of, and what no. 9 does not refuse.
use Rattle.std.specs.Prelude.{ℕ, true, List, ◌≡◌, length}
use Rattle.part.specs.declared.state.Part.{Part}
use Rattle.part.specs.Step.{accepts}

-- a state: the part and the lent memory
pub record State : Type 0 where
  pub part : Part
  pub memory : List ℕ

-- an accepted state: no. 9 does not refuse it, so it is in range and has 13,056 bytes
abbrev pub Accepted : State → Type 0
Accepted s = accepts s.part (length s.memory) ≡ true
