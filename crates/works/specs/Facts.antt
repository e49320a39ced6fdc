-- Facts that functions hand to each other, beside what they return. Nobody has to believe them: each is proved where it is promised.
use Rattle.std.specs.Prelude.{ℕ, List, Result, ◌≡◌, ltb, if◌then◌else◌}
use Rattle.rules.specs.declared.numbers.Refusal.{Refusal}
use Rattle.rules.specs.Numbers.{done, nowhere, out_of_range, number_of}
use Rattle.part.specs.declared.state.Part.{Part}
use Rattle.part.specs.Step.{accepts}
use Rattle.works.specs.Work.{Own}
use Rattle.works.specs.Idle.{Deed, deed_number, deed_after, deed_out}

-- a deed done on a channel that no. 9 does not refuse, or refused: the number, what is then the channel's own, and what is left in the buffer
pub record Did (d : Deed) (o : Own) (r : Result (Unit {0}) Refusal) (q : Own) (l : List ℕ) : Type 0 where
  pub number : number_of r ≡ deed_number d o
  pub own : q ≡ deed_after d o
  pub out : l ≡ deed_out d o

-- the number that refuses a call on the part before the work, as `work_done` and `work_reply` have it; or 0
unfoldable pub call_number : Part → ℕ → ℕ → ℕ
call_number p len c = if accepts p len then (if ltb 2 c then nowhere else done) else out_of_range
