-- What a step answers beside its number and its value: an action for each channel.
use Rattle.std.specs.Prelude.{ℕ, Bool, List, [], ◌∷◌, set, if◌then◌else◌}
use Rattle.rules.specs.Numbers.{done}
use Rattle.rules.specs.declared.wires.Action.{Action}
use Rattle.rules.specs.declared.wires.Action.TheVariants.{Nothing}
use Rattle.steps.specs.declared.answer.PartAnswer.{PartAnswer}

-- no action at all
abbrev pub quiet : List Action
quiet = Nothing ∷ Nothing ∷ Nothing ∷ []

-- an action where a test holds
unfoldable pub act_if : Bool → Action → Action
act_if mine a = if mine then a else Nothing

-- an action of channel c alone
abbrev pub only_at : ℕ → Action → List Action
only_at c a = set quiet c a

-- an answer's number and nothing else
abbrev pub numbered : ℕ → PartAnswer
numbered n = record { number = n; value = 0; actions = quiet }

-- the value of a read
abbrev pub valued : ℕ → PartAnswer
valued v = record { number = done; value = v; actions = quiet }
