-- Facts that functions hand to each other, beside what they return. Nobody has to believe them: each is proved where it is promised.
-- Facts and no invariants of a type, a count of at most 64 among them: any record can be written down, and out of range it is answered no. 9 (`registers_in`).
use Rattle.std.specs.Prelude.{ℕ, ◌<◌, ◌≤◌, Bool, List, Option, Some, None, ◌≡◌, get_or}
use Rattle.rules.specs.declared.parts.Kind.{Kind}
use Rattle.rules.specs.declared.registers.Register.{Register}
use Rattle.rules.specs.declared.registers.Register.TheVariants.{Status, Control, Chstatus, Intmsk, Slatable, Tranconfig, Data, Transel, Tranofs, Bytecount, Setting, Preset}
use Rattle.rules.specs.Numbers.{buffer_size}
use Rattle.rules.specs.Tables.{longest_skipped, skipped_of, sum_of}

-- a register of which there are several is one of them: 64 STATUS, 6 settings
abbrev pub Known : Register → Type 0
Known (Status n) = n < 64
Known Control = Unit {0}
Known Chstatus = Unit {0}
Known Intmsk = Unit {0}
Known Slatable = Unit {0}
Known Tranconfig = Unit {0}
Known Data = Unit {0}
Known Transel = Unit {0}
Known Tranofs = Unit {0}
Known Bytecount = Unit {0}
Known (Setting n) = n < 6
Known Preset = Unit {0}

-- a register found at an address is one of them
abbrev pub KnownPlace : Option Register → Type 0
KnownPlace (Some r) = Known r
KnownPlace None = Unit {0}

-- a place that is found is one of the buffer, and configured: below the sum of the first count lengths
abbrev pub Configured : List ℕ → Option ℕ → Type 0
Configured lens (Some i) = (i < buffer_size) × (i < sum_of lens)
Configured lens None = Unit {0}

-- whether a transaction is skipped, told by the longest read that is
abbrev pub Skips : ℕ → ℕ → ℕ → Bool → Type 0
Skips most sla len r = (kind : Kind) → most ≡ longest_skipped kind → r ≡ skipped_of kind sla len

-- transaction n is one of a frame that fits: what the range says of it
pub record Running (lens : List ℕ) (n : ℕ) : Type 0 where
  pub below : n < get_or lens 0 0
  pub few : get_or lens 0 0 ≤ 64
  pub fits : sum_of lens ≤ buffer_size
