-- Facts that functions hand to each other, beside what they return. Nobody has to believe them: each is proved where it is promised.
use Rattle.std.specs.Prelude.{ℕ, ◌≤◌, true, List, ◌≡◌, length}
use Rattle.rules.specs.Numbers.{buffer_size}
use Rattle.sequence.specs.declared.wires.Turn.{Turn}
use Rattle.sequence.specs.declared.wires.Turn.TheVariants.{Unawaited, AckAddress, AckSending, NackAddress, NackSending, Receive, Begin, Late, End, Fault as Faulty}
use Rattle.rules.specs.Facts.{Running}
use Rattle.sequence.specs.Facts.{Counting}
use Rattle.channel.specs.declared.state.Channel.{Channel}
use Rattle.channel.specs.State.{count_of}
use Rattle.channel.specs.Range.{in_range}

-- what a step that is not refused by no. 9 may rely on: a fact and no invariant of `Channel`, since `step_of` answers any record and any bytes
pub record Accepted (c : Channel) (m : List ℕ) : Type 0 where
  pub ranged : in_range c ≡ true
  pub whole : length m ≡ buffer_size

-- what a turn may rely on
abbrev pub Meets : Channel → Turn → Type 0
Meets c Unawaited = Unit {0}
Meets c (AckAddress n) = Running c.tranconfig n
Meets c (AckSending n) = Counting c.tranconfig c.bytecount n
Meets c (Receive n b) = Counting c.tranconfig c.bytecount n
Meets c (NackAddress n) = Running c.tranconfig n
Meets c (NackSending n) = Running c.tranconfig n
Meets c Begin = count_of c ≤ 64
Meets c Late = Unit {0}
Meets c End = Unit {0}
Meets c (Faulty f) = Unit {0}
