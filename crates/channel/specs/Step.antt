-- One step of a single channel: the number that refuses it, or the write, the read or the event.
use Rattle.std.specs.Prelude.{ℕ, Bool, List, Option, Some, None, eqb, ltb, length, if◌then◌else◌}
use Rattle.rules.specs.declared.registers.Register.{Register}
use Rattle.rules.specs.Numbers.{buffer_size, done, nowhere, out_of_range}
use Rattle.rules.specs.Registers.{place_of}
use Rattle.rules.specs.declared.wires.Event.{Event}
use Rattle.steps.specs.declared.map.Op.{Op}
use Rattle.steps.specs.declared.map.Op.TheVariants.{Write, Read, Wire}
use Rattle.head.specs.State.{refused}
use Rattle.head.specs.Head.{turn_at}
use Rattle.channel.specs.declared.state.Channel.{Channel}
use Rattle.channel.specs.declared.state.Stepped.{Stepped}
use Rattle.channel.specs.State.{Served, on, leaving, guarded}
use Rattle.channel.specs.Range.{in_range}
use Rattle.channel.specs.Access.{put_of, read_of}
use Rattle.channel.specs.Wires.{turned}

-- no. 1: an address that isn't this channel's; it leaves the key
unfoldable pub write_at : Channel → List ℕ → Option Register → ℕ → Served
write_at c m (Some reg) v = put_of c m reg v
write_at c m None v = leaving m (on c (refused c.head nowhere))

unfoldable pub read_at : Channel → List ℕ → Option Register → Served
read_at c m (Some reg) = read_of c m reg
read_at c m None = leaving m (on c (refused c.head nowhere))

-- no. 1: channel above 2
unfoldable pub event_at : Channel → List ℕ → ℕ → Event → Served
event_at c m number e = if ltb 2 number then leaving m (on c (refused c.head nowhere)) else turned c m (turn_at c.head e)

-- a step of the channel with this number, whose record is in range
unfoldable pub served_by : Channel → List ℕ → ℕ → Op → Served
served_by c m number (Write a v) = write_at c m (place_of number a) v
served_by c m number (Read a) = read_at c m (place_of number a)
served_by c m number (Wire e) = event_at c m number e

-- no. 9: a memory of another length, or a state out of range
unfoldable pub range_number : ℕ → Bool → ℕ
range_number len ok = if eqb len buffer_size then (if ok then done else out_of_range) else out_of_range

unfoldable pub outcome_of : Channel → List ℕ → ℕ → Op → Served
outcome_of c m number op = guarded (range_number (length m) (in_range c)) c m (served_by c m number op)

-- the new record with its answer
abbrev pub step_of : Channel → List ℕ → ℕ → Op → Stepped
step_of c m number op = (outcome_of c m number op).stepped

-- the 4,352 bytes
abbrev pub bytes_after : Channel → List ℕ → ℕ → Op → List ℕ
bytes_after c m number op = (outcome_of c m number op).bytes
