-- Document 01, 'Out of range': when the record of a channel is in range.
use Rattle.std.specs.Prelude.{Bool, false, if◌then◌else◌}
use Rattle.bounds.specs.Range.{frame_in}
use Rattle.head.specs.Head.{kind_of}
use Rattle.head.specs.Range.{head_in}
use Rattle.channel.specs.declared.state.Channel.{Channel}
use Rattle.channel.specs.State.{count_of}

unfoldable pub in_range : Channel → Bool
in_range c =
    if head_in c.head (count_of c) then frame_in (kind_of c.head) c.head.walk.phase c.slatable c.tranconfig c.bytecount else false
