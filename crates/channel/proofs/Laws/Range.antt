-- What the range says of a record, and what a step in range may rely on.
use Rattle.std.specs.Prelude.{true, ◌≡◌, ◌≤◌}
use Rattle.laws.specs.Cases.{both}
use Rattle.bounds.specs.Range.{pointers_in, registers_in, walk_in, frame_in}
use Rattle.bounds.proofs.Laws.Range.{registers_sel}
use Rattle.head.specs.Head.{framecnt_of, kind_of}
use Rattle.head.specs.Range.{head_in}
use Rattle.head.proofs.Laws.Range.{head_pointers, head_registers, head_walk, head_count}
use Rattle.channel.specs.declared.state.Channel.{Channel}
use Rattle.channel.specs.State.{count_of}
use Rattle.channel.specs.Range.{in_range}

module _ (c : Channel) (e : in_range c ≡ true) where
  range_head : head_in c.head (count_of c) ≡ true
  unfolding in_range
  range_head = (both _ _ e).0

  pub range_pointers : pointers_in c.head.ptrs ≡ true
  range_pointers = head_pointers _ _ range_head

  pub range_registers : registers_in (count_of c) c.head.regs.transel c.head.regs.intmsk ≡ true
  range_registers = head_registers _ _ range_head

  pub range_walk : walk_in c.head.walk c.head.regs.te (framecnt_of c.head) ≡ true
  range_walk = head_walk _ _ range_head

  pub range_frame : frame_in (kind_of c.head) c.head.walk.phase c.slatable c.tranconfig c.bytecount ≡ true
  unfolding in_range
  range_frame = (both _ _ e).1

  pub range_count : count_of c ≤ 64
  range_count = head_count _ _ range_head

  pub range_sel : c.head.regs.transel ≤ 63
  range_sel = registers_sel _ _ _ range_registers
