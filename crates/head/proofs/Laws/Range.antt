-- What the range says of a head and the count beside it.
use Rattle.std.specs.Prelude.{ℕ, ◌≤◌, true, ◌≡◌}
use Rattle.laws.specs.Cases.{both}
use Rattle.bounds.specs.Range.{pointers_in, registers_in, walk_in}
use Rattle.bounds.proofs.Laws.Range.{registers_count}
use Rattle.head.specs.declared.state.Head.{Head}
use Rattle.head.specs.Head.{framecnt_of}
use Rattle.head.specs.Range.{head_in}

module _ (h : Head) (n : ℕ) (e : head_in h n ≡ true) where
  pub head_pointers : pointers_in h.ptrs ≡ true
  unfolding head_in
  head_pointers = (both _ _ e).0

  pub head_registers : registers_in n h.regs.transel h.regs.intmsk ≡ true
  unfolding head_in
  head_registers = (both _ _ (both _ _ e).1).0

  pub head_walk : walk_in h.walk h.regs.te (framecnt_of h) ≡ true
  unfolding head_in
  head_walk = (both _ _ (both _ _ e).1).1

  pub head_count : n ≤ 64
  head_count = registers_count _ _ _ head_registers
