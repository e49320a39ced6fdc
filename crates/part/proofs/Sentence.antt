-- Of every part in range: which channels are pending, in document 01's own sentence; and of any part whether INT is pulled, by CTRLSTATUS as it is read.
use Rattle.std.specs.Prelude.{ℕ, true, ◌≡◌, refl}
use Rattle.rules.specs.Parts.{heeded}
use Rattle.rules.specs.Registers.{chstatus_value}
use Rattle.bounds.proofs.Laws.Range.{registers_mask}
use Rattle.interrupt.proofs.Sentence.{Exactly, SomeUnmasked, all_bits, cause_bits, as_the_sentence, as_ctrlstatus}
use Rattle.head.specs.Head.{kind_of}
use Rattle.channel.proofs.Laws.Range.{range_registers}
use Rattle.part.specs.declared.state.Part.{Part}
use Rattle.part.specs.State.{chan}
use Rattle.part.specs.Registers.{pending_at, active_at, interrupt_of, ctrlstatus_of}
use Rattle.part.specs.Step.{part_in}
use Rattle.part.proofs.Laws.Range.{chan-in_range}

-- channel pending (some CHSTATUS bit set whose INTMSK bit is 0); of a UFm channel INTMSK bits 5 and 4 have no effect
pub pending_as_read : (p : Part) (c : ℕ) → part_in p ≡ true
    → Exactly (pending_at p c) (SomeUnmasked all_bits (chstatus_value (chan p c).head.flags) (heeded (kind_of (chan p c).head) (chan p c).head.regs.intmsk))
pending_as_read p c e = as_the_sentence _ _ _ (registers_mask _ _ _ (range_registers (chan p c) (chan-in_range p c e)))

-- INT is pulled exactly when BE is set and bit 7 of CTRLINTMSK is 0, or a channel is pending and its CTRLINTMSK bit is 0
pub int_as_read : (p : Part) → Exactly (interrupt_of p) (SomeUnmasked cause_bits (ctrlstatus_of p) p.mask)
unfolding interrupt_of ctrlstatus_of
int_as_read p = as_ctrlstatus p.be (active_at p 2) (active_at p 1) (active_at p 0) (pending_at p 2) (pending_at p 1) (pending_at p 0) _ p.mask refl
