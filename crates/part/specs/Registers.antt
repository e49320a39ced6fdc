-- Document 01, 'The part as the processor sees it': CTRLSTATUS, the part's interrupt, and the reads and writes at F0h to FFh.
use Rattle.std.specs.Prelude.{ℕ, ◌+◌, Bool, false, List, if◌then◌else◌}
use Rattle.rules.specs.Access.{key_after, resets_of}
use Rattle.rules.specs.Numbers.{nowhere, read_only}
use Rattle.rules.specs.Parts.{device_id}
use Rattle.rules.specs.Registers.{active_of, weigh}
use Rattle.interrupt.specs.Interrupt.{ctrl_kept, pending_of, pulled_by}
use Rattle.head.specs.Head.{kind_of}
use Rattle.steps.specs.declared.map.Ctrl.{Ctrl}
use Rattle.steps.specs.declared.map.Ctrl.TheVariants.{Ctrlstatus, Ctrlintmsk, Reserved, DeviceId, Ctrlpreset, Nothing, Ctrlrdy}
use Rattle.steps.specs.Keys.{ctrlpreset_of}
use Rattle.part.specs.declared.state.Part.{Part}
use Rattle.part.specs.declared.state.PartStepped.{PartStepped}
use Rattle.part.specs.State.{fresh_part, wiped, refused_part, plain_part, replied_part, with_be, with_mask, with_key, chan, device_of}

-- ---- CTRLSTATUS and the interrupt

-- channel c of the part is pending, or active
abbrev pub pending_at : Part → ℕ → Bool
pending_at p c = pending_of (kind_of (chan p c).head) (chan p c).head.flags (chan p c).head.regs.intmsk

abbrev pub active_at : Part → ℕ → Bool
active_at p c = active_of (chan p c).head.walk.phase

-- INT is pulled (`pulled_by`, crates/interrupt/specs/Interrupt.antt)
unfoldable pub interrupt_of : Part → Bool
interrupt_of p = pulled_by p.be p.mask (pending_at p 0) (pending_at p 1) (pending_at p 2)

-- CTRLSTATUS: 7 BE, 5 to 3 active, 2 to 0 channel pending
unfoldable pub ctrlstatus_of : Part → ℕ
ctrlstatus_of p =
    weigh p.be 0x80
    + weigh (active_at p 2) 0x20 + weigh (active_at p 1) 0x10 + weigh (active_at p 0) 0x08
    + weigh (pending_at p 2) 0x04 + weigh (pending_at p 1) 0x02 + weigh (pending_at p 0) 0x01

-- ---- reads: CTRLSTATUS clears BE; reserved, CTRLPRESET and CTRLRDY read 00h; DEVICE_ID 63h, of the PCU9669 E9h; no. 1 at F8h to FEh
unfoldable pub ctrl_read : Part → Ctrl → PartStepped
ctrl_read p Ctrlstatus = replied_part (with_be p false) (ctrlstatus_of p)
ctrl_read p Ctrlintmsk = replied_part p p.mask
ctrl_read p Reserved = replied_part p 0x00
ctrl_read p DeviceId = replied_part p (device_id (device_of p))
ctrl_read p Ctrlpreset = replied_part p 0x00
ctrl_read p Nothing = refused_part p nowhere
ctrl_read p Ctrlrdy = replied_part p 0x00

-- ---- writes: no. 1 at F8h to FEh, no. 2 for a read-only register
unfoldable pub ctrl_written : Part → Ctrl → ℕ → PartStepped
ctrl_written p Ctrlstatus v = refused_part p read_only
ctrl_written p Ctrlintmsk v = plain_part (with_mask p (ctrl_kept v))
ctrl_written p Reserved v = refused_part p read_only
ctrl_written p DeviceId v = refused_part p read_only
ctrl_written p Ctrlpreset v = plain_part p
ctrl_written p Nothing v = refused_part p nowhere
ctrl_written p Ctrlrdy v = refused_part p read_only

-- writing A5h to CTRLPRESET and then 5Ah resets the whole part, which stays the one that was chosen; any other write at F0h to FFh forgets the A5h, as one elsewhere does (`forgetting`, Step.antt)
unfoldable pub ctrl_put : Part → Ctrl → ℕ → PartStepped
ctrl_put p reg v = if resets_of (ctrlpreset_of reg) v p.key then plain_part (fresh_part (device_of p)) else ctrl_written (with_key p (key_after (ctrlpreset_of reg) v)) reg v

-- the 13,056 bytes: zero after a reset
unfoldable pub ctrl_store : Part → List ℕ → Ctrl → ℕ → List ℕ
ctrl_store p m reg v = if resets_of (ctrlpreset_of reg) v p.key then wiped else m
