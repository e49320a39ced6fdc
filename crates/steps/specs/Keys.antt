-- Document 01, 'Writing A5h to PRESET', and document 02, request Two: which register is CTRLPRESET, and which steps forget a key.
use Rattle.std.specs.Prelude.{ℕ, Bool, true, false, if◌then◌else◌}
use Rattle.steps.specs.declared.map.Ctrl.{Ctrl}
use Rattle.steps.specs.declared.map.Ctrl.TheVariants.{Ctrlstatus, Ctrlintmsk, Reserved, DeviceId, Ctrlpreset, Nothing, Ctrlrdy}
use Rattle.steps.specs.declared.map.Op.{Op}
use Rattle.steps.specs.declared.map.Op.TheVariants.{Write, Read, Wire}
use Rattle.steps.specs.declared.map.Target.{Target}
use Rattle.steps.specs.declared.map.Target.TheVariants.{One, All}
use Rattle.steps.specs.declared.map.Wide.{Wide}
use Rattle.steps.specs.declared.map.Wide.TheVariants.{CtrlWrite, CtrlRead, AllTrigger, AllReset, Beyond}

-- which register of the whole part is CTRLPRESET
abbrev pub ctrlpreset_of : Ctrl → Bool
ctrlpreset_of Ctrlstatus = false
ctrlpreset_of Ctrlintmsk = false
ctrlpreset_of Reserved = false
ctrlpreset_of DeviceId = false
ctrlpreset_of Ctrlpreset = true
ctrlpreset_of Nothing = false
ctrlpreset_of Ctrlrdy = false

-- 'any write to the part, at any address and refused or not': at a channel's addresses
abbrev pub op_writes : Op → Bool
op_writes (Write a v) = true
op_writes (Read a) = false
op_writes (Wire e) = false

-- and at F0h to FFh
abbrev pub wide_writes : Wide → Bool
wide_writes (CtrlWrite reg v) = true
wide_writes (CtrlRead reg) = false
wide_writes (AllTrigger edge) = false
wide_writes (AllReset d) = false
wide_writes Beyond = false

-- 'forgets every other pending A5h': `but x c` is x with every key forgotten but that of channel c, or for c 3 that of CTRLPRESET; what becomes of this one, its
-- own register's rule says. No other step forgets any
abbrev pub write_forgets : {A : Type 0} → (A → ℕ → A) → Target → A → A
write_forgets but (One op c) x = if op_writes op then but x c else x
write_forgets but (All t) x = if wide_writes t then but x 3 else x
