-- Document 01, 'The part as the processor sees it': the address map, and whom a step concerns.
use Rattle.std.specs.Prelude.{ℕ, ◌-◌, ◌/◌, eqb, ltb, if◌then◌else◌}
use Rattle.rules.specs.declared.wires.Event.{Event}
use Rattle.steps.specs.declared.map.Op.TheVariants.{Write as WriteOp, Read as ReadOp, Wire as WireOp}
use Rattle.steps.specs.declared.map.Step.{Step}
use Rattle.steps.specs.declared.map.Step.TheVariants.{Write, Read, Wire, Trigger, Reset}
use Rattle.steps.specs.declared.map.Ctrl.{Ctrl}
use Rattle.steps.specs.declared.map.Ctrl.TheVariants.{Ctrlstatus, Ctrlintmsk, Reserved, DeviceId, Ctrlpreset, Nothing, Ctrlrdy}
use Rattle.steps.specs.declared.map.Target.{Target}
use Rattle.steps.specs.declared.map.Target.TheVariants.{One, All}
use Rattle.steps.specs.declared.map.Wide.TheVariants.{CtrlWrite, CtrlRead, AllTrigger, AllReset, Beyond}

-- 64c + n is channel c's, C0h, D0h and E0h + 0 to Fh are channel 0's, 1's and 2's; 3 stands for the whole part, F0h to FFh
unfoldable pub channel_at : ℕ → ℕ
channel_at a = if ltb a 0xC0 then a / 64 else a / 16 - 12

-- F0h CTRLSTATUS, F1h CTRLINTMSK, F2h to F5h reserved, F6h DEVICE_ID, F7h CTRLPRESET, F8h to FEh nothing, FFh CTRLRDY
unfoldable pub ctrl_at : ℕ → Ctrl
ctrl_at a =
    if eqb a 0xF0 then Ctrlstatus else
    if eqb a 0xF1 then Ctrlintmsk else
    if ltb a 0xF6 then Reserved else
    if eqb a 0xF6 then DeviceId else
    if eqb a 0xF7 then Ctrlpreset else
    if ltb a 0xFF then Nothing else Ctrlrdy

-- a write: of the channel whose address it is, or of the whole part
unfoldable pub write_target : ℕ → ℕ → Target
write_target a v = if ltb (channel_at a) 3 then One (WriteOp a v) (channel_at a) else All (CtrlWrite (ctrl_at a) v)

-- a read, in the same way
unfoldable pub read_target : ℕ → Target
read_target a = if ltb (channel_at a) 3 then One (ReadOp a) (channel_at a) else All (CtrlRead (ctrl_at a))

-- an event of a channel above 2 concerns none
unfoldable pub wire_target : ℕ → Event → Target
wire_target c e = if ltb c 3 then One (WireOp e) c else All Beyond

-- whole-part steps: trigger, hardware reset, addresses F0h to FFh, events for a channel above 2; all others are channel steps
unfoldable pub target_of : Step → Target
target_of (Write a v) = write_target a v
target_of (Read a) = read_target a
target_of (Wire c e) = wire_target c e
target_of (Trigger edge) = All (AllTrigger edge)
target_of (Reset d) = All (AllReset d)
