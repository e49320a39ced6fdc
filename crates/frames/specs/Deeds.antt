-- What a step is to channel c: an event that it answers, a reset, a frame's begin.
use Rattle.std.specs.Prelude.{ℕ, Bool, true, false, eqb, Option, Some, None, if◌then◌else◌}
use Rattle.rules.specs.declared.state.Phase.{Phase}
use Rattle.rules.specs.declared.state.Phase.TheVariants.{Idle, Address, Sending, Receiving, Stopping, Waiting}
use Rattle.rules.specs.declared.registers.Command.{Command}
use Rattle.rules.specs.declared.registers.Register.{Register}
use Rattle.rules.specs.declared.registers.Register.TheVariants.{Status, Control, Chstatus, Intmsk, Slatable, Tranconfig, Data, Transel, Tranofs, Bytecount, Setting, Preset}
use Rattle.rules.specs.Access.{overrun_of, preset_of, resets_of}
use Rattle.rules.specs.Numbers.{done}
use Rattle.rules.specs.Registers.{command_of, place_of}
use Rattle.rules.specs.Tables.{fitting}
use Rattle.sequence.specs.declared.wires.Ask.{Ask}
use Rattle.sequence.specs.declared.wires.Ask.TheVariants.{Nothing, Overrun, Begin, Wait, Sto, Seq, Leave}
use Rattle.sequence.specs.declared.wires.Beat.{Beat}
use Rattle.sequence.specs.declared.wires.Beat.TheVariants.{Quiet, Begin as BeginBeat, Late as LateBeat}
use Rattle.sequence.specs.declared.wires.Beginning.{Beginning}
use Rattle.sequence.specs.declared.wires.Beginning.TheVariants.{Empty, Unfit, Fit}
use Rattle.sequence.specs.declared.wires.Turn.{Turn}
use Rattle.sequence.specs.declared.wires.Turn.TheVariants.{Unawaited, AckAddress, AckSending, Receive, NackAddress, NackSending, Begin as BeginTurn, Late, End, Fault as Faulty}
use Rattle.sequence.specs.Wires.{ask_of, beginning_of, edge_beat}
use Rattle.steps.specs.declared.map.Op.{Op}
use Rattle.steps.specs.declared.map.Op.TheVariants.{Write, Read, Wire}
use Rattle.steps.specs.declared.map.Target.{Target}
use Rattle.steps.specs.declared.map.Target.TheVariants.{One, All}
use Rattle.steps.specs.declared.map.Wide.{Wide}
use Rattle.steps.specs.declared.map.Wide.TheVariants.{CtrlWrite, CtrlRead, AllTrigger, AllReset, Beyond}
use Rattle.steps.specs.Keys.{ctrlpreset_of}
use Rattle.head.specs.Access.{data_place, te_after}
use Rattle.head.specs.Head.{turn_at}
use Rattle.channel.specs.declared.state.Channel.{Channel}
use Rattle.channel.specs.State.{count_of}
use Rattle.part.specs.declared.state.Part.{Part}
use Rattle.part.specs.State.{chan}
use Rattle.frames.specs.Wire.{Heard}
use Rattle.frames.specs.Wire.Heard.{none, event}

-- ---- an event that channel c answers with 0
unfoldable pub heard_op : Op → ℕ → Heard
heard_op (Write a v) number = none
heard_op (Read a) number = none
heard_op (Wire e) number = if eqb number done then event e else none

unfoldable pub heard_by : ℕ → Target → ℕ → Heard
heard_by c (One op d) number = if eqb d c then heard_op op number else none
heard_by c (All t) number = none

-- ---- a reset of channel c: A5h and then 5Ah at its PRESET or at CTRLPRESET, or the hardware reset
abbrev pub place_resets : Channel → Option Register → ℕ → Bool
place_resets c (Some reg) v = resets_of (preset_of reg) v c.head.key
place_resets c None v = false

abbrev pub op_resets : Channel → ℕ → Op → Bool
op_resets c number (Write a v) = place_resets c (place_of number a) v
op_resets c number (Read a) = false
op_resets c number (Wire e) = false

abbrev pub all_resets : Part → Wide → Bool
all_resets p (CtrlWrite reg v) = resets_of (ctrlpreset_of reg) v p.key
all_resets p (CtrlRead reg) = false
all_resets p (AllTrigger edge) = false
all_resets p (AllReset d) = true
all_resets p Beyond = false

unfoldable pub resets_by : ℕ → Part → Target → Bool
resets_by c p (One op d) = if eqb d c then op_resets (chan p c) c op else false
resets_by c p (All t) = all_resets p t

-- ---- a step that asks channel c for a frame: STA, TICK or a trigger edge, where the rules say so
abbrev pub ask_begins : Ask → Bool
ask_begins Nothing = false
ask_begins Overrun = false
ask_begins Begin = true
ask_begins Wait = false
ask_begins Sto = false
ask_begins Seq = false
ask_begins Leave = false

abbrev pub turn_begins : Turn → Bool
turn_begins Unawaited = false
turn_begins (AckAddress n) = false
turn_begins (AckSending n) = false
turn_begins (Receive n b) = false
turn_begins (NackAddress n) = false
turn_begins (NackSending n) = false
turn_begins BeginTurn = true
turn_begins Late = false
turn_begins End = false
turn_begins (Faulty f) = false

abbrev pub beat_begins : Beat → Bool
beat_begins Quiet = false
beat_begins BeginBeat = true
beat_begins LateBeat = false

-- what a write to CONTROL asks for
abbrev pub ask_at : Channel → Command → Ask
ask_at c k = ask_of c.head.walk.phase k (te_after c.head k) (overrun_of k.aiptrrst (data_place c.head c.tranconfig))

abbrev pub is_control : Register → Bool
is_control (Status n) = false
is_control Control = true
is_control Chstatus = false
is_control Intmsk = false
is_control Slatable = false
is_control Tranconfig = false
is_control Data = false
is_control Transel = false
is_control Tranofs = false
is_control Bytecount = false
is_control (Setting n) = false
is_control Preset = false

abbrev pub reg_begins : Channel → Register → ℕ → Bool
reg_begins c reg v = if is_control reg then ask_begins (ask_at c (command_of v)) else false

abbrev pub place_begins : Channel → Option Register → ℕ → Bool
place_begins c (Some reg) v = reg_begins c reg v
place_begins c None v = false

abbrev pub op_begins : Channel → ℕ → Op → Bool
op_begins c number (Write a v) = place_begins c (place_of number a) v
op_begins c number (Read a) = false
op_begins c number (Wire e) = turn_begins (turn_at c.head e)

abbrev pub all_begins : Channel → Wide → Bool
all_begins c (CtrlWrite reg v) = false
all_begins c (CtrlRead reg) = false
all_begins c (AllTrigger edge) = beat_begins (edge_beat c.head.walk.phase c.head.regs.te c.head.regs.tp edge)
all_begins c (AllReset d) = false
all_begins c Beyond = false

unfoldable pub asks_by : ℕ → Part → Target → Bool
asks_by c p (One op d) = if eqb d c then op_begins (chan p c) c op else false
asks_by c p (All t) = all_begins (chan p c) t

-- ---- it begins where the count isn't 0 and the lengths fit
abbrev pub fit_of : Beginning → Bool
fit_of Empty = false
fit_of Unfit = false
fit_of Fit = true

abbrev pub may_begin : Channel → Bool
may_begin c = fit_of (beginning_of (count_of c) (fitting c.tranconfig))

unfoldable pub begins_by : ℕ → Part → Target → Bool
begins_by c p t = if asks_by c p t then may_begin (chan p c) else false

-- ---- a frame is under way
abbrev pub runs_of : Phase → Bool
runs_of Idle = false
runs_of (Address n) = true
runs_of (Sending n) = true
runs_of (Receiving n) = true
runs_of Stopping = true
runs_of Waiting = false
