-- Document 01, 'A sequence on the wires': what a write to CONTROL asks for, how a frame begins, what an event comes to, where a walk goes on, how a frame ends, and a trigger edge.
use Rattle.std.specs.Prelude.{ℕ, ◌+◌, Bool, true, false, not, List, eqb, ltb, get_or, if◌then◌else◌}
use Rattle.rules.specs.declared.parts.Kind.{Kind}
use Rattle.rules.specs.declared.state.Phase.{Phase}
use Rattle.rules.specs.declared.state.Phase.TheVariants.{Idle, Address, Sending, Receiving, Stopping, Waiting}
use Rattle.rules.specs.declared.registers.Command.{Command}
use Rattle.rules.specs.declared.wires.Event.{Event}
use Rattle.rules.specs.declared.wires.Event.TheVariants.{Ninth, Byte, Tick, Stop, Sda, Scl, Ill, Sent}
use Rattle.rules.specs.declared.wires.Level.{Level}
use Rattle.rules.specs.declared.wires.Level.TheVariants.{Low, High}
use Rattle.rules.specs.declared.wires.Edge.{Edge}
use Rattle.rules.specs.declared.wires.Edge.TheVariants.{Rising, Falling}
use Rattle.rules.specs.declared.wires.Action.{Action}
use Rattle.rules.specs.declared.wires.Action.TheVariants.{R, Np, Nr, P}
use Rattle.sequence.specs.declared.wires.Turn.{Turn}
use Rattle.sequence.specs.declared.wires.Turn.TheVariants.{Unawaited, AckAddress, AckSending, Receive, NackAddress, NackSending, Begin as BeginTurn, Late as LateTurn, End, Fault as Faulty}
use Rattle.sequence.specs.declared.wires.Beat.{Beat}
use Rattle.sequence.specs.declared.wires.Beat.TheVariants.{Quiet, Begin, Late}
use Rattle.sequence.specs.declared.wires.Fault.TheVariants.{Dae, Cle, Sse}
use Rattle.sequence.specs.declared.wires.Move.{Move}
use Rattle.sequence.specs.declared.wires.Move.TheVariants.{Halt, Send}
use Rattle.sequence.specs.declared.wires.Next.{Next}
use Rattle.sequence.specs.declared.wires.Next.TheVariants.{Cut, More, Over}
use Rattle.sequence.specs.declared.wires.Tail.{Tail}
use Rattle.sequence.specs.declared.wires.Tail.TheVariants.{Plain, Nacked}
use Rattle.sequence.specs.declared.wires.Beginning.{Beginning}
use Rattle.sequence.specs.declared.wires.Beginning.TheVariants.{Empty, Unfit, Fit}
use Rattle.sequence.specs.declared.wires.Ending.{Ending}
use Rattle.sequence.specs.declared.wires.Ending.TheVariants.{Fe, Error, Sd, Wait}
use Rattle.sequence.specs.declared.wires.Ask.{Ask}
use Rattle.sequence.specs.declared.wires.Ask.TheVariants.{Nothing, Overrun, Begin as BeginAsk, Wait as WaitAsk, Sto, Seq, Leave}
use Rattle.rules.specs.Parts.{is_fm}
use Rattle.rules.specs.Registers.{bit_of, wemsk, remsk}
use Rattle.rules.specs.Tables.{first_sent}

-- ---- CONTROL: what is left of a write after TP, TE and the pointer resets

-- both written, only STO counts; otherwise they are recorded and read 1 until Idle
unfoldable pub stop_asked : Bool → Bool → Ask
stop_asked sto seq = if sto then Sto else if seq then Seq else Nothing

-- STA written 1 when Idle begins a frame, or Waiting if TE is 1
unfoldable pub start_asked : Bool → Bool → Ask
start_asked sta te = if sta then (if te then WaitAsk else BeginAsk) else Nothing

-- STO or STOSEQ in Waiting: SD, FLD under the same rule, Idle at once
unfoldable pub leave_asked : Bool → Bool → Ask
leave_asked sto seq = if sto then Leave else if seq then Leave else Nothing

-- STO or STOSEQ with STA stored 0 is ignored; STA written to a channel active before that write does nothing
unfoldable pub asked_in : Phase → Command → Bool → Ask
asked_in Idle k te = start_asked k.sta te
asked_in (Address n) k te = stop_asked k.sto k.stoseq
asked_in (Sending n) k te = stop_asked k.sto k.stoseq
asked_in (Receiving n) k te = stop_asked k.sto k.stoseq
asked_in Stopping k te = stop_asked k.sto k.stoseq
asked_in Waiting k te = leave_asked k.sto k.stoseq

-- where AIPTRRST is answered no. 5, the write's STA, STO and STOSEQ are dropped
unfoldable pub ask_of : Phase → Command → Bool → Bool → Ask
ask_of p k te over = if over then Overrun else asked_in p k te

-- ---- a frame begins

-- count 0; lengths of the first count transactions summing above 4,352; otherwise
unfoldable pub beginning_of : ℕ → Bool → Beginning
beginning_of count fit = if eqb count 0 then Empty else if fit then Fit else Unfit

-- later ones a repeated START; after BYTE, NR
abbrev pub again_by : Tail → ℕ → Action
again_by Plain sla = R sla
again_by Nacked sla = Nr sla

-- ---- events: what each comes to in each phase; elsewhere it is not awaited

-- ACK in Address, ACK in Sending
abbrev pub ack_turn : Phase → Turn
ack_turn Idle = Unawaited
ack_turn (Address n) = AckAddress n
ack_turn (Sending n) = AckSending n
ack_turn (Receiving n) = Unawaited
ack_turn Stopping = Unawaited
ack_turn Waiting = Unawaited

-- BYTE b in Receiving
abbrev pub byte_turn : Phase → ℕ → Turn
byte_turn Idle b = Unawaited
byte_turn (Address n) b = Unawaited
byte_turn (Sending n) b = Unawaited
byte_turn (Receiving n) b = Receive n b
byte_turn Stopping b = Unawaited
byte_turn Waiting b = Unawaited

-- NACK: in Address, in Sending
abbrev pub nack_turn : Phase → Turn
nack_turn Idle = Unawaited
nack_turn (Address n) = NackAddress n
nack_turn (Sending n) = NackSending n
nack_turn (Receiving n) = Unawaited
nack_turn Stopping = Unawaited
nack_turn Waiting = Unawaited

-- request Six: one event that carries the level seen, low meaning acknowledged
abbrev pub ninth_turn : Phase → Level → Turn
ninth_turn p Low = ack_turn p
ninth_turn p High = nack_turn p

-- WE for a write, RE for a read: masked by INTMSK or not
unfoldable pub masked_of : ℕ → Bool → Bool
masked_of intmsk read = if read then bit_of intmsk remsk else bit_of intmsk wemsk

-- ---- after each

-- with FE or STO recorded
unfoldable pub halted_of : Bool → Bool → Bool
halted_of fe sto = if fe then true else sto

-- after n bytes (0: the address of a write): next byte, or done; with FE or STO recorded, a transaction is cut short
unfoldable pub next_of : Bool → ℕ → ℕ → Next
next_of halt n len = if ltb n len then (if halt then Cut else More) else Over

-- behind transaction n the walk goes on to the next that is not skipped, or the count; with FE or STO recorded it does not
unfoldable pub reach_of : Kind → Bool → ℕ → List ℕ → List ℕ → ℕ
reach_of kind halt n sla lens = if halt then n + 1 else first_sent kind sla lens (n + 1) (get_or lens 0 0)

-- P with FE or STO recorded, and after the last; else the next transaction
unfoldable pub move_of : Bool → ℕ → ℕ → Move
move_of halt to count = if halt then Halt else if ltb to count then Send to else Halt

-- P, or NP after BYTE
abbrev pub stop_by : Tail → Action
stop_by Plain = P
stop_by Nacked = Np

-- ---- the other events

-- TICK (TE 0, FRAMECNT not 1)
unfoldable pub ticking_of : Bool → ℕ → Bool
ticking_of te framecnt = if te then false else not (eqb framecnt 1)

-- in Waiting begins a frame; in a frame it is late. The same of a trigger edge, which does nothing if Idle
abbrev pub beat_of : Phase → Beat
beat_of Idle = Quiet
beat_of (Address n) = Late
beat_of (Sending n) = Late
beat_of (Receiving n) = Late
beat_of Stopping = Late
beat_of Waiting = Begin

-- a TICK that does nothing is not awaited
abbrev pub beat_turn : Beat → Turn
beat_turn Quiet = Unawaited
beat_turn Begin = BeginTurn
beat_turn Late = LateTurn

-- with TE 1 or FRAMECNT 1 a TICK is not awaited
unfoldable pub tick_turn : Phase → Bool → ℕ → Turn
tick_turn p te framecnt = if ticking_of te framecnt then beat_turn (beat_of p) else Unawaited

-- STOP in Stopping ends the frame
abbrev pub stop_turn : Phase → Turn
stop_turn Idle = Unawaited
stop_turn (Address n) = Unawaited
stop_turn (Sending n) = Unawaited
stop_turn (Receiving n) = Unawaited
stop_turn Stopping = End
stop_turn Waiting = Unawaited

-- SDA (Address only) sets DAE
abbrev pub sda_turn : Phase → Turn
sda_turn Idle = Unawaited
sda_turn (Address n) = Faulty Dae
sda_turn (Sending n) = Unawaited
sda_turn (Receiving n) = Unawaited
sda_turn Stopping = Unawaited
sda_turn Waiting = Unawaited

-- SCL (any active phase) CLE
abbrev pub scl_turn : Phase → Turn
scl_turn Idle = Unawaited
scl_turn (Address n) = Faulty Cle
scl_turn (Sending n) = Faulty Cle
scl_turn (Receiving n) = Faulty Cle
scl_turn Stopping = Faulty Cle
scl_turn Waiting = Faulty Cle

-- ILL (any phase) SSE. What each event comes to; SENT stands in place of ACK
unfoldable pub heard_turn : Phase → Bool → ℕ → Event → Turn
heard_turn p te framecnt (Ninth l) = ninth_turn p l
heard_turn p te framecnt (Byte b) = byte_turn p b
heard_turn p te framecnt Tick = tick_turn p te framecnt
heard_turn p te framecnt Stop = stop_turn p
heard_turn p te framecnt Sda = sda_turn p
heard_turn p te framecnt Scl = scl_turn p
heard_turn p te framecnt Ill = Faulty Sse
heard_turn p te framecnt Sent = ack_turn p

-- document 02, request Three: ACK, NACK, BYTE, SDA and SCL on a UFm channel, and SENT on channel 0 or on a PCA9663, are no. 7
abbrev pub hears_of : Kind → Event → Bool
hears_of kind (Ninth l) = is_fm kind
hears_of kind (Byte b) = is_fm kind
hears_of kind Tick = true
hears_of kind Stop = true
hears_of kind Sda = is_fm kind
hears_of kind Scl = is_fm kind
hears_of kind Ill = true
hears_of kind Sent = not (is_fm kind)

unfoldable pub turn_of : Kind → Phase → Bool → ℕ → Event → Turn
turn_of kind p te framecnt e = if hears_of kind e then heard_turn p te framecnt e else Unawaited

-- ---- a frame's end

-- Frame end, first that applies: FE recorded; error end; STO; STOSEQ; the rest
unfoldable pub ending_of : Bool → Bool → Bool → Bool → Ending → Ending
ending_of fe error sto seq rest =
    if fe then Fe else
    if error then Error else
    if sto then Sd else
    if seq then Sd else rest

-- TE 1 or FRAMECNT 0: SD, Waiting. Frames left (fewer than FRAMECNT ended since STA, this one counted): SD, Waiting. Last: SD, Idle
unfoldable pub rest_of : Bool → ℕ → ℕ → Ending
rest_of te framecnt ended =
    if te then Wait 0 else
    if eqb framecnt 0 then Wait 0 else
    if ltb (ended + 1) framecnt then Wait (ended + 1) else Sd

-- FLD joins SD wherever the channel goes Idle, unless TE is 0 and FRAMECNT is 1
unfoldable pub fld_after : Bool → ℕ → Bool → Bool
fld_after te framecnt old = if te then true else if eqb framecnt 1 then old else true

-- ---- a trigger edge

-- matching TP (0 rising)
abbrev pub matches_of : Bool → Edge → Bool
matches_of tp Rising = not tp
matches_of tp Falling = tp

-- each channel with TE 1 and matching TP begins a frame if Waiting, is late if a frame runs, and does nothing if Idle
unfoldable pub edge_beat : Phase → Bool → Bool → Edge → Beat
edge_beat p te tp edge = if te then (if matches_of tp edge then beat_of p else Quiet) else Quiet
