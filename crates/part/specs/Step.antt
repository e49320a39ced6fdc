-- One step of the part: no. 9, or a step of one channel, of the whole part, or of none.
use Rattle.std.specs.Prelude.{ℕ, Bool, true, false, List, [], ◌∷◌, map, eqb, length, set, if◌then◌else◌}
use Rattle.rules.specs.Numbers.{memory_size, done, nowhere, out_of_range}
use Rattle.bounds.specs.Range.{kinds_in}
use Rattle.head.specs.Head.{kind_of}
use Rattle.interrupt.specs.Interrupt.{be_after, mask_in}
use Rattle.rules.specs.declared.wires.Edge.{Edge}
use Rattle.steps.specs.declared.map.Op.{Op}
use Rattle.rules.specs.declared.wires.Action.{Action}
use Rattle.steps.specs.declared.answer.PartAnswer.{PartAnswer}
use Rattle.steps.specs.Answer.{only_at}
use Rattle.head.specs.declared.state.Answer.{Answer}
use Rattle.steps.specs.declared.map.Step.{Step}
use Rattle.steps.specs.declared.map.Target.{Target}
use Rattle.steps.specs.declared.map.Wide.{Wide}
use Rattle.steps.specs.declared.map.Target.TheVariants.{One, All}
use Rattle.steps.specs.declared.map.Wide.TheVariants.{CtrlWrite, CtrlRead, AllTrigger, AllReset, Beyond}
use Rattle.steps.specs.Map.{target_of}
use Rattle.steps.specs.Keys.{write_forgets}
use Rattle.channel.specs.declared.state.Channel.{Channel}
use Rattle.channel.specs.declared.state.Stepped.{Stepped}
use Rattle.channel.specs.Range.{in_range}
use Rattle.channel.specs.State.{Served}
use Rattle.channel.specs.Step.{served_by}
use Rattle.channel.specs.Wires.{triggered}
use Rattle.part.specs.declared.state.Part.{Part}
use Rattle.part.specs.declared.state.PartStepped.{PartStepped}
use Rattle.part.specs.State.{fresh_part, wiped, told, refused_part, plain_part, given, chan, window, put_window, forgotten}
use Rattle.part.specs.Registers.{ctrl_read, ctrl_put, ctrl_store}

-- ---- a step of channel c

-- the part with a record of channel c, and with this BE
abbrev pub one_after : Part → ℕ → Channel → Bool → Part
one_after p c r be = record { channels = set p.channels c r; be = be; mask = p.mask; key = p.key }

-- the part's answer where channel c answered a: its number, its value and its action
abbrev pub answer_at : ℕ → Answer → PartAnswer
answer_at c a = record { number = a.number; value = a.value; actions = only_at c a.action }

-- the part after channel c answered r: a frame that doesn't fit shows as BE
abbrev pub one_told : Part → ℕ → Stepped → PartStepped
one_told p c r = given (one_after p c r.channel (be_after p.be r.answer.number)) (answer_at c r.answer)

-- each channel works on its own 4,352 bytes
abbrev pub one_served : Part → List ℕ → ℕ → Op → Served
one_served p m c op = served_by (chan p c) (window c m) c op

unfoldable pub one_step : Part → List ℕ → ℕ → Op → PartStepped
one_step p m c op = one_told p c (one_served p m c op).stepped

unfoldable pub one_bytes : Part → List ℕ → ℕ → Op → List ℕ
one_bytes p m c op = put_window c (one_served p m c op).bytes m

-- ---- a trigger edge is one step over the whole part: its answer holds one action for each channel; a frame that doesn't fit shows as BE

abbrev pub edge_channel : Edge → Channel → Channel
edge_channel edge c = (triggered c edge).channel

abbrev pub edge_act : Edge → Channel → Action
edge_act edge c = (triggered c edge).answer.action

abbrev pub edge_be : Edge → Bool → List Channel → Bool
edge_be edge be [] = be
edge_be edge be (c ∷ l) = edge_be edge (be_after be (triggered c edge).answer.number) l

unfoldable pub trigger_step : Part → Edge → PartStepped
trigger_step p edge =
    told
    (record {
      channels = map (edge_channel edge) p.channels;
      be = edge_be edge p.be p.channels;
      mask = p.mask;
      key = p.key;
    })
    done 0 (map (edge_act edge) p.channels)

-- ---- a step of the whole part; no. 1 for a channel above 2; the hardware reset does what CTRLPRESET does, and chooses the part
unfoldable pub all_served : Part → Wide → PartStepped
all_served p (CtrlWrite reg v) = ctrl_put p reg v
all_served p (CtrlRead reg) = ctrl_read p reg
all_served p (AllTrigger edge) = trigger_step p edge
all_served p (AllReset d) = plain_part (fresh_part d)
all_served p Beyond = refused_part p nowhere

-- and the bytes
unfoldable pub all_stored : Part → List ℕ → Wide → List ℕ
all_stored p m (CtrlWrite reg v) = ctrl_store p m reg v
all_stored p m (CtrlRead reg) = m
all_stored p m (AllTrigger edge) = m
all_stored p m (AllReset d) = wiped
all_stored p m Beyond = m

-- ---- whom the step concerns
unfoldable pub target_served : Part → List ℕ → Target → PartStepped
target_served p m (One op c) = one_step p m c op
target_served p m (All t) = all_served p t

unfoldable pub target_stored : Part → List ℕ → Target → List ℕ
target_stored p m (One op c) = one_bytes p m c op
target_stored p m (All t) = all_stored p m t

-- ---- document 02, request Two: any write to the part, at any address and refused or not (9 apart), forgets every other pending A5h; reads, events and triggers
-- forget none. What becomes of its own register's, and that a whole reset forgets all, the step's own rule says
unfoldable pub forgetting : Target → Part → Part
forgetting t p = write_forgets forgotten t p

unfoldable pub part_served : Part → List ℕ → Target → PartStepped
part_served p m t = target_served (forgetting t p) m t

unfoldable pub part_stored : Part → List ℕ → Target → List ℕ
part_stored p m t = target_stored (forgetting t p) m t

-- ---- no. 9: lent memory not 13,056 bytes, or a state out of range

-- every channel in range
unfoldable pub channels_in : List Channel → Bool
channels_in [] = true
channels_in (c ∷ l) = if in_range c then channels_in l else false

-- the channels' kinds are those of one part
abbrev pub own_kinds : Part → Bool
own_kinds p = kinds_in (kind_of (chan p 0).head) (kind_of (chan p 1).head) (kind_of (chan p 2).head)

-- the part is in range: every channel is, no bit of CTRLINTMSK that is kept 0 is set, and the kinds are one part's
unfoldable pub part_in : Part → Bool
part_in p = if channels_in p.channels then (if mask_in p.mask then own_kinds p else false) else false

-- a memory of 13,056 bytes and a part in range are accepted
unfoldable pub accepts : Part → ℕ → Bool
accepts p len = if eqb len memory_size then part_in p else false

-- the new part with its answer
unfoldable pub part_step : Part → List ℕ → Step → PartStepped
part_step p m s = if accepts p (length m) then part_served p m (target_of s) else refused_part p out_of_range

-- the 13,056 bytes
unfoldable pub part_bytes : Part → List ℕ → Step → List ℕ
part_bytes p m s = if accepts p (length m) then part_stored p m (target_of s) else m
