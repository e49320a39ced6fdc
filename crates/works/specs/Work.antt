-- A work is a step of one channel, whatever it is, with what a buffer of its own holds. It sees what is the channel's own and nothing else. This page
-- says what a work is, and what its call does to the part.
use Rattle.std.specs.Prelude.{ℕ, Bool, List, ◌≡◌, ltb, length, if◌then◌else◌}
use Rattle.interrupt.specs.Interrupt.{be_after}
use Rattle.steps.specs.declared.answer.PartAnswer.{PartAnswer}
use Rattle.head.specs.declared.state.Answer.{Answer}
use Rattle.channel.specs.declared.state.Channel.{Channel}
use Rattle.channel.specs.Facts.{Accepted}
use Rattle.part.specs.declared.state.Part.{Part}
use Rattle.part.specs.State.{chan, window, put_window, refused_part, keyless, forgotten}
use Rattle.part.specs.Step.{one_after, answer_at, accepts}
use Rattle.works.specs.State.{State}

-- ---- of one channel

-- what is a channel's own: its record and its 4,352 bytes
pub record Own : Type 0 where
  pub channel : Channel
  pub bytes : List ℕ

-- the same with no A5h pending
abbrev pub unkeyed : Own → Own
unkeyed o = record { channel = keyless o.channel; bytes = o.bytes }

-- the record is in range, and the bytes are 4,352
abbrev pub Sound : Own → Type 0
Sound o = Accepted o.channel o.bytes

-- what a work gives: its answer, and what it leaves in its buffer
pub record Given : Type 0 where
  pub answer : Answer
  pub out : List ℕ

-- a work: what its buffer holds at the call (`lent`), what it makes of the channel's own (`after`), what it gives (`gives`), whether it is a write to the part
-- (`writes`); that it leads neither out of range nor to another number of bytes (`keeps`), that what the hardware reset chose stays (`stays`), and that the channel's key is nothing to it: where that was
-- forgotten before, it does the same (`unkeys`) and gives the same (`blind`). So a write to PRESET is no work
pub record Work : Type 0 where
  pub lent : List ℕ
  pub after : Own → Own
  pub gives : Own → Given
  pub writes : Bool
  pub keeps : (o : Own) → Sound o → Sound (after o)
  pub stays : (o : Own) → (after o).channel.head.straps ≡ o.channel.head.straps
  pub unkeys : (o : Own) → after (unkeyed o) ≡ unkeyed (after o)
  pub blind : (o : Own) → gives (unkeyed o) ≡ gives o

-- ---- on the part

-- what is channel c's own
abbrev pub own_of : State → ℕ → Own
own_of s c = record { channel = chan s.part c; bytes = window c s.memory }

-- the part where a work of channel c finds it: a write has forgotten every other key
abbrev pub left_for : Part → ℕ → Bool → Part
left_for p c writes = if writes then forgotten p c else p

-- the state with o as channel c's own, after an answer of this number
abbrev pub own_put : State → ℕ → Own → ℕ → Bool → State
own_put s c o number writes = record {
  part = let p = left_for s.part c writes in one_after p c o.channel (be_after p.be number);
  memory = put_window c o.bytes s.memory;
}

-- the state after a work of channel c, and what it gives
unfoldable pub work_after : State → ℕ → Work → State
work_after s c w = let o = own_of s c in own_put s c (w.after o) (w.gives o).answer.number w.writes

unfoldable pub work_gives : State → ℕ → Work → Given
work_gives s c w = w.gives (own_of s c)

-- ---- the call of a work

-- the part's answer, and what the buffer holds after the call
pub record Reply : Type 0 where
  pub answer : PartAnswer
  pub out : List ℕ

-- the reply to a work of channel c that gave g
abbrev pub reply_by : ℕ → Given → Reply
reply_by c g = record { answer = answer_at c g.answer; out = g.out }

-- the reply to a work that is refused with number n
abbrev pub refusal : State → Work → ℕ → Reply
refusal s w n = record { answer = (refused_part s.part n).answer; out = w.lent }

-- no. 9, then no. 1 for a channel above 2, then the work; a refusal leaves the state and the buffer
unfoldable pub work_done : State → ℕ → Work → State
work_done s c w = if accepts s.part (length s.memory) then (if ltb c 3 then work_after s c w else s) else s

unfoldable pub work_reply : State → ℕ → Work → Reply
work_reply s c w =
    if accepts s.part (length s.memory)
    then (if ltb c 3 then reply_by c (work_gives s c w) else refusal s w 1)
    else refusal s w 9
