-- Works that only an Idle channel does: a request supplies a number, a change and what is left in the buffer. And the call of a work on a single channel, and what it gives back on the part.
use Rattle.std.specs.Prelude.{ℕ, false, List, ◌≡◌, eqb, length, if◌then◌else◌}
use Rattle.rules.specs.Numbers.{done, locked}
use Rattle.rules.specs.Registers.{active_of}
use Rattle.rules.specs.declared.wires.Action.TheVariants.{Nothing}
use Rattle.head.specs.declared.state.Answer.{Answer}
use Rattle.channel.specs.declared.state.Channel.{Channel}
use Rattle.channel.specs.declared.state.Stepped.{Stepped}
use Rattle.channel.specs.Range.{in_range}
use Rattle.channel.specs.Step.{range_number}
use Rattle.part.specs.declared.state.Part.{Part}
use Rattle.part.specs.declared.state.PartStepped.{PartStepped}
use Rattle.works.specs.State.{State}
use Rattle.works.specs.Work.{Own, Given, Work, Sound, unkeyed, own_of, work_done, work_reply}

-- ---- of an Idle channel

-- the channel is Idle
abbrev pub IdleOwn : Own → Type 0
IdleOwn o = active_of o.channel.head.walk.phase ≡ false

-- a deed: what its buffer holds at the call (`lent`), the number that refuses it on an Idle channel, or 0 (`number`), what it makes of the channel's own (`change`), and what it
-- leaves in its buffer (`hands`); and what a work has to keep to, where it is done
pub record Deed : Type 0 where
  pub lent : List ℕ
  pub number : Own → ℕ
  pub change : Own → Own
  pub hands : Own → List ℕ
  pub keeps : (o : Own) → Sound o → IdleOwn o → number o ≡ 0 → Sound (change o)
  pub stays : (o : Own) → (change o).channel.head.straps ≡ o.channel.head.straps
  pub unkeys : (o : Own) → change (unkeyed o) ≡ unkeyed (change o)
  pub numbers : (o : Own) → number (unkeyed o) ≡ number o
  pub blind : (o : Own) → hands (unkeyed o) ≡ hands o

-- 3 if active, and then its own number
unfoldable pub deed_number : Deed → Own → ℕ
deed_number d o = if active_of o.channel.head.walk.phase then locked else d.number o

-- at a refusal all memory stays, and the record
unfoldable pub deed_after : Deed → Own → Own
deed_after d o = if eqb (deed_number d o) done then d.change o else o

-- and the buffer
unfoldable pub deed_out : Deed → Own → List ℕ
deed_out d o = if eqb (deed_number d o) done then d.hands o else d.lent

-- an answer with a number and nothing else
abbrev pub numbered : ℕ → Answer
numbered n = record { number = n; value = 0; action = Nothing }

abbrev pub deed_gives : Deed → Own → Given
deed_gives d o = record { answer = numbered (deed_number d o); out = deed_out d o }

-- ---- the call of a work on a single channel: no. 9, then the work; no. 1 does not occur

-- what it leaves: the record with the answer, the channel's bytes, and its buffer
pub record Alone : Type 0 where
  pub stepped : Stepped
  pub bytes : List ℕ
  pub out : List ℕ

abbrev pub alone_given : Own → Given → Alone
alone_given o g = record { stepped = record { channel = o.channel; answer = g.answer }; bytes = o.bytes; out = g.out }

-- a record and bytes, as what is a channel's own
abbrev pub own_by : Channel → List ℕ → Own
own_by c m = record { channel = c; bytes = m }

unfoldable pub alone_by : Work → Channel → List ℕ → Alone
alone_by w c m =
    let o = own_by c m in
    let n = range_number (length m) (in_range c) in
    if eqb n done then alone_given (w.after o) (w.gives o) else alone_given o (record { answer = numbered n; out = w.lent })

-- ---- what the call of a work that is no write leaves of the part: what is every other channel's own, CTRLINTMSK, and CTRLPRESET's A5h
pub record Spares (c : ℕ) (s t : State) : Type 0 where
  pub others : (d : ℕ) → (c ≡ d → ⊥) → own_of t d ≡ own_of s d
  pub mask : t.part.mask ≡ s.part.mask
  pub key : t.part.key ≡ s.part.key

-- ---- the call of a work on the part, as what it gives back

abbrev pub state_of : Part → List ℕ → State
state_of p m = record { part = p; memory = m }

abbrev pub call_step : Work → Part → List ℕ → ℕ → PartStepped
call_step w p m c = record { part = (work_done (state_of p m) c w).part; answer = (work_reply (state_of p m) c w).answer }

abbrev pub call_bytes : Work → Part → List ℕ → ℕ → List ℕ
call_bytes w p m c = (work_done (state_of p m) c w).memory

abbrev pub call_out : Work → Part → List ℕ → ℕ → List ℕ
call_out w p m c = (work_reply (state_of p m) c w).out
