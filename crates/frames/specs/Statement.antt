-- REQUEST ONE (document 02): a frame can't hang, and no byte counts twice. A frame takes at most its count plus its summed lengths plus one of the ACK, NACK,
-- BYTE and STOP events answered 0, SENT counted as ACK; each BYTECOUNT equals the number of data bytes acknowledged or received for that transaction in the events since
-- the frame began; bytes sent by a write are the buffer's bytes in order.
-- A reader has to believe this page, the logger (Wire.antt), what a step is to a channel (Deeds.antt), and the rules of a step that the contract of `Part::step` cites
-- (crate part, specs/Step.antt). proofs/Theorem.antt says what is proved; the last lines of each statement there and all of proofs/Laws/ are proof.
use Rattle.std.specs.Prelude.{ℕ, ◌+◌, ◌<◌, ◌≤◌, Bool, true, false, List, [], ◌∷◌, ◌≡◌, length, get_or, replicate, if◌then◌else◌}
use Rattle.rules.specs.declared.state.Phase.TheVariants.{Idle, Address}
use Rattle.rules.specs.Numbers.{done}
use Rattle.rules.specs.Tables.{start_of, sum_of, fitting, reads_of}
use Rattle.rules.specs.declared.wires.Action.{Action}
use Rattle.rules.specs.declared.wires.Action.TheVariants.{Nothing, S}
use Rattle.rules.specs.declared.wires.Event.{Event}
use Rattle.steps.specs.declared.map.Step.TheVariants.{Wire}
use Rattle.steps.specs.declared.map.Target.{Target}
use Rattle.steps.specs.declared.answer.PartAnswer.{PartAnswer}
use Rattle.head.specs.Head.{kind_of}
use Rattle.channel.specs.declared.state.Channel.{Channel}
use Rattle.channel.specs.State.{count_of, fresh}
use Rattle.channel.specs.Wires.{slave_of, length_of, bytes_of}
use Rattle.part.specs.State.{chan, window}
use Rattle.mixes.specs.Mix.{Machine, ends}
use Rattle.independent.specs.Statement.{State, Accepted, the_part}
use Rattle.frames.specs.Wire.{Entry, Slaves, next_from, Watch, cost_of, spent, faults, ends_of, addressing, watch_after, acknowledged, sent, Carries}
use Rattle.frames.specs.Wire.Heard.{event}
use Rattle.frames.specs.Deeds.{heard_by, resets_by, may_begin, begins_by, runs_of}

-- ---- words

-- channel c of a state, and its 4,352 bytes
abbrev pub channel_of : ℕ → State → Channel
channel_of c s = chan s.part c

abbrev pub buffer_of : ℕ → State → List ℕ
buffer_of c s = window c s.memory

-- the action of channel c in an answer
abbrev pub action_at : ℕ → List Action → Action
action_at c l = get_or l c Nothing

-- it is as a reset leaves a channel of its kind
abbrev pub Fresh : Channel → Type 0
Fresh x = x ≡ fresh x.head.straps

-- whom it addresses
abbrev pub slaves_of : Channel → Slaves
slaves_of c = record { kind = kind_of c.head; table = c.slatable }

-- the first transaction that is not skipped, or the count
abbrev pub first_of : Channel → ℕ
first_of c = next_from (slaves_of c) c.tranconfig 0

-- count plus summed lengths plus one, skipped transactions counted too
abbrev pub bound_of : Channel → ℕ
bound_of c = count_of c + sum_of c.tranconfig + 1

-- ---- a frame of channel c has just begun: its first transaction is addressed, and every BYTECOUNT is 0
pub record Begun (c : ℕ) (s : State) : Type 0 where
  pub accepted : Accepted s
  pub number : c < 3
  pub phase : (channel_of c s).head.walk.phase ≡ Address (first_of (channel_of c s))
  pub counts : (channel_of c s).bytecount ≡ replicate 64 0

-- the logger then
abbrev pub start_watch : Channel → Watch
start_watch c = addressing (first_of c)

-- ---- in state s some event of channel c that counts would be answered 0
pub record Awaits (c : ℕ) (s : State) : Type 0 where
  pub what : Event
  pub counts : cost_of (event what) ≡ 1
  pub answered : (the_part.answer s (Wire c what)).number ≡ done

-- ---- channel c in a run of a machine whose states are the part's (`the_part`; `the_script` of crate runner); `aim` says whom a step concerns
module _ {A : Type 0} (M : Machine State A PartAnswer) (aim : A → Target) (c : ℕ) where
  -- what the logger has of a step, and of a run
  abbrev pub entry_at : State → A → Entry
  entry_at s a = record { heard = heard_by c (aim a) (M.answer s a).number; action = action_at c (M.answer s a).actions }

  abbrev pub log_of : State → List A → List Entry
  log_of s [] = []
  log_of s (a ∷ l) = entry_at s a ∷ log_of (M.after s a) l

  -- of a run, the steps of the frame: up to the event that ends it, or to a reset of the channel
  unfoldable pub frame_of : State → List A → List A
  frame_of s [] = []
  frame_of s (a ∷ l) = if resets_by c s.part (aim a) then [] else a ∷ (if ends_of (entry_at s a).heard then [] else frame_of (M.after s a) l)

  -- after these it is not over
  unfoldable pub runs_on : State → List A → Bool
  runs_on s [] = true
  runs_on s (a ∷ l) = if resets_by c s.part (aim a) then true else (if ends_of (entry_at s a).heard then false else runs_on (M.after s a) l)

  -- of a run, the steps up to the next begin or reset of the channel
  unfoldable pub until_next : State → List A → List A
  until_next s [] = []
  until_next s (a ∷ l) =
      if resets_by c s.part (aim a) then [] else
      (if begins_by c s.part (aim a) then [] else a ∷ until_next (M.after s a) l)

  -- each action of the run carries what it must, with the buffer of that moment
  abbrev pub Momentary : Slaves → List ℕ → State → Watch → List A → Type 0
  Momentary sla lens s w [] = Unit {0}
  Momentary sla lens s w (a ∷ l) =
      Carries sla lens (buffer_of c s) w (entry_at s a).action
      × Momentary sla lens (M.after s a) (watch_after sla lens w (entry_at s a).action) l

  -- the bytes of transaction k that the frame sends, in order, and how many data bytes of it are acknowledged or received until the next begin or reset
  abbrev pub sent_in : State → List A → ℕ → List ℕ
  sent_in s l k = sent (slaves_of (channel_of c s)) (channel_of c s).tranconfig k (start_watch (channel_of c s)) (log_of s (frame_of s l))

  abbrev pub acknowledged_in : State → List A → ℕ → ℕ
  acknowledged_in s l k = acknowledged (slaves_of (channel_of c s)) (channel_of c s).tranconfig k (start_watch (channel_of c s)) (log_of s (until_next s l))

  -- WHAT IS PROMISED OF A FRAME that begins with state s, whatever steps l follow: accesses, events, refused ones, triggers, TICK, other channels' steps,
  -- resets, faults
  pub record Frame (s : State) (l : List A) : Type 0 where
    -- it takes at most count plus summed lengths plus one events; SDA, SCL and ILL may be counted with them
    pub bound : spent (log_of s (frame_of s l)) + faults (log_of s (frame_of s l)) ≤ bound_of (channel_of c s)
    -- it is under way until it is over on the wires, and while it is, an event that counts is awaited
    pub runs : runs_of (channel_of c (ends M s (frame_of s l))).head.walk.phase ≡ runs_on s l
    pub awaits : runs_on s l ≡ true → Awaits c (ends M s (frame_of s l))
    -- no step of the frame begins one or resets the channel, and after it none of the events that count is answered 0 until the next begin or reset
    pub within : until_next s (frame_of s l) ≡ frame_of s l
    pub silent : spent (log_of s (until_next s l)) ≡ spent (log_of s (frame_of s l))
    -- until then each BYTECOUNT is the number of data bytes acknowledged or received
    pub counts : (k : ℕ) → bytes_of (channel_of c (ends M s (until_next s l))) k ≡ acknowledged_in s l k
    -- each repeated START addresses the next transaction, and each byte sent is the buffer's at the moment of its D
    pub moments : Momentary (slaves_of (channel_of c s)) (channel_of c s).tranconfig s (start_watch (channel_of c s)) (frame_of s l)
    -- byte j that write k sends is the buffer's, at its start plus j, as the frame found it
    pub order : (k j : ℕ) → k < count_of (channel_of c s) → reads_of (slave_of (channel_of c s) k) ≡ false → j < length (sent_in s l k)
        → (j < length_of (channel_of c s) k) × (get_or (sent_in s l k) j 0 ≡ get_or (buffer_of c s) (start_of (channel_of c s).tranconfig k + j) 0)
    -- write k sends as many bytes as its BYTECOUNT says, or one more
    pub pace : (k : ℕ) → k < count_of (channel_of c s) → reads_of (slave_of (channel_of c s) k) ≡ false
        → (bytes_of (channel_of c (ends M s (frame_of s l))) k ≤ length (sent_in s l k))
        × (length (sent_in s l k) ≤ bytes_of (channel_of c (ends M s (frame_of s l))) k + 1)

  -- WHERE A STEP LEADS that asks channel c for a frame: the frame has begun with a START, or is over at once since all are skipped; or none began, since the count
  -- is 0 or the lengths don't fit
  pub data Leads (s : State) (a : A) : Type 0 where
    begun : may_begin (channel_of c s) ≡ true → Begun c (M.after s a) → (entry_at s a).action ≡ S (slave_of (channel_of c s) (first_of (channel_of c s))) → Leads s a
    skipped : may_begin (channel_of c s) ≡ true → first_of (channel_of c s) ≡ count_of (channel_of c s) → runs_of (channel_of c (M.after s a)).head.walk.phase ≡ false
        → (channel_of c (M.after s a)).bytecount ≡ replicate 64 0 → (entry_at s a).action ≡ Nothing → Leads s a
    empty : may_begin (channel_of c s) ≡ false → count_of (channel_of c s) ≡ 0 → (channel_of c (M.after s a)).head.walk.phase ≡ Idle
        → (channel_of c (M.after s a)).bytecount ≡ (channel_of c s).bytecount → (entry_at s a).action ≡ Nothing → Leads s a
    unfit : may_begin (channel_of c s) ≡ false → fitting (channel_of c s).tranconfig ≡ false → (channel_of c (M.after s a)).head.walk.phase ≡ Idle
        → (channel_of c (M.after s a)).bytecount ≡ (channel_of c s).bytecount → (entry_at s a).action ≡ Nothing → Leads s a

  -- the tables and the buffer stay
  pub record Begins (s : State) (a : A) : Type 0 where
    pub slas : slaves_of (channel_of c (M.after s a)) ≡ slaves_of (channel_of c s)
    pub lengths : (channel_of c (M.after s a)).tranconfig ≡ (channel_of c s).tranconfig
    pub bytes : buffer_of c (M.after s a) ≡ buffer_of c s
    pub leads : Leads s a

  -- WHAT A STEP LEAVES outside a frame, where it neither asks channel c for one nor resets it: so no frame begins in another way
  pub record Rested (s : State) (a : A) : Type 0 where
    pub runs : runs_of (channel_of c (M.after s a)).head.walk.phase ≡ false
    pub counts : (channel_of c (M.after s a)).bytecount ≡ (channel_of c s).bytecount
    pub action : (entry_at s a).action ≡ Nothing

  -- AND A RUN outside a frame: until the next begin or reset none of the events that count is answered 0, and every BYTECOUNT stays
  pub record Quiet (s : State) (l : List A) : Type 0 where
    pub silent : spent (log_of s (until_next s l)) ≡ 0
    pub counts : (channel_of c (ends M s (until_next s l))).bytecount ≡ (channel_of c s).bytecount
