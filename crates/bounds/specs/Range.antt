-- Document 01, 'Out of range': its clauses over the parts of a channel's record, in its order. A definition is true of what is in range: where the clause above it does not hold.
use Rattle.std.specs.Prelude.{ℕ, zero, suc, ◌+◌, ◌-◌, ◌/◌, ◌%◌, Bool, true, false, not, List, get_or, eqb, ltb, if◌then◌else◌}
use Rattle.rules.specs.declared.state.Phase.{Phase}
use Rattle.rules.specs.declared.state.Phase.TheVariants.{Idle, Address, Sending, Receiving, Stopping, Waiting}
use Rattle.rules.specs.declared.parts.Kind.{Kind}
use Rattle.rules.specs.declared.state.Ptrs.{Ptrs}
use Rattle.rules.specs.declared.state.Walk.{Walk}
use Rattle.rules.specs.Numbers.{buffer_size}
use Rattle.rules.specs.Parts.{is_fm}
use Rattle.rules.specs.Registers.{active_of}
use Rattle.rules.specs.Tables.{fitting, reads_of, skipped_of}

-- SLATABLE or BYTECOUNT pointer above 64, TRANCONFIG's above 65, DATA's above 4,352
unfoldable pub pointers_in : Ptrs → Bool
pointers_in p =
    if ltb 64 p.sla then false else
    if ltb 64 p.count then false else
    if ltb 65 p.conf then false else
    if ltb buffer_size p.buf then false else true

-- TRANCONFIG entry 0 above 64, TRANSEL above 63, a bit that is kept 0 set: of INTMSK
unfoldable pub registers_in : ℕ → ℕ → ℕ → Bool
registers_in count transel intmsk =
    if ltb 64 count then false else
    if ltb 63 transel then false else eqb (intmsk / 2 % 8) 0

-- ---- the walk

-- frames are counted in an active channel with TE 0 and FRAMECNT above 0
unfoldable pub counting_of : Phase → Bool → ℕ → Bool
counting_of p te framecnt = if active_of p then (if te then false else ltb 0 framecnt) else false

-- a number of ended frames that isn't below FRAMECNT there, or isn't 0 anywhere else
unfoldable pub ended_in : Phase → Bool → ℕ → ℕ → Bool
ended_in p te framecnt ended = if counting_of p te framecnt then ltb ended framecnt else eqb ended 0

-- nothing is recorded or noted
unfoldable pub blank_of : Walk → Bool
blank_of w =
    if w.sto then false else
    if w.seq then false else
    if w.fe then false else
    if w.error then false else true

-- a stop or FE recorded in Idle or Waiting, an error end noted outside Stopping
unfoldable pub recorded_in : Phase → Walk → Bool
recorded_in Idle w = blank_of w
recorded_in (Address n) w = not w.error
recorded_in (Sending n) w = not w.error
recorded_in (Receiving n) w = not w.error
recorded_in Stopping w = true
recorded_in Waiting w = blank_of w

-- both
unfoldable pub walk_in : Walk → Bool → ℕ → Bool
walk_in w te framecnt = if ended_in w.phase te framecnt w.ended then recorded_in w.phase w else false

-- ---- the frame

-- whose lengths sum above 4,352, whose transaction is a skipped one or doesn't exist
unfoldable pub standing : Kind → ℕ → List ℕ → List ℕ → Bool
standing kind n sla lens =
    if fitting lens then
    (if ltb n (get_or lens 0 0) then not (skipped_of kind (get_or sla n 0) (get_or lens (n + 1) 0)) else false) else false

-- whose phase isn't its direction's, or whose transaction's BYTECOUNT isn't 0 in Address or below the length in the other two
unfoldable pub counted_in : Phase → ℕ → ℕ → ℕ → Bool
counted_in Idle sla len count = true
counted_in (Address n) sla len count = eqb count 0
counted_in (Sending n) sla len count = if reads_of sla then false else ltb count len
counted_in (Receiving n) sla len count = if reads_of sla then ltb count len else false
counted_in Stopping sla len count = true
counted_in Waiting sla len count = true

-- the next `left` entries from i are 0
unfoldable pub clear_from : List ℕ → ℕ → ℕ → Bool
clear_from l i zero = true
clear_from l i (suc left) = if eqb (get_or l i 0) 0 then clear_from l (i + 1) left else false

-- every entry from i to 63 is 0
abbrev pub clear_after : List ℕ → ℕ → Bool
clear_after l i = clear_from l i (64 - i)

-- or with a BYTECOUNT of any entry after that transaction that isn't 0
unfoldable pub counts_in : Phase → ℕ → List ℕ → List ℕ → List ℕ → Bool
counts_in p n sla lens counts =
    if counted_in p (get_or sla n 0) (get_or lens (n + 1) 0) (get_or counts n 0) then clear_after counts (n + 1) else false

-- a frame at transaction n in phase p
unfoldable pub frame_at : Kind → Phase → ℕ → List ℕ → List ℕ → List ℕ → Bool
frame_at kind p n sla lens counts = if standing kind n sla lens then counts_in p n sla lens counts else false

-- a frame in Address, Sending or Receiving
unfoldable pub frame_in : Kind → Phase → List ℕ → List ℕ → List ℕ → Bool
frame_in kind Idle sla lens counts = true
frame_in kind (Address n) sla lens counts = frame_at kind (Address n) n sla lens counts
frame_in kind (Sending n) sla lens counts = frame_at kind (Sending n) n sla lens counts
frame_in kind (Receiving n) sla lens counts = frame_at kind (Receiving n) n sla lens counts
frame_in kind Stopping sla lens counts = true
frame_in kind Waiting sla lens counts = true

-- ---- document 02, request Three: the kinds of the part's channels

-- a part in which a channel's kind isn't the part's own: channel 0 is Fm+ on both, channels 1 and 2 are of one kind
unfoldable pub kinds_in : Kind → Kind → Kind → Bool
kinds_in first second third = if is_fm first then (if is_fm second then is_fm third else not (is_fm third)) else false
