-- Document 01, 'A sequence on the wires': what a frame's begin, each event and a frame's end do to a channel.
use Rattle.std.specs.Prelude.{ℕ, ◌+◌, Bool, false, List, get_or, set, replicate, if◌then◌else◌}
use Rattle.rules.specs.declared.state.Phase.TheVariants.{Address, Sending}
use Rattle.rules.specs.Numbers.{not_begun, underway, done_status, address_refused, data_refused, past_buffer, not_awaited}
use Rattle.rules.specs.Tables.{start_of, fitting, reads_of, first_sent, marked}
use Rattle.rules.specs.declared.wires.Action.{Action}
use Rattle.rules.specs.declared.wires.Action.TheVariants.{S, D, A, Np, P}
use Rattle.sequence.specs.declared.wires.Turn.{Turn}
use Rattle.sequence.specs.declared.wires.Turn.TheVariants.{Unawaited, AckAddress, AckSending, NackAddress, NackSending, Receive, Begin, Late, End, Fault as Faulty}
use Rattle.sequence.specs.declared.wires.Move.{Move}
use Rattle.sequence.specs.declared.wires.Move.TheVariants.{Halt, Send}
use Rattle.sequence.specs.declared.wires.Next.{Next}
use Rattle.sequence.specs.declared.wires.Next.TheVariants.{Cut, More, Over}
use Rattle.sequence.specs.declared.wires.Tail.{Tail}
use Rattle.sequence.specs.declared.wires.Tail.TheVariants.{Plain, Nacked}
use Rattle.sequence.specs.declared.wires.Beginning.{Beginning}
use Rattle.sequence.specs.declared.wires.Beginning.TheVariants.{Empty, Unfit, Fit}
use Rattle.rules.specs.declared.wires.Edge.{Edge}
use Rattle.sequence.specs.declared.wires.Beat.{Beat}
use Rattle.sequence.specs.declared.wires.Beat.TheVariants.{Quiet, Begin as BeginBeat, Late as LateBeat}
use Rattle.sequence.specs.Wires.{beginning_of, reach_of, move_of, next_of, stop_by, again_by, masked_of, edge_beat}
use Rattle.head.specs.State.{plain, refused, acted}
use Rattle.head.specs.Head.{halt_of, kind_of, in_phase, idled, frame_ended, stopped, clocked, noted, failed, late_by, faulted}
use Rattle.channel.specs.declared.state.Channel.{Channel}
use Rattle.channel.specs.declared.state.Stepped.{Stepped}
use Rattle.channel.specs.State.{Served, on, leaving, count_of, with_head, with_status, with_counts}

-- ---- words for transaction n

-- its SLATABLE byte
abbrev pub slave_of : Channel → ℕ → ℕ
slave_of c n = get_or c.slatable n 0

-- its length
abbrev pub length_of : Channel → ℕ → ℕ
length_of c n = get_or c.tranconfig (n + 1) 0

-- its BYTECOUNT, the number of the current byte
abbrev pub bytes_of : Channel → ℕ → ℕ
bytes_of c n = get_or c.bytecount n 0

-- where its current byte stands in the buffer
abbrev pub byte_at : Channel → ℕ → ℕ
byte_at c n = start_of c.tranconfig n + bytes_of c n

-- its STATUS is v
abbrev pub resolved : Channel → ℕ → ℕ → Channel
resolved c n v = with_status c (set c.status n v)

-- ---- a frame begins

-- the first transaction that is not skipped sends START and its SLATABLE byte; later ones a repeated START; STATUS 01h
unfoldable pub sent_to : Channel → ℕ → Action → Stepped
sent_to c n a = on (resolved c n underway) (acted (in_phase c.head (Address n)) a)

-- a skipped one gets 02h when the walk passes it
unfoldable pub passed : Channel → ℕ → ℕ → Channel
passed c from to = with_status c (marked c.status from to)

-- if all are skipped, the frame ends at once, no action
unfoldable pub started_by : Channel → Move → Stepped
started_by c Halt = on c (plain (frame_ended c.head))
started_by c (Send n) = sent_to c n (S (slave_of c n))

unfoldable pub started : Channel → Stepped
started c =
    let to = first_sent (kind_of c.head) c.slatable c.tranconfig 0 (count_of c) in
    started_by (passed c 0 to) (move_of false to (count_of c))

-- all STATUS and BYTECOUNT become 0
unfoldable pub cleared : Channel → Channel
cleared c = with_counts (with_status c (replicate 64 not_begun)) (replicate 64 0)

-- count 0, go Idle, nothing else; lengths of the first count transactions summing above 4,352: no. 5, go Idle
unfoldable pub began_by : Channel → Beginning → Stepped
began_by c Empty = on c (plain (idled c.head))
began_by c Unfit = on c (refused (idled c.head) past_buffer)
began_by c Fit = started (cleared c)

unfoldable pub begun : Channel → Stepped
begun c = began_by c (beginning_of (count_of c) (fitting c.tranconfig))

-- ---- behind transaction n

-- the next transaction, or after the last, or with FE or STO recorded, a stop
unfoldable pub moved_to : Channel → Tail → Move → Stepped
moved_to c t Halt = on c (stopped c.head (stop_by t))
moved_to c t (Send n) = sent_to c n (again_by t (slave_of c n))

unfoldable pub onward : Channel → ℕ → Tail → Stepped
onward c n t =
    let to = reach_of (kind_of c.head) (halt_of c.head) n c.slatable c.tranconfig in
    moved_to (passed c (n + 1) to) t (move_of (halt_of c.head) to (count_of c))

-- a transaction is done: STATUS 02h
unfoldable pub finished : Channel → ℕ → Tail → Stepped
finished c n t = onward (resolved c n done_status) n t

-- ---- ACK, and of a UFm channel SENT

-- BYTECOUNT plus one
unfoldable pub counted_one : Channel → ℕ → Channel
counted_one c n = with_counts c (set c.bytecount n (bytes_of c n + 1))

-- byte k of transaction n is sent
unfoldable pub byte_sent : Channel → List ℕ → ℕ → ℕ → Stepped
byte_sent c m n k = on c (acted (in_phase c.head (Sending n)) (D (get_or m (start_of c.tranconfig n + k) 0)))

-- next byte, or done; a transaction cut short keeps 01h
unfoldable pub send_on : Channel → List ℕ → ℕ → ℕ → Next → Stepped
send_on c m n k Cut = on c (stopped c.head P)
send_on c m n k More = byte_sent c m n k
send_on c m n k Over = finished c n Plain

-- ACK in Address: a read always answers C; a write sends its first byte, or with length 0 is done
abbrev pub ack_write : Channel → List ℕ → ℕ → Stepped
ack_write c m n = send_on c m n 0 (next_of (halt_of c.head) 0 (length_of c n))

unfoldable pub ack_address : Channel → List ℕ → ℕ → Stepped
ack_address c m n = if reads_of (slave_of c n) then on c (clocked c.head n) else ack_write c m n

-- ACK in Sending: BYTECOUNT plus one; next byte, or done
unfoldable pub ack_sending : Channel → List ℕ → ℕ → Stepped
ack_sending c m n = send_on (counted_one c n) m n (bytes_of c n + 1) (next_of (halt_of c.head) (bytes_of c n + 1) (length_of c n))

-- ---- BYTE b in Receiving: stored, BYTECOUNT plus one; A, or done by NP or NR
unfoldable pub receive_on : Channel → ℕ → Next → Stepped
receive_on c n Cut = on c (stopped c.head Np)
receive_on c n More = on c (acted c.head A)
receive_on c n Over = finished c n Nacked

unfoldable pub received : Channel → List ℕ → ℕ → ℕ → Served
received c m n b = record {
  stepped = receive_on (counted_one c n) n (next_of (halt_of c.head) (bytes_of c n + 1) (length_of c n));
  bytes = set m (byte_at c n) b;
}

-- ---- NACK: STATUS v; WE for a write, RE for a read

-- unmasked: P, an error end; masked: next transaction
unfoldable pub failed_by : Channel → ℕ → Bool → Stepped
failed_by c n masked = if masked then onward c n Plain else on c (failed c.head)

unfoldable pub nacked : Channel → ℕ → ℕ → Stepped
nacked c n v =
    let read = reads_of (slave_of c n) in
    failed_by (with_head (resolved c n v) (noted c.head read)) n (masked_of c.head.regs.intmsk read)

-- ---- an event in the phase that it meets; no. 7 where it is not awaited. NACK: STATUS 04h in Address, 08h in Sending
unfoldable pub turned : Channel → List ℕ → Turn → Served
turned c m Unawaited = leaving m (on c (refused c.head not_awaited))
turned c m (AckAddress n) = leaving m (ack_address c m n)
turned c m (AckSending n) = leaving m (ack_sending c m n)
turned c m (Receive n b) = received c m n b
turned c m (NackAddress n) = leaving m (nacked c n address_refused)
turned c m (NackSending n) = leaving m (nacked c n data_refused)
turned c m Begin = leaving m (begun c)
turned c m Late = leaving m (on c (plain (late_by c.head)))
turned c m End = leaving m (on c (plain (frame_ended c.head)))
turned c m (Faulty f) = leaving m (on c (plain (faulted c.head f)))

-- ---- a trigger edge's effect on one channel; a frame that doesn't fit shows as no. 5, which its caller turns into BE
unfoldable pub beaten : Channel → Beat → Stepped
beaten c Quiet = on c (plain c.head)
beaten c BeginBeat = begun c
beaten c LateBeat = on c (plain (late_by c.head))

unfoldable pub triggered : Channel → Edge → Stepped
triggered c edge = beaten c (edge_beat c.head.walk.phase c.head.regs.te c.head.regs.tp edge)
