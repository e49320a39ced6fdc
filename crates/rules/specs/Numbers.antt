-- Document 01's sizes, STATUS values and answer numbers, each by its name.
use Rattle.std.specs.Prelude.{ℕ, Result, Ok, Err}
use Rattle.rules.specs.declared.numbers.Refusal.{Refusal}
use Rattle.rules.specs.declared.numbers.Refusal.TheVariants.{Nowhere, ReadOnly, Locked, PastTable, PastBuffer, ManyTransactions, NotAwaited, Unreadable, OutOfRange, NotAFile, NoRoom}

-- ---- sizes

-- all buffers are one lent memory of 13,056 bytes
abbrev pub memory_size : ℕ
memory_size = 13056

-- each channel works on its own 4,352 bytes
abbrev pub buffer_size : ℕ
buffer_size = 4352

-- ---- STATUS values

-- 00h not begun
abbrev pub not_begun : ℕ
not_begun = 0x00

-- 01h active
abbrev pub underway : ℕ
underway = 0x01

-- 02h done
abbrev pub done_status : ℕ
done_status = 0x02

-- 04h address refused
abbrev pub address_refused : ℕ
address_refused = 0x04

-- 08h data refused
abbrev pub data_refused : ℕ
data_refused = 0x08

-- ---- numbers that an answer carries

-- done
abbrev pub done : ℕ
done = 0

-- address F8h to FEh, or channel above 2
abbrev pub nowhere : ℕ
nowhere = 1

-- write to a read-only register
abbrev pub read_only : ℕ
read_only = 2

-- channel active: write to SLATABLE, DATA, FRAMECNT to TIMEOUT, or TRANCONFIG (except entry 0 in Waiting)
abbrev pub locked : ℕ
locked = 3

-- SLATABLE or BYTECOUNT past entry 63, TRANCONFIG past 64
abbrev pub past_table : ℕ
past_table = 4

-- buffer boundary
abbrev pub past_buffer : ℕ
past_buffer = 5

-- TRANCONFIG entry 0 above 64
abbrev pub many_transactions : ℕ
many_transactions = 6

-- an event not awaited
abbrev pub not_awaited : ℕ
not_awaited = 7

-- script line that can't be read (program only)
abbrev pub unreadable : ℕ
unreadable = 8

-- lent memory not 13,056 bytes, or a state out of range
abbrev pub out_of_range : ℕ
out_of_range = 9

-- document 02, request Five: bytes that are no sequence file
abbrev pub not_a_file : ℕ
not_a_file = 10

-- a sequence that the lent bytes have no room for
abbrev pub no_room : ℕ
no_room = 11

-- ---- a refusal, and the number that it has

abbrev pub refusal_number : Refusal → ℕ
refusal_number Nowhere = nowhere
refusal_number ReadOnly = read_only
refusal_number Locked = locked
refusal_number PastTable = past_table
refusal_number PastBuffer = past_buffer
refusal_number ManyTransactions = many_transactions
refusal_number NotAwaited = not_awaited
refusal_number Unreadable = unreadable
refusal_number OutOfRange = out_of_range
refusal_number NotAFile = not_a_file
refusal_number NoRoom = no_room

-- what an answer carries: done, or the number of what was refused
abbrev pub number_of : Result (Unit {0}) Refusal → ℕ
number_of (Ok t) = done
number_of (Err e) = refusal_number e
