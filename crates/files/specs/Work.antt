-- Document 02, request Five: a file written from an Idle channel's first count transactions, and read into an Idle channel. Both are works of a channel, with the file's buffer.
use Rattle.std.specs.Prelude.{ℕ, ◌+◌, ◌*◌, List, ◌∷◌, ltb, get_or, take, drop, replicate, if◌then◌else◌}
use Rattle.rules.specs.Numbers.{done, no_room}
use Rattle.rules.specs.Tables.{sum_of, fitting}
use Rattle.head.specs.declared.state.Head.{Head}
use Rattle.channel.specs.declared.state.Channel.{Channel}
use Rattle.channel.specs.State.{zeros}
use Rattle.works.specs.Work.{Own}
use Rattle.files.specs.File.{file_of, count_in, addresses_in, lengths_in, data_in, over}

-- ---- reading

-- after a read TRANSEL, TRANOFS and the SLATABLE, TRANCONFIG and DATA pointers are 0; all else, reset keys too, stays
abbrev pub rewound_head : Head → Head
rewound_head h = record h {
  regs = record h.regs { transel = 0; tranofs = 0 };
  ptrs = record h.ptrs { sla = 0; conf = 0; buf = 0 };
}

-- the tables of a file: its addresses; its count and its lengths; entries past the count become zero
abbrev pub loaded_sla : List ℕ → List ℕ
loaded_sla f = over (addresses_in f) (replicate 64 0)

abbrev pub loaded_conf : List ℕ → List ℕ
loaded_conf f = over (count_in f ∷ lengths_in f) (replicate 65 0)

-- its data; bytes past the sum become zero
abbrev pub loaded_bytes : List ℕ → List ℕ
loaded_bytes f = over (data_in f) zeros

-- the channel into which it is read
abbrev pub loaded : List ℕ → Channel → Channel
loaded f c = record c { head = rewound_head c.head; slatable = loaded_sla f; tranconfig = loaded_conf f }

abbrev pub loaded_own : List ℕ → Own → Own
loaded_own f o = record { channel = loaded f o.channel; bytes = loaded_bytes f }

-- ---- writing

-- the first count transactions of two tables and a buffer: their addresses, their lengths and their bytes
abbrev pub first_addresses : List ℕ → List ℕ → List ℕ
first_addresses sla lens = take (get_or lens 0 0) sla

abbrev pub first_lengths : List ℕ → List ℕ
first_lengths lens = take (get_or lens 0 0) (drop 1 lens)

abbrev pub first_bytes : List ℕ → List ℕ → List ℕ
first_bytes lens m = take (sum_of lens) m

-- their file, and how many bytes it has
abbrev pub tables_file : List ℕ → List ℕ → List ℕ → List ℕ
tables_file sla lens m = file_of (first_addresses sla lens) (first_lengths lens) (first_bytes lens m)

abbrev pub file_from : Own → List ℕ
file_from o = tables_file o.channel.slatable o.channel.tranconfig o.bytes

abbrev pub size_of : List ℕ → ℕ
size_of lens = 12 + 2 * get_or lens 0 0 + sum_of lens

-- 11 when the output buffer is shorter than the file or the lengths sum above 4,352
unfoldable pub room_number : List ℕ → ℕ → ℕ
room_number lens room = if fitting lens then (if ltb room (size_of lens) then no_room else done) else no_room
