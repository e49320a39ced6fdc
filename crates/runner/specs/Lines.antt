-- The lines of a block of bytes: where each ends, and what is kept of one that the block does not end.
use Rattle.std.specs.Prelude.{ℕ, ◌+◌, List, [], ◌∷◌, eqb, ltb, take, drop, replicate, set, if◌then◌else◌}
use Rattle.script.specs.Grammar.{line_room}
use Rattle.runner.specs.declared.lines.Start.{Start}

-- ---- a line ends before its LF (10)

-- the place of the first LF in some bytes, or their end
abbrev pub first_lf : List ℕ → ℕ
first_lf [] = 0
first_lf (b ∷ l) = if eqb b 10 then 0 else first_lf l + 1

-- where the line ends that starts at a place of the block; at the block's end if no LF follows
unfoldable pub line_end : List ℕ → ℕ → ℕ
line_end block from = from + first_lf (drop from block)

-- ---- what is kept of a line that is not there as a whole

-- no byte of the line is there yet
abbrev pub no_line : Start
no_line = record { bytes = replicate line_room 0; len = 0 }

-- one more byte, while there are fewer than `line_room`: the first `line_room` are read as the whole line is (`read_in_pieces`, proofs/Laws/Lines.antt)
unfoldable pub with_byte : Start → ℕ → Start
with_byte s b = if ltb s.len line_room then record { bytes = set s.bytes s.len b; len = s.len + 1 } else s

-- the line with more of its bytes
abbrev pub lengthened : Start → List ℕ → Start
lengthened s [] = s
lengthened s (b ∷ l) = lengthened (with_byte s b) l

-- how many bytes are kept of a line, `line_room` at most
unfoldable pub kept_of : ℕ → ℕ
kept_of len = if ltb len line_room then len else line_room

-- the bytes that are kept
abbrev pub kept_bytes : Start → List ℕ
kept_bytes line = take (kept_of line.len) line.bytes
