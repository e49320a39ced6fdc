-- What the program reads and what it hands to `write`, piece by piece; put together they are a script and its output (`talk_output`, proofs/Laws/Talk.antt).
use Rattle.std.specs.Prelude.{ℕ, ◌≤◌, Bool, true, false, List, [], ◌++◌, ◌≡◌, length, take, Result, Ok, Err}
use Rattle.part.specs.Facts.{Whole}
use Rattle.answers.specs.Answer.{header}
use Rattle.runner.specs.declared.lines.Start.{Start}
use Rattle.runner.specs.Lines.{first_lf, kept_of, kept_bytes}
use Rattle.runner.specs.Text.{Sitting, fed, said, last_said, opening}
use Rattle.runner.specs.Feeding.{desk_of, shortened}
use Rattle.bench.specs.declared.Seat.{Seat}
use Rattle.bench.specs.declared.Bench.{Bench}
use Rattle.bench.specs.declared.Next.{Next}
use Rattle.bench.specs.declared.Next.TheVariants.{On, Ended}
use Rattle.bench.specs.declared.Failed.{Failed}
use Rattle.bench.specs.declared.Failed.TheVariants.{Unread, Unwritten}

-- the bytes of the block that is read into
abbrev pub block_size : ℕ
block_size = 8192

-- where a script stands that stands so in the program, with the part's memory m
abbrev pub sitting_of : Seat → List ℕ → Sitting
sitting_of s m = record { desk = desk_of s.part m s.step; line = kept_bytes s.line }

-- the same with no line begun
abbrev pub bare_of : Seat → List ℕ → Sitting
bare_of s m = record { desk = desk_of s.part m s.step; line = [] }

-- what each turn asks and leaves: no. 9 refuses nothing, and what is kept of a line has no LF. No invariant of `Seat`, since it speaks of the memory beside it
pub record Ready (s : Seat) (m : List ℕ) : Type 0 where
  pub whole : Whole s.part m
  pub unended : length (kept_bytes s.line) ≤ first_lf (kept_bytes s.line)

-- what is kept of a line has as many bytes as it says
abbrev pub Sized : Start → Type 0
Sized line = length (kept_bytes line) ≡ kept_of line.len

-- the bytes l were answered where the script stood so: r and the memory m are as after them, and the output o begins with their text
pub record Heard (s : Sitting) (l : List ℕ) (r : Seat) (m o : List ℕ) : Type 0 where
  pub stands : sitting_of r m ≡ shortened (fed s l)
  pub text : take r.at o ≡ said s l
  pub fits : r.at ≤ length o
  pub ready : Ready r m

-- the input has ended: the output o begins with the text of the last line
pub record Closed (s : Sitting) (r : Seat) (m o : List ℕ) : Type 0 where
  pub text : take r.at o ≡ last_said s
  pub fits : r.at ≤ length o
  pub ready : Ready r m

-- a seat with no text
abbrev pub silenced : Seat → Seat
silenced s = record { part = s.part; step = s.step; line = s.line; at = 0 }

-- ---- how the program goes on: as meant, unless a write failed
pub data Written (next : Next) (how : Result Next Failed) : Type 0 where
  taken : how ≡ Ok next → Written next how
  lost : how ≡ Err Unwritten → Written next how

-- another turn follows where the last one has left it to go on, and nowhere else
abbrev pub going_on : Result Next Failed → Bool
going_on (Ok On) = true
going_on (Ok Ended) = false
going_on (Err x) = false

-- ---- the header, and a turn: what `read` gave, and the text that was handed to `write`

pub record Begun (b : Bench) (m text : List ℕ) : Type 0 where
  pub stands : sitting_of b.seat m ≡ opening
  pub said : text ≡ header
  pub written : Written On b.how

pub data Turned (s : Seat) (m : List ℕ) (b : Bench) (n came text : List ℕ) : Type 0 where
  read : Written On b.how → sitting_of b.seat n ≡ shortened (fed (sitting_of s m) came) → text ≡ said (sitting_of s m) came → Turned s m b n came text
  ended : Written Ended b.how → came ≡ [] → text ≡ last_said (sitting_of s m) → Turned s m b n came text
  unread : b.how ≡ Err Unread → came ≡ [] → text ≡ [] → Turned s m b n came text

-- ---- all turns up to now: all that was read, and all that was handed to `write`
pub data Talk : Seat → Result Next Failed → List ℕ → List ℕ → List ℕ → Type 0 where
  begun : (b : Bench) (m text : List ℕ) → Begun b m text → Talk b.seat b.how m [] text
  more : (s : Seat) (how : Result Next Failed) (m input output : List ℕ) (b : Bench) (n came text : List ℕ) → Talk s how m input output → how ≡ Ok On → Turned s m b n came text
      → Talk b.seat b.how n (input ++ came) (output ++ text)

-- some such talk
pub record Talks (s : Seat) (how : Result Next Failed) (m : List ℕ) : Type 0 where
  pub input : List ℕ
  pub output : List ℕ
  pub talk : Talk s how m input output
