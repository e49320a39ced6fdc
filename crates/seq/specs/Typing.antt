-- What `./seq load` prints: the register writes that type a file, a line each.
use Rattle.std.specs.Prelude.{ℕ, ◌+◌, ◌/◌, ◌%◌, ◌<◌, List, [], ◌∷◌, ◌++◌}
use Rattle.steps.specs.declared.map.Step.{Step}
use Rattle.steps.specs.declared.map.Step.TheVariants.{Write}
use Rattle.letters.specs.Letters.{digit_of}
use Rattle.files.specs.Typed.{Typed, register_at, each_to, typing}

abbrev pub write : ℕ → ℕ → Typed
write a v = record { at = a; value = v }

-- its address and its value are bytes
abbrev pub Byte : ℕ → Type 0
Byte x = x < 256

abbrev pub Small : Typed → Type 0
Small w = Byte w.at × Byte w.value

-- the part's steps of some writes
abbrev pub steps_for : List Typed → List Step
steps_for [] = []
steps_for (w ∷ l) = Write w.at w.value ∷ steps_for l

-- the line of a write, `W aa dd`, without its LF
abbrev pub line_for : Typed → List ℕ
line_for w = 87 ∷ 32 ∷ digit_of (w.at / 16) ∷ digit_of (w.at % 16) ∷ 32 ∷ digit_of (w.value / 16) ∷ digit_of (w.value % 16) ∷ []

-- a script of writes: each line with its LF
unfoldable pub script_of : List Typed → List ℕ
script_of [] = []
script_of (w ∷ l) = line_for w ++ (10 ∷ script_of l)

-- reset pointers: TRANSEL (+6) 0, which zeroes TRANOFS, and AIPTRRST in CONTROL (+0)
abbrev pub rewinding : ℕ → List Typed
rewinding k = write (register_at k 6) 0 ∷ write (register_at k 0) 2 ∷ []

-- the writes that type a file into channel k, with the pointers reset before them, and AIPTRRST behind them: a read leaves the pointers 0
abbrev pub typing_all : ℕ → List ℕ → List Typed
typing_all k f = rewinding k ++ (typing k f ++ (write (register_at k 0) 2 ∷ []))

-- the same of a file's blocks: its count n, addresses a, lengths l and data d, with CONTROL at b
abbrev pub blocks_typed : ℕ → ℕ → List ℕ → List ℕ → List ℕ → List Typed
blocks_typed b n a l d =
    write (b + 6) 0 ∷ write b 2 ∷ write (b + 4) n ∷ (each_to (b + 4) l ++ (each_to (b + 3) a ++ (each_to (b + 5) d ++ (write b 2 ∷ []))))

-- the most bytes: 8 a line; 2 lines, the count, 64 lengths, 64 addresses, 4,352 bytes and 1 line. Asked of each call that the room is lent to
abbrev pub text_room : ℕ
text_room = 35872
