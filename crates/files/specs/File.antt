-- Document 02, request Five: the sequence file. A header of 12 bytes and three blocks.
use Rattle.std.specs.Prelude.{ℕ, ◌+◌, ◌*◌, ◌/◌, ◌%◌, ◌≤◌, List, [], ◌∷◌, ◌++◌, Result, Ok, Err, ◌≡◌, bytes_eq, ltb, length, get_or, take, drop, if◌then◌else◌}
use Rattle.rules.specs.Numbers.{buffer_size, done, not_a_file}
use Rattle.files.specs.declared.format.Fault.{Fault}
use Rattle.files.specs.declared.format.Fault.TheVariants.{NoHeader, Crowded, Short, Overfull, Longer, Forged}

-- ---- the format

-- a 16-bit number, little-endian
abbrev pub word : ℕ → List ℕ
word n = n % 256 ∷ n / 256 ∷ []

-- a header of 12 bytes, six 16-bit numbers: the transaction count n, the data byte count s, the offset of the addresses, of the lengths and of the data, and the file length
unfoldable pub header_of : ℕ → ℕ → List ℕ
header_of n s = word n ++ (word s ++ (word 12 ++ (word (12 + n) ++ (word (12 + 2 * n) ++ word (12 + 2 * n + s)))))

-- the blocks follow in that order with no gap: addresses a, lengths b, data d
unfoldable pub file_of : List ℕ → List ℕ → List ℕ → List ℕ
file_of a b d = header_of (length a) (length d) ++ (a ++ (b ++ d))

-- lengths summed
unfoldable pub total : List ℕ → ℕ
total [] = 0
total (x ∷ l) = x + total l

-- the blocks that a file may have: at most 64 transactions, a length for each address, and as many bytes as the lengths say, at most 4,352
pub record Blocks (a b d : List ℕ) : Type 0 where
  pub few : length a ≤ 64
  pub each : length b ≡ length a
  pub sums : length d ≡ total b
  pub fits : length d ≤ buffer_size

-- ---- what a file holds

-- the transaction count, its first number
abbrev pub count_in : List ℕ → ℕ
count_in f = get_or f 0 0 + 256 * get_or f 1 0

-- the file length, its last
abbrev pub size_in : List ℕ → ℕ
size_in f = get_or f 10 0 + 256 * get_or f 11 0

-- the bytes of the longest file: 12, twice 64 and 4,352
abbrev pub largest : ℕ
largest = 4492

-- the part after the header, and in it the blocks, of as many entries as the count says
abbrev pub body_of : List ℕ → List ℕ
body_of f = drop 12 f

abbrev pub addresses_in : List ℕ → List ℕ
addresses_in f = take (count_in f) (body_of f)

abbrev pub lengths_in : List ℕ → List ℕ
lengths_in f = take (count_in f) (drop (count_in f) (body_of f))

abbrev pub data_in : List ℕ → List ℕ
data_in f = drop (2 * count_in f) (body_of f)

-- ---- which files are readable: 10 (reading) for any other file or a byte after it

-- the header is the one that its count and the summed lengths force
unfoldable pub headed : List ℕ → ℕ → ℕ → Result (Unit {0}) Fault
headed f n s = if bytes_eq (take 12 f) (header_of n s) then Ok tt else Err Forged

-- lengths that sum above 4,352 can't be loaded; the data are as many bytes as the lengths say, and no byte follows
unfoldable pub body_fault : List ℕ → ℕ → ℕ → Result (Unit {0}) Fault
body_fault f n s =
    if ltb buffer_size s then Err Overfull else
    if ltb (length f) (12 + 2 * n + s) then Err Short else
    if ltb (12 + 2 * n + s) (length f) then Err Longer else headed f n s

-- what is wrong with a file, the first that applies
unfoldable pub fault_of : List ℕ → Result (Unit {0}) Fault
fault_of f =
    if ltb (length f) 12 then Err NoHeader else
    if ltb 64 (count_in f) then Err Crowded else
    if ltb (length f) (12 + 2 * count_in f) then Err Short else body_fault f (count_in f) (total (lengths_in f))

-- and the number that it gives a read
abbrev pub fault_number : Result (Unit {0}) Fault → ℕ
fault_number (Ok t) = done
fault_number (Err x) = not_a_file

abbrev pub Readable : List ℕ → Type 0
Readable f = fault_of f ≡ Ok tt

-- ---- bytes moved

-- the bytes x from the start on, and then what stands behind them: output bytes past the file stay; entries past the count become zero, over zeros
abbrev pub over : List ℕ → List ℕ → List ℕ
over x l = x ++ drop (length x) l
