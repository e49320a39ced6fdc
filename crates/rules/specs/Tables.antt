-- What the tables say: where a transaction's bytes start, which transactions are skipped, and the first that is not.
use Rattle.std.specs.Prelude.{ℕ, zero, suc, ◌+◌, ◌-◌, ◌%◌, Bool, true, false, List, get_or, set, eqb, ltb, leb, if◌then◌else◌}
use Rattle.rules.specs.declared.parts.Kind.{Kind}
use Rattle.rules.specs.Numbers.{buffer_size, done_status}
use Rattle.rules.specs.Parts.{is_fm}

-- the start of transaction v is the sum of the v lengths before it: entries 1 to v of TRANCONFIG
unfoldable pub start_of : List ℕ → ℕ → ℕ
start_of lens zero = 0
start_of lens (suc v) = start_of lens v + get_or lens (suc v) 0

-- the lengths of the first count transactions summed
abbrev pub sum_of : List ℕ → ℕ
sum_of lens = start_of lens (get_or lens 0 0)

-- they sum to at most 4,352
unfoldable pub fitting : List ℕ → Bool
fitting lens = leb (sum_of lens) buffer_size

-- a DATA access at or past that sum gets no. 5 (document 02, request Seven): a place is configured below it
unfoldable pub configured_at : List ℕ → ℕ → Bool
configured_at lens at = ltb at (sum_of lens)

-- bit 0 of a SLATABLE byte: 1 for a read
abbrev pub reads_of : ℕ → Bool
reads_of sla = eqb (sla % 2) 1

-- a read of length 0 is skipped as done; of a UFm channel a transaction whose SLATABLE bit 0 is 1, whatever its length (document 02, request Three)
unfoldable pub read_skipped : Kind → ℕ → Bool
read_skipped kind len = if is_fm kind then eqb len 0 else true

unfoldable pub skipped_of : Kind → ℕ → ℕ → Bool
skipped_of kind sla len = if reads_of sla then read_skipped kind len else false

-- so, a length being a byte, the longest read that is skipped
unfoldable pub longest_skipped : Kind → ℕ
longest_skipped kind = if is_fm kind then 0 else 255

-- the first of the next `left` transactions from i that is not skipped, or the one after them
unfoldable pub sent_from : Kind → List ℕ → List ℕ → ℕ → ℕ → ℕ
sent_from kind sla lens i zero = i
sent_from kind sla lens i (suc left) =
    if skipped_of kind (get_or sla i 0) (get_or lens (i + 1) 0) then sent_from kind sla lens (i + 1) left else i

-- the first transaction from `from` that is not skipped, or the count
abbrev pub first_sent : Kind → List ℕ → List ℕ → ℕ → ℕ → ℕ
first_sent kind sla lens from count = sent_from kind sla lens from (count - from)

-- 02h in the STATUS of the next `left` transactions from i
unfoldable pub mark_from : List ℕ → ℕ → ℕ → List ℕ
mark_from status i zero = status
mark_from status i (suc left) = mark_from (set status i done_status) (i + 1) left

-- a skipped one gets 02h when the walk passes it: each from `from` to before `to`
abbrev pub marked : List ℕ → ℕ → ℕ → List ℕ
marked status from to = mark_from status from (to - from)
