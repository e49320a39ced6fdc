-- The blocks of a file, as slices that start in its middle; and the file that is put together of a channel's.
use Prim.Native.Nat.{ℕ, ◌+◌, ◌-◌, ◌*◌, ◌≤◌}
use Rattle.std.specs.Prelude.{Result}
use mathlib.Core.List.{List, [], ◌∷◌, ◌++◌, append_assoc, append-nil}
use mathlib.Core.Path.{◌≡◌, refl, sym, ◌∙◌, ap}
use native.Mathlib.Omega.{arith}
use borrow.Author.Tests.{le-ltb}
use lib.ListN.{length, get_or, set, take, drop, replicate, length-drop, drop_of_length-le}
use lib.Seq.{length-take-le, drop-drop}
use Rattle.rules.specs.Numbers.{buffer_size}
use Rattle.channel.specs.State.{zeros}
use Rattle.files.specs.declared.format.Fault.{Fault}
use Rattle.files.specs.File.{header_of, file_of, total, count_in, body_of, body_fault, fault_of, over}
use Rattle.files.specs.Work.{loaded_sla, loaded_conf, loaded_bytes}
use Rattle.files.specs.Laws.File.{header-length}
use Rattle.files.proofs.Laws.Moves.{rest_all}

-- ---- the part after the header, and blocks of it
abbrev pub body : List ℕ → List ℕ
body f = take (length f - 12) (drop 12 f)

body_is : (f : List ℕ) → body f ≡ body_of f
body_is f = rest_all f 12

-- the first block, the second, and what follows
second_is : (f : List ℕ) (n : ℕ) → take (2 * n - n) (drop n (body f)) ≡ take n (drop n (body_of f))
second_is f n = let e : 2 * n - n ≡ n = omega arith in rw (e, body_is f)

pub first_count : (f : List ℕ) (n : ℕ) → 12 + 2 * n ≤ length f → n ≡ length (take n (body f))
first_count f n h = rw (body_is f) (sym (length-take-le n (body_of f) (let d = length-drop 12 f in omega (arith, d, h))))

pub fault_behind : (f : List ℕ) (n s : ℕ) (r : Result (Unit {0}) Fault) → 12 ≤ length f → n ≡ count_in f → n ≤ 64 → 12 + 2 * n ≤ length f
    → s ≡ total (take ((12 + 2 * n) - (12 + n)) (drop (12 + n) f)) → r ≡ body_fault f n s → r ≡ fault_of f
unfolding fault_of
fault_behind f n s r h e few long sum b =
    let k : (12 + 2 * n) - (12 + n) ≡ n = omega arith in
    let t : s ≡ total (take n (drop n (body_of f))) = sum ∙ (rw (k, drop-drop n 12 f) refl) in
    b ∙ rw (le-ltb (length f) 12 h, ← e, le-ltb 64 n few, le-ltb (length f) (12 + 2 * n) long, t)

pub sla_loaded : (f : List ℕ) (n : ℕ) (r : List ℕ) → n ≡ count_in f → r ≡ over (take n (body f)) (replicate 64 0) → r ≡ loaded_sla f
sla_loaded f n r e h = h ∙ rw (e, body_is f)

pub conf_loaded : (f : List ℕ) (n x : ℕ) (r : List ℕ) → n ≡ count_in f → count_in f ≤ 64 → x ≡ get_or f 0 0 → r ≡ over (x ∷ take (2 * n - n) (drop n (body f))) (replicate 65 0) → r ≡ loaded_conf f
conf_loaded f n x r e few p h =
    let q : x ≡ count_in f = omega (arith, few, p) in
    h ∙ rw (second_is f n, q, e)

-- the count put before the lengths
pub conf_put : (t l r : List ℕ) (x : ℕ) → length t ≡ 65 → r ≡ over l (replicate (length (take 64 (drop 1 (set t 0 x)))) 0)
    → take 1 (set t 0 x) ++ (r ++ drop 64 (drop 1 (set t 0 x))) ≡ over (x ∷ l) (replicate 65 0)
conf_put [] l r x e h = absurd (omega (arith, e))
conf_put (y ∷ k) l r x e h =
    let none : drop 64 k ≡ [] = drop_of_length-le k {i = 64} (omega (arith, e)) in
    let size : length (take 64 k) ≡ 64 = length-take-le 64 k (omega (arith, e)) in
    rw (none, h, size, append-nil (over l (replicate 64 0))) refl

pub bytes_loaded : (f m : List ℕ) (n : ℕ) (r : List ℕ) → n ≡ count_in f → length m ≡ buffer_size
    → r ≡ over (take (length (body f) - 2 * n) (drop (2 * n) (body f))) (replicate (length m) 0) → r ≡ loaded_bytes f
unfolding zeros
bytes_loaded f m n r e size h = h ∙ rw (rest_all (body f) (2 * n), body_is f, e, size)

-- ---- the file of a channel's blocks
pub lengths_count : (lens : List ℕ) (n : ℕ) → n ≤ 64 → length lens ≡ 65 → length (take ((n + 1) - 1) (drop 1 lens)) ≡ n
lengths_count lens n h e =
    let k : (n + 1) - 1 ≡ n = omega arith in
    rw k (length-take-le n (drop 1 lens) (let d = length-drop 1 lens in omega (arith, d, e, h)))

pub header_count : (h : List ℕ) (n s : ℕ) → h ≡ header_of n s → length h ≡ 12
header_count h n s e = ap length e ∙ header-length n s

pub file_put : (h a lens d o r : List ℕ) (n s : ℕ) → h ≡ header_of n s → n ≡ length a → s ≡ length d
    → r ≡ over ((h ++ a) ++ (take ((n + 1) - 1) (drop 1 lens) ++ d)) o → r ≡ over (file_of a (take n (drop 1 lens)) d) o
unfolding file_of
file_put h a lens d o r n s e p q k =
    let m : (n + 1) - 1 ≡ n = omega arith in
    let t : (h ++ a) ++ (take ((n + 1) - 1) (drop 1 lens) ++ d) ≡ header_of (length a) (length d) ++ (a ++ (take n (drop 1 lens) ++ d)) =
    rw (m, ← p, ← q, e) (append_assoc (header_of n s) a (take n (drop 1 lens) ++ d)) in
    k ∙ ap (λ (x : List ℕ). over x o) t
