-- A line of a write is read as that write, and texts of writes put one after the other.
use Rattle.std.specs.Prelude.{ℕ, zero, suc, ◌+◌, ◌*◌, ◌-◌, ◌/◌, ◌%◌, ◌<◌, ◌≤◌, Bool, List, [], ◌∷◌, ◌++◌, ◌≡◌, length, get_or, take, drop, Option, Some}
use Rattle.std.proofs.Math.Bool.{true, false}
use Rattle.std.proofs.Common.{append_assoc, sym, ◌∙◌, ap, add-one, arith, rules, length-drop, length-take, drop_of_length-le, drop-cons, drop-drop, take_all}
use Rattle.std.proofs.Math.Path.{refl}
use borrow.Author.Tests.{lt-ltb, le-ltb, le-leb, ne_eqb, ltb-true, ltb-false}
use Rattle.std.proofs.Math.Dec.{eqb, ltb}
use Rattle.std.proofs.lemmas.List.Edits.{sets}
use Rattle.laws.specs.Lists.{All}
use Rattle.laws.specs.Sets.{sets_append}
use Rattle.rules.specs.Numbers.{buffer_size}
use Rattle.steps.specs.declared.map.Step.{Step}
use Rattle.steps.specs.declared.map.Step.TheVariants.{Write}
use Rattle.mixes.specs.Mix.{ends}
use Rattle.independent.specs.Statement.{State, the_part}
use Rattle.letters.specs.Letters.{digit_of}
use Rattle.answers.specs.Answer.{Put}
use Rattle.script.specs.Grammar.{is_hex, hex_of, suiting, in_form, line_of}
use Rattle.runner.specs.Run.{the_script, after_line}
use Rattle.runner.specs.Text.{ended_lines, rest_of, lines_of}
use Rattle.files.specs.File.{count_in, addresses_in, lengths_in, data_in, Readable}
use Rattle.files.specs.Laws.File.{readable_count, readable_fits, readable_long}
use Rattle.files.specs.Typed.{Typed, register_at, each_to, typing}
use Rattle.seq.specs.Typing.{write, Byte, Small, line_for, script_of, steps_for, blocks_typed, typing_all}

-- ---- hex digits, written and read
-- below 16
module _ (d : ℕ) (h : d < 16) where
  digit_hex : is_hex (digit_of d) ≡ true
  unfolding is_hex digit_of
  digit_hex = by_ten (ltb d 10) refl
    where
      by_ten : (t : Bool) → ltb d 10 ≡ t → is_hex (digit_of d) ≡ true
      by_ten true e = let i = ltb-true d 10 e in rw (e, lt-ltb (48 + d) 58 (omega arith)) (le-leb 48 (48 + d) (omega arith))
      by_ten false e =
          let i = ltb-false d 10 e in
          rw (e, le-ltb (55 + d) 58 (omega arith), lt-ltb (55 + d) 71 (omega arith)) (le-leb 65 (55 + d) (omega arith))

  digit_read : hex_of (digit_of d) ≡ d
  unfolding hex_of digit_of
  digit_read = by_ten (ltb d 10) refl
    where
      by_ten : (t : Bool) → ltb d 10 ≡ t → hex_of (digit_of d) ≡ d
      by_ten true e = let i = ltb-true d 10 e in rw (digit_hex, e, lt-ltb (48 + d) 58 (omega arith)) (omega arith)
      by_ten false e = let i = ltb-false d 10 e in rw (digit_hex, e, le-ltb (55 + d) 58 (omega arith)) (omega arith)

  digit_no_lf : eqb (digit_of d) 10 ≡ false
  unfolding digit_of
  digit_no_lf = by_ten (ltb d 10) refl
    where
      by_ten : (t : Bool) → ltb d 10 ≡ t → eqb (digit_of d) 10 ≡ false
      by_ten true e = rw e (ne_eqb (48 + d) 10 (λ z. omega arith))
      by_ten false e = rw e (ne_eqb (55 + d) 10 (λ z. omega arith))

-- the two digits of a byte
byte_read : (x : ℕ) → x < 256 → 16 * hex_of (digit_of (x / 16)) + hex_of (digit_of (x % 16)) ≡ x
byte_read x h = rw (digit_read (x / 16) (omega arith), digit_read (x % 16) (omega arith)) (omega arith)

pub read_write : (w : Typed) → Small w → line_of (line_for w) ≡ Some (Write w.at w.value)
unfolding line_of in_form suiting
read_write w (h, k) =
    rw (
      digit_hex (w.at / 16) (omega arith),
      digit_hex (w.at % 16) (omega arith),
      digit_hex (w.value / 16) (omega arith),
      digit_hex (w.value % 16) (omega arith),
      byte_read w.at h,
      byte_read w.value k,
    )

-- ---- a script of writes: its lines are the writes'
script_next : (w : Typed) (l : List ℕ) → Small w → lines_of (line_for w ++ (10 ∷ l)) ≡ line_for w ∷ lines_of l
unfolding ended_lines rest_of
script_next w l (h, k) =
    rw (
      digit_no_lf (w.at / 16) (omega arith),
      digit_no_lf (w.at % 16) (omega arith),
      digit_no_lf (w.value / 16) (omega arith),
      digit_no_lf (w.value % 16) (omega arith),
    )

pub script_does : (s : State) (l : List Typed) → All Small l → ends the_script s (lines_of (script_of l)) ≡ ends the_part s (steps_for l)
unfolding script_of ended_lines rest_of
script_does s [] h = refl
script_does s (w ∷ l) (h, k) =
    ap (ends the_script s) (script_next w (script_of l) h)
    ∙ ap (λ (x : Option Step). ends the_script (after_line s x) (lines_of (script_of l))) (read_write w h)
    ∙ script_does (after_line s (Some (Write w.at w.value))) l k

-- ---- texts of writes, put one after the other
pub script_append : (k l : List Typed) → script_of (k ++ l) ≡ script_of k ++ script_of l
unfolding script_of
script_append [] l = refl
script_append (w ∷ k) l = ap (λ (t : List ℕ). line_for w ++ (10 ∷ t)) (script_append k l)

pub each_more : (l m n bytes : List ℕ) (at next i a x r : ℕ) → sets l at (script_of (each_to a bytes)) ≡ sets m next (script_of (each_to a (drop i bytes)))
    → i < length bytes → x ≡ get_or bytes i 0 → Put m next (script_of (write a x ∷ [])) r n
    → sets l at (script_of (each_to a bytes)) ≡ sets n r (script_of (each_to a (drop (i + 1) bytes)))
unfolding script_of
each_more l m n bytes at next i a x r e h v put =
    let rest = script_of (each_to a (drop (i + 1) bytes)) in
    let cut : drop i bytes ≡ x ∷ drop (i + 1) bytes = drop-cons bytes i 0 h ∙ rw (v, add-one i) in
    e
    ∙ ap (λ (k : List ℕ). sets m next (script_of (each_to a k))) cut
    ∙ sets_append m (script_of (write a x ∷ [])) rest next
    ∙ rw (put.bytes, put.place)

pub each_all : (l m bytes : List ℕ) (at next i a : ℕ) → sets l at (script_of (each_to a bytes)) ≡ sets m next (script_of (each_to a (drop i bytes)))
    → i ≤ length bytes → length bytes ≤ i → next ≡ at + 8 * i → Put l at (script_of (each_to a bytes)) next m
unfolding script_of
each_all l m bytes at next i a e k h n = record { place = let z = length_each a bytes in omega arith; bytes = sym (rw (drop_of_length-le bytes h) at e) }
  where
    length_each : (a : ℕ) (k : List ℕ) → length (script_of (each_to a k)) ≡ 8 * length k
    length_each a [] = refl
    length_each a (x ∷ k) = let z = length_each a k in omega (arith, z)

pub ruleset eaches = (each_more, each_all, rules)

-- ---- a readable file
-- where its blocks stand: of a readable file the second byte is 0, so the first is the count
module _ (f : List ℕ) (r : Readable f) (n : ℕ) (e : n ≡ get_or f 0 0) where
  pub count_byte : n ≡ count_in f
  count_byte = let few = readable_count f r in omega arith

  pub lengths_there : take ((12 + n + n) - (12 + n)) (drop (12 + n) f) ≡ lengths_in f
  lengths_there =
      let w : (12 + n + n) - (12 + n) ≡ n = omega arith in
      rw (w, ← drop-drop n 12 f, count_byte)

  pub addresses_there : take ((12 + n) - 12) (drop 12 f) ≡ addresses_in f
  addresses_there = let w : (12 + n) - 12 ≡ n = omega arith in rw (w, count_byte)

  pub all_there : 12 + n + n ≤ length f
  all_there = let long = readable_long f r in let z = count_byte in omega arith

  pub bytes_there : take (length f - (12 + n + n)) (drop (12 + n + n) f) ≡ data_in f
  bytes_there =
      let w : 12 + n + n ≡ 12 + 2 * n = omega arith in
      let size = length-drop (12 + n + n) f in
      take_all (length f - (12 + n + n)) (drop (12 + n + n) f) (omega arith) ∙ rw (w, ← drop-drop (2 * n) 12 f, count_byte)

  -- and that they are no longer than a channel's
  pub addresses_few : length (take ((12 + n) - 12) (drop 12 f)) ≤ 64
  addresses_few = let z = length-take ((12 + n) - 12) (drop 12 f) in let few = readable_count f r in let i = count_byte in omega arith

  pub lengths_few : length (take ((12 + n + n) - (12 + n)) (drop (12 + n) f)) ≤ 64
  lengths_few = let z = length-take ((12 + n + n) - (12 + n)) (drop (12 + n) f) in let few = readable_count f r in let i = count_byte in omega arith

  pub bytes_few : length (take (length f - (12 + n + n)) (drop (12 + n + n) f)) ≤ buffer_size
  bytes_few =
      let z = length-take (length f - (12 + n + n)) (drop (12 + n + n) f) in
      let long = readable_long f r in
      let fits = readable_fits f r in
      let i = count_byte in
      omega arith

-- ---- the whole script, piece by piece
script_first : (w : Typed) (l : List Typed) → script_of (w ∷ l) ≡ script_of (w ∷ []) ++ script_of l
unfolding script_of
script_first w l = refl

pub blocks_text : (b n : ℕ) (a l d : List ℕ)
    → script_of (blocks_typed b n a l d)
    ≡ script_of (write (b + 6) 0 ∷ [])
    ++ (script_of (write b 2 ∷ [])
    ++ (script_of (write (b + 4) n ∷ [])
    ++ (script_of (each_to (b + 4) l)
    ++ (script_of (each_to (b + 3) a)
    ++ (script_of (each_to (b + 5) d) ++ script_of (write b 2 ∷ []))))))
blocks_text b n a l d =
    script_first (write (b + 6) 0) _
    ∙ ap (λ (t : List ℕ). script_of (write (b + 6) 0 ∷ []) ++ t) (script_first (write b 2) _
    ∙ ap (λ (t : List ℕ). script_of (write b 2 ∷ []) ++ t) (script_first (write (b + 4) n) _
    ∙ ap (λ (t : List ℕ). script_of (write (b + 4) n ∷ []) ++ t) (simp script_append)))

pub typed_blocks : (k : ℕ) (f : List ℕ) → typing_all k f ≡ blocks_typed (192 + 16 * k) (count_in f) (addresses_in f) (lengths_in f) (data_in f)
typed_blocks k f =
    let none : register_at k 0 ≡ 192 + 16 * k = omega arith in
    let lengths = each_to (register_at k 4) (lengths_in f) in
    let addresses = each_to (register_at k 3) (addresses_in f) in
    let bytes = each_to (register_at k 5) (data_in f) in
    rw none (ap (λ (t : List Typed). write (register_at k 6) 0 ∷ write (192 + 16 * k) 2 ∷ write (register_at k 4) (count_in f) ∷ t)
    (append_assoc lengths (addresses ++ bytes) _ ∙ ap (λ (t : List Typed). lengths ++ t) (append_assoc addresses bytes _)))

-- of a readable file whose first byte is n, as its blocks stand there
pub typed_there : (k : ℕ) (f : List ℕ) → Readable f → (n : ℕ) → n ≡ get_or f 0 0
    → script_of (typing_all k f)
    ≡ script_of (blocks_typed (192 + 16 * k) (get_or f 0 0) (take ((12 + n) - 12) (drop 12 f)) (take ((12 + n + n) - (12 + n)) (drop (12 + n) f)) (take (length f - (12 + n + n)) (drop (12 + n + n) f)))
typed_there k f r n e =
    let b = 192 + 16 * k in
    let a = take ((12 + n) - 12) (drop 12 f) in
    let l = take ((12 + n + n) - (12 + n)) (drop (12 + n) f) in
    let d = take (length f - (12 + n + n)) (drop (12 + n + n) f) in
    ap script_of (typed_blocks k f
    ∙ sym (ap (λ (x : ℕ). blocks_typed b x a l d) (sym e ∙ count_byte f r n e)
    ∙ ap (λ (x : List ℕ). blocks_typed b (count_in f) x l d) (addresses_there f r n e)
    ∙ ap (λ (x : List ℕ). blocks_typed b (count_in f) (addresses_in f) x d) (lengths_there f r n e)
    ∙ ap (λ (x : List ℕ). blocks_typed b (count_in f) (addresses_in f) (lengths_in f) x) (bytes_there f r n e)))

-- ---- the writes of a file of bytes are of bytes
module _ {A : Type 0} (P : A → Type 0) where
  all_append : (k l : List A) → All P k → All P l → All P (k ++ l)
  all_append [] l h i = i
  all_append (x ∷ k) l (h, g) i = (h, all_append k l g i)

  all_take : (n : ℕ) (l : List A) → All P l → All P (take n l)
  all_take zero l h = tt
  all_take (suc n) [] h = tt
  all_take (suc n) (x ∷ l) (h, g) = (h, all_take n l g)

  all_drop : (n : ℕ) (l : List A) → All P l → All P (drop n l)
  all_drop zero l h = h
  all_drop (suc n) [] h = tt
  all_drop (suc n) (x ∷ l) (h, g) = all_drop n l g

small_each : (a : ℕ) (l : List ℕ) → a < 256 → All Byte l → All Small (each_to a l)
small_each a [] h i = tt
small_each a (x ∷ l) h (i, g) = ((h, i), small_each a l h g)

pub typing_small : (k : ℕ) (f : List ℕ) → k < 3 → Readable f → All Byte f → All Small (typing_all k f)
typing_small k f h e i =
    let few = readable_count f e in
    let body = all_drop Byte 12 f i in
    let n = count_in f in
    let lengths = small_each (register_at k 4) (lengths_in f) (omega arith) (all_take Byte n _ (all_drop Byte n _ body)) in
    let addresses = small_each (register_at k 3) (addresses_in f) (omega arith) (all_take Byte n _ body) in
    let bytes = small_each (register_at k 5) (data_in f) (omega arith) (all_drop Byte (2 * n) _ body) in
    let more = all_append Small (each_to (register_at k 3) (addresses_in f)) (each_to (register_at k 5) (data_in f)) addresses bytes in
    let blocks : All Small (typing k f) = all_append Small (each_to (register_at k 4) (n ∷ lengths_in f)) _ ((omega arith, omega arith), lengths) more in
    ((omega arith, omega arith), ((omega arith, omega arith), all_append Small (typing k f) (write (register_at k 0) 2 ∷ []) blocks ((omega arith, omega arith), tt)))
