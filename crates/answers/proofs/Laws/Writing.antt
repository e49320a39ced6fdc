-- Texts put one after the other.
use mathlib.Core.Bool.{Bool, true, false, not}
use mathlib.Core.List.{List, [], ◌∷◌, ◌++◌, append_assoc}
use mathlib.Core.Path.{◌≡◌, refl, sym, ◌∙◌, ap}
use Prim.Native.Nat.{ℕ, zero, suc, ◌+◌, ◌-◌, ◌*◌, ◌/◌, ◌%◌, ◌^◌, ◌<◌, ◌≤◌}
use native.Mathlib.Nat.{pow-suc}
use native.Mathlib.Omega.{arith}
use borrow.Author.Rules.{rules}
use borrow.Rule.Slice.PartMut.{put_mid}
use Rattle.std.proofs.lemmas.List.Edits.{sets-eq}
use Rattle.std.specs.Fmt.{decimal}
use Rattle.std.proofs.lemmas.Fmt.{decimal_by_steps}
use lib.ListN.{length, length-append}
use lib.Seq.{drop-drop}
use borrow.Author.Tests.{lt-ltb, le-ltb}
use Rattle.laws.specs.Sets.{sets_append}
use Rattle.laws.specs.Cases.{flag_true, flag_false, false_not_true}
use Rattle.rules.specs.declared.wires.Action.{Action}
use Rattle.answers.specs.Answer.{Put, text_if, only_if, digits_of, busy_of, or_of, action_of, by_commas}

-- nothing is put
put_none : (l : List ℕ) (at : ℕ) → Put l at [] at l
put_none l at = record { place = omega arith; bytes = refl }

-- a text that a test asks for
pub put-yes : {l m t : List ℕ} {at r : ℕ} (b : Bool) → Put l at t r m → b ≡ true → Put l at (text_if b t) r m
unfolding text_if
put-yes b p e = rw e p

pub put_no : (l t : List ℕ) (at : ℕ) (b : Bool) → b ≡ false → Put l at (text_if b t) at l
unfolding text_if
put_no l t at b e = rw e (put_none l at)

-- a text copied into its part of the output
pub put_part : (l t m : List ℕ) (at : ℕ) → at + length t ≤ length l → m ≡ t → Put l at t (at + length t) (put_mid at (at + length t - at) l m)
put_part l t m at h e =
    let k : at + length t - at ≡ length t = omega arith in
    record { place = refl; bytes = rw (k, e, drop-drop (length t) at, ← append_assoc) (sym (sets-eq t l at h)) }

-- one text, and another after it
pub put_then : {l m n s t : List ℕ} {at i j : ℕ} → Put l at s i m → Put m i t j n → Put l at (s ++ t) j n
put_then {l} {m} {n} {s} {t} {at} {i} {j} p q =
    record {
      place = rw (length-append s t) (omega (arith, p.place, q.place));
      bytes = q.bytes ∙ rw (p.bytes, p.place) (sym (sets_append l s t at));
    }

pub ruleset puts = (put-yes, put_no, flag_true, flag_false, rules)

-- ---- decimal digits
-- where m + 1 digits are enough, one more changes nothing
digits_enough : (m x : ℕ) → x < 10 ^ suc m → digits_of (suc m) x ≡ digits_of (suc (suc m)) x
unfolding digits_of
digits_enough zero x h = rw (lt-ltb x 10 h)
digits_enough (suc m) x h =
    let h' : x < 10 ^ suc m * 10 = rw (pow-suc 10 (suc m)) at h in
    rw (digits_enough m (x / 10) (omega arith))

-- the last digit stands behind those of a tenth
digits_last : (x : ℕ) → 10 ≤ x → x < 18446744073709551616 → digits_of 20 x ≡ digits_of 20 (x / 10) ++ ((48 + x % 10) ∷ [])
unfolding digits_of
digits_last x h k =
    let e : digits_of 19 (x / 10) ≡ digits_of 20 (x / 10) = digits_enough 18 (x / 10) (omega arith) in
    rw (← e, le-ltb x 10 h)

digit_alone : (x : ℕ) → x < 10 → digits_of 20 x ≡ (48 + x) ∷ []
unfolding digits_of
digit_alone x h = let e : x % 10 ≡ x = omega arith in rw (lt-ltb x 10 h, e)

-- they are those that std prints
pub decimal_is : (x : ℕ) → x < 18446744073709551616 → digits_of 20 x ≡ decimal x
decimal_is x h = decimal_by_steps (λ n ds. n < 18446744073709551616 → digits_of 20 n ≡ ds) (λ n one k. digit_alone n one) more x h h
  where
    more : (n : ℕ) (ds : List ℕ) → 10 ≤ n → (n / 10 < 18446744073709551616 → digits_of 20 (n / 10) ≡ ds) → n < 18446744073709551616
        → digits_of 20 n ≡ ds ++ ((48 + n % 10) ∷ [])
    more n ds e f k = digits_last n e k ∙ rw (f (omega (arith, k)))

-- ---- no action
or_none : (a b : Bool) → or_of a b ≡ false → (a ≡ false) × (b ≡ false)
or_none true b e = absurd (omega (arith, false_not_true (sym e)))
or_none false b e = (refl, e)

pub or_yes : (r a b : Bool) → a ≡ true → r ≡ true → r ≡ or_of a b
or_yes r a b e f = f ∙ rw e

pub or_no : (r a b : Bool) → a ≡ false → r ≡ b → r ≡ or_of a b
or_no r a b e f = f ∙ rw e

-- the actions of the channels that act, the first without a comma
pub put_three : {l m n o : List ℕ} {at i j r : ℕ} (a b c : Action) (one two : Bool) → one ≡ busy_of a → two ≡ or_of (busy_of a) (busy_of b) → or_of two (busy_of c) ≡ true
    → Put l at (action_of false 0 a) i m → Put m i (action_of one 1 b) j n → Put n j (action_of two 2 c) r o → Put l at (by_commas a b c) r o
put_three {l} {m} {n} {o} {at} {i} {j} {r} a b c one two e f g p q w =
    let second : Put m i (action_of (busy_of a) 1 b) j n = rw (← e) q in
    let third : Put n j (action_of (or_of (busy_of a) (busy_of b)) 2 c) r o = rw (← f) w in
    let dash : Put o r (only_if (not (or_of (or_of (busy_of a) (busy_of b)) (busy_of c))) 45) r o = put_no _ _ _ _ (ap not (rw f at g)) in
    put_then p (put_then second (put_then third dash))

pub put_dash : {l m : List ℕ} {at r : ℕ} (a b c : Action) → Put l at (45 ∷ []) r m → or_of (or_of (busy_of a) (busy_of b)) (busy_of c) ≡ false → Put l at (by_commas a b c) r m
unfolding action_of text_if
put_dash a b c p e =
    let two = or_none (or_of (busy_of a) (busy_of b)) (busy_of c) e in
    let one = or_none (busy_of a) (busy_of b) two.0 in
    rw (one.0, one.1, two.1) p
