-- Laws of tests: which case of a definition by `if` holds, and what an `if` that is known says. `search cases` closes a function that decides on numbers and flags.
use Rattle.std.specs.Prelude.{Bool, true, false, ◌≡◌, refl, ℕ, suc, ◌+◌, ◌-◌, ◌<◌, ◌≤◌, if◌then◌else◌}
use Rattle.std.proofs.Common.{arith, lt-ltb, le-ltb, le-leb, eq-eqb, ne_eqb}
use Rattle.std.proofs.lemmas.Bool.{lt-leb}

pub flag_true : (b b' : Bool) → b' ≡ b → b' ≡ true → b ≡ true
flag_true b b' p q = cc

pub flag_false : (b b' : Bool) → b' ≡ b → b' ≡ false → b ≡ false
flag_false b b' p q = cc

pub pick_true : {A : Type 0} (b : Bool) (r x y : A) → b ≡ true → r ≡ x → r ≡ (if b then x else y)
pick_true b r x y e p = rw e p

pub pick-false : {A : Type 0} (b : Bool) (r x y : A) → b ≡ false → r ≡ y → r ≡ (if b then x else y)
pick-false b r x y e p = rw e p

pub ruleset cases = (pick_true, pick-false, lt-ltb, le-ltb, le-leb, lt-leb, eq-eqb, ne_eqb, flag_true, flag_false)

-- what holds of each value under its test holds of the one chosen
pub pick_holds : {A : Type 0} (P : A → Type 0) (b : Bool) {x y : A} → (b ≡ true → P x) → (b ≡ false → P y) → P (if b then x else y)
pick_holds P true f g = f refl
pick_holds P false f g = g refl

pub false_not_true : false ≡ true → ◌≡◌ {A = ℕ} 0 1
false_not_true e = cc

-- ---- an `if` that is true
pub past : (b x : Bool) → (if b then false else x) ≡ true → (b ≡ false) × (x ≡ true)
past true x e = absurd (omega (arith, false_not_true e))
past false x e = (refl, e)

pub both : (b x : Bool) → (if b then x else false) ≡ true → (b ≡ true) × (x ≡ true)
both true x e = (refl, e)
both false x e = absurd (omega (arith, false_not_true e))

pub on : (b x : Bool) → b ≡ false → x ≡ true → (if b then false else x) ≡ true
on b x e h = rw e h

pub with : (b x : Bool) → b ≡ true → x ≡ true → (if b then x else false) ≡ true
with b x e h = rw e h

-- ---- a number that refuses is 0
pub not_refused : (b : Bool) (k n : ℕ) → 0 < k → (if b then k else n) ≡ 0 → (b ≡ false) × (n ≡ 0)
not_refused true k n h e = absurd (omega arith)
not_refused false k n h e = (refl, e)

pub accepted : (b : Bool) (x k : ℕ) → 0 < k → (if b then x else k) ≡ 0 → (b ≡ true) × (x ≡ 0)
accepted true x k h e = (refl, e)
accepted false x k h e = absurd (omega arith)

-- ---- counting up: what is left below n, at i
pub left-more : (n i : ℕ) → i < n → n - i ≡ suc (n - (i + 1))
left-more n i h = omega arith

pub left_none : (n i : ℕ) → n ≤ i → n - i ≡ 0
left_none n i h = omega arith
