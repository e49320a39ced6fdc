-- Document 01, 'How tight the promises are': no second outcome satisfies the same promise. The files beside this one say it of each public function,
-- by its `ensures` clause, letter by letter: what is lent as `mem` is written for its value at entry, and `mem'` for that at exit.
use Rattle.std.specs.Prelude.{ℕ, Result, ◌≡◌}
use Rattle.std.proofs.Common.{◌∙◌, sym}
use Rattle.rules.specs.declared.numbers.Refusal.{Refusal}
use Rattle.rules.specs.Numbers.{number_of}
use Rattle.rules.proofs.Laws.Numbers.{number_tells}

-- the promise P of an outcome in A is met once: two outcomes that satisfy it are equal
abbrev pub Once : (A : Type 0) → (A → Type 0) → Type 0
Once A P = (r r' : A) → P r → P r' → r ≡ r'

-- THE LEMMA: a promise that says what its outcome equals is met by no second outcome
pub no_second : {A : Type 0} {P : A → Type 0} {x : A} → ((r : A) → P r → r ≡ x) → Once A P
no_second says r r' p p' = says r p ∙ sym (says r' p')

-- an outcome of two parts, what is returned and the bytes that are left
pub both : {A B : Type 0} {o : A × B} {x : A} {y : B} → o.0 ≡ x → o.1 ≡ y → o ≡ (x, y)
both p q = λ i. (p i, q i)

-- of three: what is returned, and two that were lent
pub three : {A B C : Type 0} {o : A × B × C} {x : A} {y : B} {z : C} → o.0 ≡ x → o.1 ≡ y → o.2 ≡ z → o ≡ (x, y, z)
three p q r = λ i. (p i, q i, r i)

-- an outcome that may refuse has a number of its own
pub no_second_number : {n : ℕ} → Once (Result (Unit {0}) Refusal) (λ r. number_of r ≡ n)
no_second_number r r' p p' = number_tells r r' (p ∙ sym p')
