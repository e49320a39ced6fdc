-- A refusal has a number above 0, and of its own; and the number of two outcomes one after another.
use Rattle.std.specs.Prelude.{ℕ, ◌<◌, Bool, true, false, List, [], ◌∷◌, Result, Ok, Err, ◌≡◌, refl, get_or, if◌then◌else◌}
use Rattle.std.proofs.Common.{sym, ◌∙◌, ap, arith}
use Rattle.std.specs.Result.{result_and}
use Rattle.rules.specs.declared.numbers.Refusal.{Refusal}
use Rattle.rules.specs.declared.numbers.Refusal.TheVariants.{Nowhere, ReadOnly, Locked, PastTable, PastBuffer, ManyTransactions, NotAwaited, Unreadable, OutOfRange, NotAFile, NoRoom}
use Rattle.rules.specs.Numbers.{done, refusal_number, number_of}

pub refusal_positive : (e : Refusal) → done < refusal_number e
refusal_positive Nowhere = omega arith
refusal_positive ReadOnly = omega arith
refusal_positive Locked = omega arith
refusal_positive PastTable = omega arith
refusal_positive PastBuffer = omega arith
refusal_positive ManyTransactions = omega arith
refusal_positive NotAwaited = omega arith
refusal_positive Unreadable = omega arith
refusal_positive OutOfRange = omega arith
refusal_positive NotAFile = omega arith
refusal_positive NoRoom = omega arith

-- the number is 0 exactly where nothing is refused
pub ok_at_done : (r : Result (Unit {0}) Refusal) → number_of r ≡ done → r ≡ Ok tt
ok_at_done (Ok t) h = refl
ok_at_done (Err e) h = absurd (let p = refusal_positive e in omega (arith, p, h))

pub done_at_ok : (r : Result (Unit {0}) Refusal) (t : Unit {0}) → r ≡ Ok t → number_of r ≡ done
done_at_ok r t h = rw h

-- the outcomes by their numbers
outcomes : List (Result (Unit {0}) Refusal)
outcomes =
    Ok tt ∷ Err Nowhere ∷ Err ReadOnly ∷ Err Locked ∷ Err PastTable ∷ Err PastBuffer ∷ Err ManyTransactions ∷ Err NotAwaited
    ∷ Err Unreadable ∷ Err OutOfRange ∷ Err NotAFile ∷ Err NoRoom ∷ []

by_number : (r : Result (Unit {0}) Refusal) → get_or outcomes (number_of r) (Ok tt) ≡ r
unfolding outcomes
by_number (Ok t) = refl
by_number (Err Nowhere) = refl
by_number (Err ReadOnly) = refl
by_number (Err Locked) = refl
by_number (Err PastTable) = refl
by_number (Err PastBuffer) = refl
by_number (Err ManyTransactions) = refl
by_number (Err NotAwaited) = refl
by_number (Err Unreadable) = refl
by_number (Err OutOfRange) = refl
by_number (Err NotAFile) = refl
by_number (Err NoRoom) = refl

-- two outcomes with one number are the same
pub number_tells : (r s : Result (Unit {0}) Refusal) → number_of r ≡ number_of s → r ≡ s
number_tells r s h = sym (by_number r) ∙ ap (λ (n : ℕ). get_or outcomes n (Ok tt)) h ∙ by_number s

-- ---- one outcome after another: where the first refuses with number k it is told, else the second decides
pub number_of_and : (r s : Result (Unit {0}) Refusal) (b : Bool) (k n : ℕ) → done < k → number_of r ≡ (if b then k else done) → number_of s ≡ n → number_of (result_and r s) ≡ (if b then k else n)
number_of_and (Ok t) s true k n h p q = absurd (omega (arith, h, p))
number_of_and (Ok t) s false k n h p q = q
number_of_and (Err e) s true k n h p q = p
number_of_and (Err e) s false k n h p q = absurd (let z = refusal_positive e in omega (arith, z, p))

-- ---- a test that refuses with number k, before what else may refuse
module _ (r : Result (Unit {0}) Refusal) (b : Bool) (k n : ℕ) (says : number_of r ≡ (if b then k else done)) where
  pub test_refuses : (e : Refusal) → r ≡ Err e → refusal_number e ≡ (if b then k else n)
  test_refuses e p = go b (rw p at says)
    where
      go : (a : Bool) → refusal_number e ≡ (if a then k else done) → refusal_number e ≡ (if a then k else n)
      go true q = q
      go false q = absurd (let h = refusal_positive e in omega (arith, h, q))

  pub test_passes : (t : Unit {0}) (m : ℕ) → done < k → r ≡ Ok t → m ≡ n → m ≡ (if b then k else n)
  test_passes t m h p e = go b (rw p at says)
    where
      go : (a : Bool) → done ≡ (if a then k else done) → m ≡ (if a then k else n)
      go true q = absurd (omega (arith, h, q))
      go false q = e
