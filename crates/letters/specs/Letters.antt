-- Document 01, 'Actions' and 'The script program': the letters of an action.
use Rattle.std.specs.Prelude.{ℕ, ◌+◌, ◌/◌, ◌%◌, List, [], ◌∷◌, ◌++◌, ltb, length, drop, if◌then◌else◌}
use Rattle.letters.specs.declared.Text.{Text}
use Rattle.rules.specs.declared.wires.Action.{Action}
use Rattle.rules.specs.declared.wires.Action.TheVariants.{Nothing, S, R, D, C, A, Np, Nr, P}

-- upper-case hex: the digits 0 to 9 stand at 48, A to F at 65, which is 55 + 10
unfoldable pub digit_of : ℕ → ℕ
digit_of d = if ltb d 10 then 48 + d else 55 + d

-- a byte, the high digit first
abbrev pub hex_digits : ℕ → List ℕ
hex_digits b = digit_of (b / 16) ∷ digit_of (b % 16) ∷ []

-- some letters, four at most, and zeros behind them
abbrev pub text_with : List ℕ → Text
text_with l = record { bytes = l ++ drop (length l) (0 ∷ 0 ∷ 0 ∷ 0 ∷ []); len = length l }

-- actions without a byte: C, A, P
abbrev pub one_letter : ℕ → Text
one_letter x = record { bytes = x ∷ 0 ∷ 0 ∷ 0 ∷ []; len = 1 }

-- and NP
abbrev pub two_letters : ℕ → ℕ → Text
two_letters x y = record { bytes = x ∷ y ∷ 0 ∷ 0 ∷ []; len = 2 }

-- actions with a byte, printed without spaces: S aa, R aa, D bb
abbrev pub one_and_byte : ℕ → ℕ → Text
one_and_byte x b = record { bytes = x ∷ digit_of (b / 16) ∷ digit_of (b % 16) ∷ 0 ∷ []; len = 3 }

-- and NR aa
abbrev pub two_and_byte : ℕ → ℕ → ℕ → Text
two_and_byte x y b = record { bytes = x ∷ y ∷ digit_of (b / 16) ∷ digit_of (b % 16) ∷ []; len = 4 }

-- Actions: S aa, R aa (repeated START), D bb, C (clock the first read byte), A (acknowledge, clock the next), NP (not acknowledge, STOP), NR aa, P.
-- None is printed `-`. The letters: - 45, A 65, C 67, D 68, N 78, P 80, R 82, S 83
abbrev pub text_of : Action → Text
text_of Nothing = one_letter 45
text_of (S sla) = one_and_byte 83 sla
text_of (R sla) = one_and_byte 82 sla
text_of (D b) = one_and_byte 68 b
text_of C = one_letter 67
text_of A = one_letter 65
text_of Np = two_letters 78 80
text_of (Nr sla) = two_and_byte 78 82 sla
text_of P = one_letter 80
