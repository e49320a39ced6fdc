-- Document 01, 'The script program': what is printed, byte by byte.
use Rattle.std.specs.Prelude.{ℕ, zero, suc, ◌+◌, ◌/◌, ◌%◌, Bool, true, false, not, List, [], ◌∷◌, ◌++◌, ◌≡◌, ltb, leb, length, get_or, take, if◌then◌else◌}
use Rattle.std.proofs.lemmas.List.Edits.{sets}
use Rattle.laws.specs.Ascii.{ascii}
use Rattle.rules.specs.Numbers.{unreadable}
use Rattle.letters.specs.Letters.{digit_of, text_of}
use Rattle.rules.specs.declared.wires.Action.{Action}
use Rattle.rules.specs.declared.wires.Action.TheVariants.{Nothing, S, R, D, C, A, Np, Nr, P}
use Rattle.steps.specs.declared.answer.PartAnswer.{PartAnswer}
use Rattle.steps.specs.Answer.{quiet}

-- a text is put at a place: `r` is the place after it, and the bytes `m` are those before, `l`, with the text from that place on
pub record Put (l : List ℕ) (at : ℕ) (text : List ℕ) (r : ℕ) (m : List ℕ) : Type 0 where
  pub place : r ≡ at + length text
  pub bytes : m ≡ sets l at text

-- the decimal digits of x, the fewest, where n are enough; 0 stands at 48
unfoldable pub digits_of : ℕ → ℕ → List ℕ
digits_of zero x = []
digits_of (suc n) x = (if ltb x 10 then [] else digits_of n (x / 10)) ++ ((48 + x % 10) ∷ [])

-- step and answer numbers are decimal; the largest step number, 2^64 - 1, has 20 digits
abbrev pub decimal_of : ℕ → List ℕ
decimal_of x = digits_of 20 x

-- INT: 1 pulled
unfoldable pub level_of : Bool → ℕ
level_of int = if int then 49 else 48

-- value and INT, and the blanks round them
abbrev pub middle_of : ℕ → Bool → List ℕ
middle_of value int = 32 ∷ digit_of (value / 16) ∷ digit_of (value % 16) ∷ 32 ∷ level_of int ∷ 32 ∷ []

-- a channel acts
abbrev pub busy_of : Action → Bool
busy_of Nothing = false
busy_of (S sla) = true
busy_of (R sla) = true
busy_of (D b) = true
busy_of C = true
busy_of A = true
busy_of Np = true
busy_of (Nr sla) = true
busy_of P = true

-- a text where a test holds, else nothing
unfoldable pub text_if : Bool → List ℕ → List ℕ
text_if b text = if b then text else []

-- one byte where a test holds
abbrev pub only_if : Bool → ℕ → List ℕ
only_if b x = text_if b (x ∷ [])

-- an action without spaces
abbrev pub letters : Action → List ℕ
letters a = take (text_of a).len (text_of a).bytes

-- channel, colon (58), action without spaces; a comma (44) before it if there is an action of a lower channel
abbrev pub entry_of : Bool → ℕ → Action → List ℕ
entry_of later c a = only_if later 44 ++ (((48 + c) ∷ 58 ∷ []) ++ letters a)

-- a channel that does nothing is left out
unfoldable pub action_of : Bool → ℕ → Action → List ℕ
action_of later c a = text_if (busy_of a) (entry_of later c a)

-- the action of channel i
abbrev pub action_at : List Action → ℕ → Action
action_at l i = get_or l i Nothing

-- one or the other
abbrev pub or_of : Bool → Bool → Bool
or_of a b = if a then a else b

-- the actions of channels 0, 1 and 2, joined by commas, lowest channel first, or `-` (45)
abbrev pub by_commas : Action → Action → Action → List ℕ
by_commas a b c =
    action_of false 0 a
    ++ (action_of (busy_of a) 1 b
    ++ (action_of (or_of (busy_of a) (busy_of b)) 2 c
    ++ only_if (not (or_of (or_of (busy_of a) (busy_of b)) (busy_of c))) 45))

unfoldable pub actions_of : List Action → List ℕ
actions_of l = by_commas (action_at l 0) (action_at l 1) (action_at l 2)

-- step number, answer number, value, INT, actions, and LF
unfoldable pub answer_line : ℕ → PartAnswer → Bool → List ℕ
answer_line step reply int =
    decimal_of step
    ++ (ascii " "
    ++ (decimal_of reply.number
    ++ (middle_of reply.value int
    ++ (actions_of reply.actions
    ++ ascii "\n"))))

-- the header
abbrev pub header : List ℕ
header = ascii "step code value int actions\n"

-- a line has at most 51 bytes; it is put only where 80 are left
abbrev pub answer_room : ℕ
answer_room = 80

abbrev pub roomy : ℕ → ℕ → Bool
roomy len at = leb (at + answer_room) len

-- the answer to a line that can't be read: no. 8, value 00, no action
abbrev pub no_answer : PartAnswer
no_answer = record { number = unreadable; value = 0; actions = quiet }
