-- Answers of document 01's own example, and one with two actions, computed by the definitions.
use Rattle.std.specs.Prelude.{true, false, [], ◌∷◌, ◌≡◌, refl}
use Rattle.laws.specs.Ascii.{ascii}
use Rattle.letters.specs.Letters.{digit_of}
use Rattle.rules.specs.declared.wires.Action.TheVariants.{Nothing, S, Np}
use Rattle.answers.specs.Answer.{digits_of, level_of, text_if, action_of, actions_of, answer_line}

write-start : answer_line 5 (record { number = 0; value = 0; actions = S 0x40 ∷ Nothing ∷ Nothing ∷ [] }) false ≡ ascii "5 0 00 0 0:S40\n"
unfolding answer_line digits_of level_of actions_of action_of text_if digit_of
write-start = refl

write_read : answer_line 10 (record { number = 0; value = 0x80; actions = Nothing ∷ Nothing ∷ Nothing ∷ [] }) false ≡ ascii "10 0 80 0 -\n"
unfolding answer_line digits_of level_of actions_of action_of text_if digit_of
write_read = refl

write_two : answer_line 12 (record { number = 0; value = 0; actions = Nothing ∷ S 0x40 ∷ Np ∷ [] }) true ≡ ascii "12 0 00 1 1:S40,2:NP\n"
unfolding answer_line digits_of level_of actions_of action_of text_if digit_of
write_two = refl
