-- No second outcome of crate letters: a statement for each public function.
use Rattle.std.specs.Prelude.{ℕ, List, ◌≤◌, ◌≡◌}
use Rattle.rules.specs.declared.wires.Action.{Action}
use Rattle.letters.specs.declared.Text.{Text}
use Rattle.letters.specs.Letters.{digit_of, hex_digits, text_of}
use Rattle.promises.specs.Promise.{Once, no_second}

pub digit_once : (d : ℕ) → Once ℕ (λ r. r ≡ digit_of d)
digit_once d = no_second (λ r h. h)

pub hex_once : (b : ℕ) → Once (List ℕ) (λ r. r ≡ hex_digits b)
hex_once b = no_second (λ r h. h)

pub spell_once : (a : Action) → Once Text (λ r. (r ≡ text_of a) × (r.len ≤ 4))
spell_once a = no_second (λ r h. h.0)
