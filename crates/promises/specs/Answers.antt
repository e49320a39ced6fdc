-- No second outcome of crate answers: a statement for each public function.
use Rattle.std.specs.Prelude.{ℕ, ◌+◌, ◌≤◌, Bool, List, ◌≡◌, length}
use Rattle.steps.specs.declared.answer.PartAnswer.{PartAnswer}
use Rattle.answers.specs.Answer.{Put, answer_line, header, answer_room, roomy, text_if, no_answer}
use Rattle.promises.specs.Promise.{Once, no_second, both}

pub put_once : (out : List ℕ) (at : ℕ) (text : List ℕ) → Once (ℕ × List ℕ) (λ (r, out'). Put out at text r out')
put_once out at text = no_second (λ o h. both h.place h.bytes)

pub write_header_once : (out : List ℕ) (at : ℕ)
    → Once (ℕ × List ℕ) (λ (r, out'). Put out at (text_if (roomy (length out) at) header) r out')
write_header_once out at = no_second (λ o h. both h.place h.bytes)

pub write_answer_once : (step : ℕ) (reply : PartAnswer) (int : Bool) (out : List ℕ) (at : ℕ)
    → Once (ℕ × List ℕ) (λ (r, out'). Put out at (text_if (roomy (length out) at) (answer_line step reply int)) r out' × (r ≤ at + answer_room))
write_answer_once step reply int out at = no_second (λ o h. both h.0.place h.0.bytes)

pub unreadable_once : Once PartAnswer (λ r. r ≡ no_answer)
unreadable_once = no_second (λ r h. h)
