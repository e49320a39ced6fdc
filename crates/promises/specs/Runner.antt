-- No second outcome of crate runner: a statement for each public function.
use Rattle.std.specs.Prelude.{ℕ, ◌-◌, ◌≤◌, List, ◌≡◌, length, take, drop}
use Rattle.std.proofs.Common.{◌∙◌, ap, arith, length-drop}
use Rattle.std.proofs.lemmas.List.Edits.{sets}
use Rattle.script.specs.Grammar.{line_room}
use Rattle.runner.specs.declared.answering.Course.{Course}
use Rattle.runner.specs.declared.lines.Start.{Start}
use Rattle.runner.specs.Lines.{no_line, lengthened, kept_of, line_end}
use Rattle.runner.specs.Feeding.{Answered}
use Rattle.promises.specs.Promise.{Once, no_second, both}

-- ---- answering.rt
-- what follows a place of a block tells the place
place_by_rest : (block rest : List ℕ) (from : ℕ) → drop from block ≡ rest → from ≤ length block → from ≡ length block - length rest
place_by_rest block rest from e h = omega (arith, ap length e, length-drop from block, h)

pub answer_lines_once : (s : Course) (block mem out : List ℕ) → Once (Course × List ℕ × List ℕ) (λ (r, mem', out'). Answered block s mem out r mem' out')
answer_lines_once s block mem out =
    no_second (λ o h. λ i.
    let d = h.desk i in
    let from = place_by_rest block _ o.0.from h.rest h.inside in (
      record { part = d.state.part; step = d.step; from = from i; at = h.text.place i },
      d.state.memory,
      h.text.bytes i,
    ))

-- ---- lines.rt
pub no_line_once : Once Start (λ r. r ≡ no_line)
no_line_once = no_second (λ r h. h)

pub lengthen_once : (line : Start) (more : List ℕ) → Once Start (λ r. r ≡ lengthened line more)
lengthen_once line more = no_second (λ r h. h)

pub kept_once : (len : ℕ) → Once ℕ (λ r. (r ≡ kept_of len) × (r ≤ line_room))
kept_once len = no_second (λ r h. h.0)

pub put_start_once : (bytes : List ℕ) (n : ℕ) (block : List ℕ)
    → Once (ℕ × List ℕ) (λ (r, block'). (r ≡ line_room - n) × (block' ≡ sets block r (take n bytes)) × (length (take n bytes) ≡ n))
put_start_once bytes n block = no_second (λ o h. both h.0 (h.1 ∙ ap (λ (at : ℕ). sets block at (take n bytes)) h.0))

pub line_end_once : (block : List ℕ) (from : ℕ) → Once ℕ (λ r. r ≡ line_end block from)
line_end_once block from = no_second (λ r h. h)
