-- No second outcome of crate script: a statement for each public function.
use Rattle.std.specs.Prelude.{ℕ, List, Option, ◌≡◌}
use Rattle.steps.specs.declared.map.Step.{Step}
use Rattle.script.specs.Grammar.{line_of}
use Rattle.promises.specs.Promise.{Once, no_second}

-- ---- reading.rt
pub read_line_once : (line : List ℕ) → Once (Option Step) (λ r. r ≡ line_of line)
read_line_once line = no_second (λ r h. h)
