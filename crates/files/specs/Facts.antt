-- Facts that functions hand to each other, beside what they return. Nobody has to believe them: each is proved where it is promised.
use Rattle.std.specs.Prelude.{ℕ, ◌+◌, ◌*◌, ◌≤◌, List, length}
use Rattle.rules.specs.Numbers.{buffer_size}
use Rattle.files.specs.File.{count_in}

-- what a readable file says of its count and its length
pub record Filed (f : List ℕ) : Type 0 where
  pub few : count_in f ≤ 64
  pub holds : 12 + 2 * count_in f ≤ length f
  pub fits : length f ≤ 12 + 2 * count_in f + buffer_size
