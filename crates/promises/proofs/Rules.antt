-- No second outcome of what crate rules defines and methods of head compute as a part of theirs.
use Rattle.std.specs.Prelude.{ℕ, Bool, ◌≡◌}
use Rattle.rules.specs.Access.{kept_if, rewound, pointed_at}
use Rattle.promises.specs.Promise.{Once, no_second}

pub kept_if_once : (active old new : Bool) → Once Bool (λ r. r ≡ kept_if active old new)
kept_if_once active old new = no_second (λ r h. h)

pub rewind_once : (reset : Bool) (at : ℕ) → Once ℕ (λ r. r ≡ rewound reset at)
rewind_once reset at = no_second (λ r h. h)

pub point_at_once : (aiptrrst : Bool) (place at : ℕ) → Once ℕ (λ r. r ≡ pointed_at aiptrrst place at)
point_at_once aiptrrst place at = no_second (λ r h. h)
