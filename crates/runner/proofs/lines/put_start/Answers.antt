-- `runner::lines::put_start` meets its contract: n bytes are put.
use Rattle.script.specs.Grammar.{line_room}
use lib.ListN.{length, take}
use lib.Seq.{length-take-le}
use mathlib.Core.Path.{◌≡◌, refl}
use native.Mathlib.Omega.{arith}
use borrow.Author.Rules.{rules}
use Rattle.runner.proofs.lines.put_start.Goals as goal

pub put-requires : goal.put-requires
unfolding line_room
put-requires c =
    let count : length (take c.args.n c.args.bytes) ≡ c.args.n = length-take-le c.args.n c.args.bytes (search rules) in
    omega (arith, count, c.requires.0, c.requires.1)

pub returns : goal.returns
unfolding line_room
returns c = (refl, c.put.ensures.bytes, length-take-le c.args.n c.args.bytes (search rules))
