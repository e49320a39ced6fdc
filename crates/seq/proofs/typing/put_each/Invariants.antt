-- `seq::typing::put_each` meets its contract: what is put from a byte on, there, is what is put from the start.
use Rattle.std.proofs.Common.{◌+◌, ◌*◌, length, drop, ◌≡◌}
use Rattle.files.specs.Typed.{each_to}
use Rattle.seq.specs.Typing.{script_of}
use Rattle.std.proofs.lemmas.List.Edits.{sets}
use Rattle.seq.proofs.typing.put_each.Given as goal

abbrev pub invariant-loop-v : goal.invariant-loop-v
invariant-loop-v l = (length l.out ≡ length l.initial.out) × (l.next ≡ l.at + 8 * l.v-index)
    × (sets l.initial.out l.at (script_of (each_to l.a l.bytes)) ≡ sets l.out l.next (script_of (each_to l.a (drop l.v-index l.bytes))))
