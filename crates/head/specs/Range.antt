-- Document 01, 'Out of range': what needs no table but the count.
use Rattle.std.specs.Prelude.{ℕ, Bool, false, if◌then◌else◌}
use Rattle.bounds.specs.Range.{pointers_in, registers_in, walk_in}
use Rattle.head.specs.declared.state.Head.{Head}
use Rattle.head.specs.Head.{framecnt_of}

-- pointers, registers and the walk of a head that stands beside this count
unfoldable pub head_in : Head → ℕ → Bool
head_in h count =
    if pointers_in h.ptrs then
    (if registers_in count h.regs.transel h.regs.intmsk then walk_in h.walk h.regs.te (framecnt_of h) else false)
    else false
