-- A file that is read leads neither out of range nor to another number of bytes.
use Rattle.std.specs.Prelude.{ℕ, ◌≤◌, List, ◌≡◌, length, drop}
use Rattle.std.proofs.Common.{◌∙◌, arith, length-append, length-drop}
use Rattle.bounds.proofs.Laws.Range.{points_of, of_points, of_registers, registers_mask}
use Rattle.channel.specs.State.{zeros}
use Rattle.channel.proofs.Laws.Frames.{in_of, of_in}
use Rattle.channel.proofs.Laws.Kept.{idle-frame, zeros-length}
use Rattle.works.specs.Work.{Own, Sound}
use Rattle.works.specs.Idle.{IdleOwn}
use Rattle.files.specs.File.{count_in, data_in, fault_of, fault_number, over}
use Rattle.files.specs.Work.{loaded_own}
use Rattle.files.specs.Laws.File.{number_readable, readable_blocks, readable_count}

-- bytes put over a list that is long enough
pub length_over : (x l : List ℕ) → length x ≤ length l → length (over x l) ≡ length l
length_over x l h = let a = length-append x (drop (length x) l) in let b = length-drop (length x) l in omega (arith, a, b)

pub load_keeps : (f : List ℕ) (o : Own) → Sound o → IdleOwn o → fault_number (fault_of f) ≡ 0 → Sound (loaded_own f o)
load_keeps f o h i e =
    let r = number_readable f e in
    let g = in_of o.channel h.ranged in
    let p = points_of _ g.0 in
    let few : count_in f ≤ 64 = readable_count f r in
    record {
      ranged = of_in _ (
        of_points _ (record { sla = omega arith; count = p.count; conf = omega arith; buf = omega arith }),
        of_registers _ _ _ few (omega arith) (registers_mask _ _ _ g.1),
        g.2,
        idle-frame _ o.channel.head.walk.phase _ _ _ i,
      );
      whole = length_over (data_in f) zeros (rw zeros-length (readable_blocks f r).fits) ∙ zeros-length;
    }
