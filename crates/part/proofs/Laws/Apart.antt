-- A channel's step touches its own record, its own window and BE, and nothing else; what it forgets before that is said in Step.antt.
use Rattle.std.specs.Prelude.{ℕ, ◌<◌, List, ◌≡◌, refl}
use Rattle.std.proofs.Common.{sym}
use Rattle.std.proofs.Math.Seq.{get_or-set_other}
use Rattle.steps.specs.declared.map.Op.{Op}
use Rattle.steps.specs.declared.map.Step.{Step}
use Rattle.steps.specs.declared.map.Target.TheVariants.{One}
use Rattle.steps.specs.Map.{target_of}
use Rattle.steps.proofs.Laws.Map.{one_in_part}
use Rattle.part.specs.declared.state.Part.{Part}
use Rattle.part.specs.State.{blank, chan, window}
use Rattle.part.specs.Step.{one_served, one_step, one_bytes, target_served, target_stored, forgetting, part_served, part_stored, part_step, part_bytes}
use Rattle.part.proofs.Laws.Memory.{fits, window_other}
use Rattle.part.proofs.Laws.Range.{step_accepted, bytes_accepted, whole-accepts}
use Rattle.part.proofs.Laws.Kept.{one-length, left-whole}
use Rattle.part.specs.Facts.{Whole}

-- of the part p with the memory m, all that is not channel c's is the same in q and n, BE apart
pub record Others (c : ℕ) (p : Part) (m : List ℕ) (q : Part) (n : List ℕ) : Type 0 where
  pub records : (d : ℕ) → (c ≡ d → ⊥) → chan q d ≡ chan p d
  pub windows : (d : ℕ) → (c ≡ d → ⊥) → window d n ≡ window d m
  pub mask : q.mask ≡ p.mask

module _ (p : Part) (m : List ℕ) (c : ℕ) (op : Op) where
  pub one_others : Whole p m → c < 3 → Others c p m (one_step p m c op).part (one_bytes p m c op)
  unfolding one_step one_bytes
  one_others w h = record {
    records = λ d ne. get_or-set_other p.channels c d (one_served p m c op).stepped.channel blank (λ e. ne (sym e));
    windows = λ d ne. window_other c d _ m (one-length p m w c op h) (fits c m h w.whole) ne;
    mask = refl;
  }

-- A CHANNEL'S STEP LEAVES THE OTHERS as they are after what it forgets of their keys (`other_left`, Keys.antt)
pub leaves_others : (p : Part) (m : List ℕ) (c : ℕ) (op : Op) (s : Step) → target_of s ≡ One op c → Whole p m
    → Others c (forgetting (One op c) p) m (part_step p m s).part (part_bytes p m s)
unfolding part_served part_stored target_served target_stored
leaves_others p m c op s is w =
    let y = whole-accepts p m w in
    rw (step_accepted p m s y, bytes_accepted p m s y, is) (one_others (forgetting (One op c) p) m c op (left-whole p m (One op c) w) (one_in_part s c op is))
