-- What a part in range says of each of its channels, and a step that no. 9 does not refuse.
use Rattle.std.specs.Prelude.{ℕ, zero, suc, true, List, [], ◌∷◌, ◌≡◌, refl, length, get_or}
use Rattle.std.proofs.Common.{eqb-true, eq-eqb}
use Rattle.laws.specs.Cases.{both, with}
use Rattle.bounds.specs.Range.{pointers_in, registers_in, counting_of, ended_in, blank_of, recorded_in, walk_in, frame_in}
use Rattle.steps.specs.declared.map.Step.{Step}
use Rattle.steps.specs.Map.{target_of}
use Rattle.head.specs.Range.{head_in}
use Rattle.channel.specs.declared.state.Channel.{Channel}
use Rattle.channel.specs.Range.{in_range}
use Rattle.part.specs.declared.state.Part.{Part}
use Rattle.part.specs.State.{blank, chan}
use Rattle.part.specs.Step.{channels_in, part_in, accepts, part_served, part_stored, part_step, part_bytes}
use Rattle.part.specs.Facts.{Whole}

pub channels_of : (p : Part) → part_in p ≡ true → channels_in p.channels ≡ true
unfolding part_in
channels_of p e = (both _ _ e).0

-- what stands past the third channel is in range too, so that a channel's number need not be below 3
blank_in : in_range blank ≡ true
unfolding in_range head_in pointers_in registers_in walk_in ended_in counting_of recorded_in blank_of frame_in
blank_in = refl

channel_in_lem : (l : List Channel) (c : ℕ) → channels_in l ≡ true → in_range (get_or l c blank) ≡ true
unfolding channels_in
channel_in_lem [] c e = blank_in
channel_in_lem (x ∷ l) zero e = (both _ _ e).0
channel_in_lem (x ∷ l) (suc c) e = channel_in_lem l c (both _ _ e).1

pub chan-in_range : (p : Part) (c : ℕ) → part_in p ≡ true → in_range (chan p c) ≡ true
chan-in_range p c e = channel_in_lem p.channels c (channels_of p e)

-- what is not refused by no. 9
pub accepts-whole : (p : Part) (m : List ℕ) → accepts p (length m) ≡ true → Whole p m
unfolding accepts
accepts-whole p m e = let b = both _ _ e in record { ranged = b.1; whole = eqb-true _ _ b.0 }

pub whole-accepts : (p : Part) (m : List ℕ) → Whole p m → accepts p (length m) ≡ true
unfolding accepts
whole-accepts p m w = with _ _ (eq-eqb _ _ w.whole) w.ranged

-- ---- a step that no. 9 does not refuse
module _ (p : Part) (m : List ℕ) (s : Step) where
  pub step_accepted : accepts p (length m) ≡ true → part_step p m s ≡ part_served p m (target_of s)
  unfolding part_step
  step_accepted e = rw e

  pub bytes_accepted : accepts p (length m) ≡ true → part_bytes p m s ≡ part_stored p m (target_of s)
  unfolding part_bytes
  bytes_accepted e = rw e
