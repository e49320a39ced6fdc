-- What is proved of the page of this name in specs/.
use Rattle.std.specs.Prelude.{◌≡◌, refl}
use Rattle.std.proofs.Common.{arith}
use Rattle.bounds.specs.Range.{pointers_in, registers_in, counting_of, ended_in, blank_of, recorded_in, walk_in, standing, counted_in, clear_from, counts_in, frame_at, frame_in, kinds_in}
use Rattle.rules.specs.Tables.{start_of, fitting, read_skipped, skipped_of, sent_from}
use Rattle.steps.specs.Map.{wire_target, target_of}
use Rattle.head.specs.Range.{head_in}
use Rattle.channel.specs.Range.{in_range}
use Rattle.part.specs.Step.{channels_in, part_in, accepts}
use Rattle.frames.specs.Wire.{spent}
use Rattle.frames.specs.Deeds.{heard_op, heard_by, resets_by}
use Rattle.frames.specs.Statement.{channel_of, bound_of, Begun, log_of, frame_of}
use Rattle.sheet.specs.Model.{the_part}
use Rattle.sheet.specs.Tight.{machine, opened, frame}

-- it is a frame that has just begun
pub has_begun : Begun 0 (opened the_part)
unfolding the_part sent_from read_skipped skipped_of accepts part_in channels_in in_range head_in pointers_in registers_in walk_in ended_in counting_of recorded_in blank_of frame_in
    frame_at standing fitting start_of counts_in counted_in clear_from kinds_in
has_begun = record { accepted = refl; number = omega arith; phase = refl; counts = refl }

-- THE BOUND IS MET
pub bound_met : (spent (log_of (machine the_part) target_of 0 (opened the_part) (frame the_part)) ≡ 4) × (bound_of (channel_of 0 (opened the_part)) ≡ 4)
unfolding the_part start_of wire_target target_of heard_op heard_by resets_by frame_of
bound_met = (refl, refl)
