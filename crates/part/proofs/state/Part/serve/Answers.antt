-- `part::state::Part::serve` meets its contract: what the step forgets, and then a step of one channel, or of the whole part.
use Rattle.std.proofs.Common.{◌<◌}
use Rattle.part.specs.Step.{part_served, part_stored, target_served, target_stored}
use Rattle.part.specs.Facts.{Whole}
use Rattle.part.proofs.Laws.Kept.{left-whole, chan_accepted}
use Rattle.part.proofs.state.Part.serve.Goals as goal

pub one-requires : goal.one-requires
one-requires c =
    let low : c.in-One.c < 3 = rw c.in-One.is at c.requires.1 in
    let left : Whole c.forget.new.self c.args.mem.now = rw c.forget.ensures (left-whole c.args.self.now c.args.mem.now c.args.t c.requires.0) in
    record { below = low; memory = left.whole; accepted = chan_accepted _ _ _ low left }

pub all-requires : goal.all-requires
all-requires c = rw c.forget.ensures (left-whole c.args.self.now c.args.mem.now c.args.t c.requires.0)

pub returns-in-One : goal.returns-in-One
unfolding part_served part_stored target_served target_stored
returns-in-One c = rw (← c.forget.ensures, c.in-One.is) c.one.ensures

pub returns-in-All : goal.returns-in-All
unfolding part_served part_stored target_served target_stored
returns-in-All c = rw (← c.forget.ensures, c.in-All.is) c.all.ensures
