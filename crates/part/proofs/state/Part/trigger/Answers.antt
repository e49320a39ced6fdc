-- `part::state::Part::trigger` meets its contract: channel by channel.
use Rattle.std.proofs.Common.{◌≡◌, ◌<◌, arith, length, rules}
use Rattle.interrupt.specs.Interrupt.{be_after}
use native.Mathlib.Numerals.{add-one}
use Rattle.part.proofs.Laws.Steps.{next_in_range, next_edged, all_edged}
use Rattle.part.proofs.state.Part.trigger.Goals as goal

pub trigger-a-requires : goal.trigger-a-requires
trigger-a-requires c = next_in_range c.args.edge c.args.self.now c.loop-c.c c.loop-c.self c.loop-c.actions c.loop-c.invariant c.requires

pub loop-c-preserved : goal.loop-c-preserved
loop-c-preserved c =
    let below : c.loop-c.c < length c.args.self.now.channels = omega arith in
    -- searched, so that `edge_be_lost` is refused for the number and not for the form of its text
    let be : c.be_after-self.result ≡ be_after c.loop-c.self.be c.trigger-a.result.number = search rules in
    rw (add-one c.loop-c.c, be)
    (next_edged c.args.edge c.args.self.now c.loop-c.c c.loop-c.self c.loop-c.actions c.loop-c.invariant below c.trigger-a.new.self c.trigger-a.result c.trigger-a.ensures)

pub returns : goal.returns
returns c =
    let three : length c.args.self.now.channels ≡ 3 = omega arith in
    all_edged c.args.edge c.args.self.now c.loop-c.self c.loop-c.actions c.loop-c.c c.loop-c-test.false c.loop-c.auto.c-end three c.loop-c.invariant
