-- `part::state::Part::forget_but` meets its contract: key by key.
use Rattle.std.proofs.Common.{◌≡◌, ◌<◌, ◌∙◌, sym, arith, length}
use Rattle.std.proofs.lemmas.List.{set-get_or}
use native.Mathlib.Numerals.{add-one}
use Rattle.part.specs.State.{blank}
use Rattle.part.proofs.Laws.Keys.{own_stays, other_goes, own_left, part_left}
use Rattle.part.proofs.state.Part.forget_but.Goals.{then-i-c, else-i-c}
use Rattle.part.proofs.state.Part.forget_but.Goals as goal

pub loop-i-preserved : goal.loop-i-preserved
loop-i-preserved c =
    let l = c.args.self.now.channels in
    let below : c.loop-i.i < length l = omega arith in
    rw (add-one c.loop-i.i) (elim c.if-i-c.branch [
      | then-i-c w ↦ w.channel-items-is ∙ rw c.loop-i.invariant (other_goes l c.args.c c.loop-i.i below (λ e. w.if-i-c.true (sym e)))
      | else-i-c w ↦ w.channel-items-is ∙ set-get_or c.loop-i.channel-items c.loop-i.i blank ∙ c.loop-i.invariant ∙ rw w.if-i-c.false (own_stays l c.args.c (rw (← w.if-i-c.false) below))
    ])

pub returns-then-c-ne3 : goal.returns-then-c-ne3
returns-then-c-ne3 c =
    let three : length c.args.self.now.channels ≡ 3 = omega arith in
    part_left c.args.self.now c.args.c c.loop-i.i _ c.loop-i-test.false c.loop-i.auto.i-end three c.loop-i.invariant c.if-c-ne3.true

pub returns-else-c-ne3 : goal.returns-else-c-ne3
returns-else-c-ne3 c =
    let three : length c.args.self.now.channels ≡ 3 = omega arith in
    own_left c.args.self.now c.args.c c.loop-i.i _ c.loop-i-test.false c.loop-i.auto.i-end three c.loop-i.invariant c.if-c-ne3.false
