-- `bench::main` meets its contract: each turn leaves what the next one asks, and all of them are a talk.
use Rattle.bench.proofs.Laws.Blocks.{opening-ready}
use Rattle.std.proofs.Common.{true, ◌≡◌, ◌∙◌, sym, rules}
use Rattle.bench.proofs.Laws.Talk.{going_on_lem}
use Rattle.bench.specs.Talk.Talk.{begun, more}
use Rattle.bench.proofs.main.Goals as goal

pub loop-init : goal.loop-init
loop-init c =
    let first = c.begin-b.ensures in
    rw c.new-buffers.ensures.zero (opening-ready _ _ first.stands, record { input = _; output = _; talk = begun _ _ _ first })

-- in a turn the last one has left it to go on
pub loop-preserved : goal.loop-preserved
loop-preserved c =
    let on : c.goes_on.result ≡ true = search rules in
    let goes = going_on_lem c.loop.b.how (sym c.goes_on.ensures ∙ on) in
    let turned = c.turn-b.ensures in
    (turned.ready, record { input = _; output = _; talk = more _ _ _ _ _ _ _ _ _ c.loop.invariant.1.talk goes turned.turned })
