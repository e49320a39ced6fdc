-- `bench::main` meets its contract: each turn leaves what the next one asks, and all of them are a talk.
use Rattle.bench.specs.Talk.{Ready, Talks}
use Rattle.bench.proofs.main.Given as goal

abbrev pub invariant-loop : goal.invariant-loop
invariant-loop l = Ready l.b.seat l.buffers.mem × Talks l.b.seat l.b.how l.buffers.mem
