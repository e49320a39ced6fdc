-- `part::state::Part::one` meets its contract: in the channel's place and its window.
use Rattle.part.proofs.Laws.Steps.{cut_accepted, one_served_in}
use Rattle.part.proofs.state.Part.one.Goals as goal

pub serve-a-requires : goal.serve-a-requires
serve-a-requires c = cut_accepted c.args.self.now c.args.mem.now c.args.c c.requires.accepted

pub returns : goal.returns
returns c =
    rw (c.be_after-self.ensures, c.act_at.ensures)
    (one_served_in c.args.self.now c.args.mem.now c.args.c c.args.op c.serve-a.new.self c.serve-a.result c.serve-a.new.mem c.serve-a.ensures)
