-- `bench::begin` meets its contract: the header stands in the output.
use Rattle.bench.proofs.Laws.Blocks.{header-put, opens}
use Rattle.bench.proofs.begin.Goals as goal

pub written-requires : goal.written-requires
written-requires g c = (header-put _ _ _ c.requires c.write_header-n.ensures).0

pub returns : goal.returns
returns g c = record {
  stands = opens _ _ c.write_header-n.result c.new.ensures c.no_line.ensures;
  said = (header-put _ _ _ c.requires c.write_header-n.ensures).1;
  written = c.written.ensures;
}
