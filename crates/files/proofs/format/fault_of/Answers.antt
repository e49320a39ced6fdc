-- `files::format::fault_of` meets its contract: the first fault that applies.
use Rattle.files.proofs.Laws.Blocks.{fault_behind}
use Rattle.files.proofs.format.fault_of.Goals as goal

-- the header and the tables' blocks are there
pub returns : goal.returns
returns c =
    fault_behind c.args.file.now _ _ _ c.if-file-lt-HEADER.false c.count-n.ensures c.if-n-gt64.false c.if-file-data.false c.sum-s.ensures c.body_fault.ensures
