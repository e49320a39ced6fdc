-- `seq::typing::type_file` meets its contract: the blocks of a readable file stand where its count says.
use Rattle.std.proofs.Common.{arith, rules}
use Rattle.files.specs.Laws.File.{readable_long}
use Rattle.seq.proofs.Laws.Typing.{all_there, addresses_few, lengths_few, bytes_few, typed_there}
use Rattle.seq.proofs.typing.type_file.Goals as goal

pub bounds-file-0 : goal.bounds-file-0
bounds-file-0 c = omega (arith, readable_long _ c.requires.1)

pub slice_bounds-type_blocks-end : goal.slice_bounds-type_blocks-end
slice_bounds-type_blocks-end c = omega (arith, all_there _ c.requires.1 _ c.byte-n.ensures.0)

pub slice_bounds-type_blocks-end-2 : goal.slice_bounds-type_blocks-end-2
slice_bounds-type_blocks-end-2 c = omega (arith, all_there _ c.requires.1 _ c.byte-n.ensures.0)

pub slice_bounds-type_blocks-count-3 : goal.slice_bounds-type_blocks-count-3
slice_bounds-type_blocks-count-3 c = omega (arith, all_there _ c.requires.1 _ c.byte-n.ensures.0)

pub slice_bounds-type_blocks-start-3 : goal.slice_bounds-type_blocks-start-3
slice_bounds-type_blocks-start-3 c = omega (arith, all_there _ c.requires.1 _ c.byte-n.ensures.0)

pub type_blocks-requires : goal.type_blocks-requires
type_blocks-requires c =
    let r = c.requires.1 in
    let e = c.byte-n.ensures.0 in
    (omega (arith, c.requires.0), addresses_few _ r _ e, lengths_few _ r _ e, bytes_few _ r _ e, search rules)

pub returns : goal.returns
returns c = (rw (typed_there c.args.c _ c.requires.1 _ c.byte-n.ensures.0) c.type_blocks.ensures.0, c.type_blocks.ensures.1)
