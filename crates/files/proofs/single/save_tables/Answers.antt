-- `files::single::save_tables` meets its contract: the header and the blocks of the first count transactions.
use Rattle.std.proofs.Common.{◌≡◌, ◌∙◌, arith, length, length-take, rules}
use Rattle.files.proofs.Laws.Blocks.{header_count, lengths_count, file_put}
use Rattle.files.proofs.Laws.Calls.{count_few, room_open, tables-put}
use Rattle.files.proofs.Laws.Moves.{take_count}
use Rattle.files.proofs.single.save_tables.Goals as goal

pub header-head-requires : goal.header-head-requires
header-head-requires c =
    let room = room_open c.args.c.now c.args.mem.now c.args.out.now _ _ c.from-n.ensures c.start_of-s.ensures.0 c.requires.1 in
    (count_few _ _ c.requires.0.ranged c.from-n.ensures, room.0)

pub slice_bounds-put_file-end-3 : goal.slice_bounds-put_file-end-3
slice_bounds-put_file-end-3 c =
    let room = room_open c.args.c.now c.args.mem.now c.args.out.now _ _ c.from-n.ensures c.start_of-s.ensures.0 c.requires.1 in
    take_count _ c.args.mem.now (rw c.requires.0.whole room.0)

pub put_file-requires : goal.put_file-requires
put_file-requires c =
    let room = room_open c.args.c.now c.args.mem.now c.args.out.now _ _ c.from-n.ensures c.start_of-s.ensures.0 c.requires.1 in
    let head = header_count _ _ _ (c.as_flattened.ensures.value ∙ c.header-head.ensures) in
    let addresses = length-take c.from-n.result c.args.c.now.slatable in
    let lengths = lengths_count c.args.c.now.tranconfig c.from-n.result (count_few _ _ c.requires.0.ranged c.from-n.ensures) (search rules) in
    let bytes = length-take c.start_of-s.result c.args.mem.now in
    let fits = room.1 in omega (arith, head, addresses, lengths, bytes, fits)

pub returns : goal.returns
returns c =
    let a = c.args in
    let room = room_open a.c.now a.mem.now a.out.now _ _ c.from-n.ensures c.start_of-s.ensures.0 c.requires.1 in
    let few = count_few _ _ c.requires.0.ranged c.from-n.ensures in
    let long : length a.c.now.slatable ≡ 64 = search rules in
    let head = c.as_flattened.ensures.value ∙ c.header-head.ensures in
    let addresses = take_count _ a.c.now.slatable (omega (arith, few, long)) in
    let bytes = take_count _ a.mem.now (rw c.requires.0.whole room.0) in
    tables-put a.c.now a.mem.now a.out.now _ _ c.from-n.ensures c.start_of-s.ensures.0 _ (file_put _ _ a.c.now.tranconfig _ a.out.now _ _ _ head addresses bytes c.put_file.ensures)
