-- `files::single::take_blocks` meets its contract: each block in its table.
use Rattle.std.proofs.Common.{◌≡◌, refl, length, rules}
use Rattle.files.proofs.Laws.Blocks.{sla_loaded, conf_loaded, conf_put, bytes_loaded}
use Rattle.files.proofs.single.take_blocks.Goals as goal

pub returns : goal.returns
returns c =
    let f = c.args.file.now in
    let a : length c.args.c.now.slatable ≡ 64 = search rules in
    let b : length c.args.c.now.tranconfig ≡ 65 = search rules in
    let sla = sla_loaded f _ _ c.count-n.ensures (rw a at c.fill.ensures) in
    let conf = conf_loaded f _ _ _ c.count-n.ensures c.requires.1.few refl (conf_put c.args.c.now.tranconfig _ _ _ b c.fill-2.ensures) in
    (rw (sla, conf, c.rewind.ensures) refl, bytes_loaded f c.args.mem.now _ _ c.count-n.ensures c.requires.0 c.fill-3.ensures)
