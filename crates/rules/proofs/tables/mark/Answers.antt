-- `rules::tables::mark` meets its contract: what is put in the place of the part is what is marked there.
use Rattle.std.proofs.Common.{rules}
use Rattle.rules.proofs.Laws.Tables.{marked_part}
use Rattle.rules.proofs.tables.mark.Goals as goal

pub returns : goal.returns
returns c = marked_part _ _ _ _ c.requires.0 (search rules) (c.fill.ensures.after (λ y e. e))
