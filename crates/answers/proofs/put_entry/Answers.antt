-- `answers::put_entry` meets its contract: three texts, one after the other.
use Rattle.answers.proofs.Laws.Writing.{put_then}
use borrow.Author.Rules.{rules}
use Rattle.answers.proofs.put_entry.Goals as goal

pub returns : goal.returns
returns c = (rw (← c.spell-text.ensures.0) (put_then c.put_if-at.ensures.0 (put_then c.put-at.ensures c.put.ensures)), search rules)
