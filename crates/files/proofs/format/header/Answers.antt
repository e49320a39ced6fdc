-- `files::format::header` meets its contract.
use Rattle.std.proofs.Common.{refl}
use Rattle.files.specs.File.{header_of}
use Rattle.files.proofs.format.header.Goals as goal

pub returns : goal.returns
unfolding header_of
returns c = rw (c.word.ensures, c.word-2.ensures, c.word-3.ensures, c.word-4.ensures, c.word-5.ensures, c.word-6.ensures) refl
