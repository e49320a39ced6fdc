-- `interrupt::calm` meets its contract: the word is 0 where no flag is set.
use mathlib.Core.Path.{refl}
use Rattle.interrupt.proofs.Laws.Interrupt.{calm_word}
use Rattle.interrupt.proofs.calm.Goals as goal

pub returns : goal.returns
returns c = calm_word _ _ _ _ _ _ _ _ _ _ _ _ refl refl refl c.number.ensures.0 c.number-2.ensures.0 c.number-3.ensures.0 c.number-4.ensures.0
    c.number-5.ensures.0 c.number-6.ensures.0 c.number-7.ensures.0 c.number-8.ensures.0
