-- Demand 3 needs its premise that no list writes to a PRESET: two lists of which one does, and a mix of them that ends elsewhere than the lists in turn. The checker
-- computes both runs. Channel 0 masks SD and resets itself; channel 1 writes one register, and where that write comes between A5h and 5Ah, nothing is reset.
use Rattle.std.specs.Prelude.{ℕ, List, [], ◌∷◌}
use Rattle.steps.specs.declared.map.Step.{Step}
use Rattle.steps.specs.declared.map.Step.TheVariants.{Write}
use Rattle.part.specs.State.{chan}
use Rattle.works.specs.State.{State}

abbrev pub resetting : List Step
resetting = Write 0xC2 0x80 ∷ Write 0xCF 0xA5 ∷ Write 0xCF 0x5A ∷ []

abbrev pub beside : List Step
beside = Write 0xD2 0x40 ∷ []

abbrev pub mixed : List Step
mixed = Write 0xC2 0x80 ∷ Write 0xCF 0xA5 ∷ Write 0xD2 0x40 ∷ Write 0xCF 0x5A ∷ []

-- INTMSK of channel 0
abbrev pub mask_of : State → ℕ
mask_of s = (chan s.part 0).head.regs.intmsk
