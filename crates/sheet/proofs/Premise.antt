-- What is proved of the page of this name in specs/.
use Rattle.std.specs.Prelude.{zero, suc, [], ◌++◌, ◌≡◌, refl}
use Rattle.std.proofs.Common.{ap, arith}
use Rattle.laws.specs.Lists.{All}
use Rattle.steps.specs.declared.map.Op.TheVariants.{Write as WriteOp}
use Rattle.steps.specs.declared.map.Step.{Step}
use Rattle.channel.specs.State.{zeros}
use Rattle.mixes.specs.Mix.{Mix, ends}
use Rattle.mixes.specs.Mix.Mix.{done, first, second}
use Rattle.rules.specs.declared.parts.Device.TheVariants.{Pca9663}
use Rattle.independent.specs.Keys.{at_reset}
use Rattle.independent.specs.Statement.{Accepted, NoChannelKey, OfChannel, Independent, the_part as part}
use Rattle.sheet.specs.Model.{the_part}
use Rattle.sheet.specs.Premise.{resetting, beside, mixed, mask_of}

-- THE TWO RUNS
pub runs_differ : (mask_of (ends part (at_reset Pca9663) mixed) ≡ 0x80) × (mask_of (ends part (at_reset Pca9663) (resetting ++ (beside ++ []))) ≡ 0x00)
unfolding the_part zeros
runs_differ = (refl, refl)

no_key : NoChannelKey (at_reset Pca9663)
no_key zero = refl
no_key (suc zero) = refl
no_key (suc (suc zero)) = refl
no_key (suc (suc (suc c))) = refl

-- all else that demand 3 asks for is there
pub premises : Accepted (at_reset Pca9663) × NoChannelKey (at_reset Pca9663) × Mix Step resetting beside [] mixed × All (OfChannel 0) resetting × All (OfChannel 1) beside
unfolding the_part
premises = (
  refl,
  no_key,
  first (first (second (first done))),
  (record { op = WriteOp 0xC2 0x80; is = refl }, (record { op = WriteOp 0xCF 0xA5; is = refl }, (record { op = WriteOp 0xCF 0x5A; is = refl }, tt))),
  (record { op = WriteOp 0xD2 0x40; is = refl }, tt),
)

-- AND IT FAILS
pub preset_disturbs : Independent part (at_reset Pca9663) resetting beside [] mixed → ⊥
preset_disturbs x =
    let e = ap mask_of x.state in
    let a = runs_differ.0 in
    let b = runs_differ.1 in
    absurd (omega (arith, e, a, b))
