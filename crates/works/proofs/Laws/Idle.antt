-- A deed of an Idle channel keeps to what a work has to.
use Rattle.std.specs.Prelude.{Bool, ◌≡◌, eqb, if◌then◌else◌}
use Rattle.std.proofs.Math.Bool.{true, false}
use Rattle.std.proofs.Math.Path.{refl}
use Rattle.std.proofs.Common.{arith, eqb-true}
use Rattle.laws.specs.Cases.{pick_holds, not_refused}
use Rattle.rules.specs.Numbers.{done, locked}
use Rattle.rules.specs.Registers.{active_of}
use Rattle.works.specs.Work.{Own, Sound, unkeyed}
use Rattle.works.specs.Idle.{Deed, IdleOwn, deed_number, deed_after, deed_out, deed_gives}

module _ (d : Deed) where
  -- where a deed is done the channel is Idle, and its own number is 0
  pub deed_open : (o : Own) → deed_number d o ≡ 0 → IdleOwn o × (d.number o ≡ 0)
  unfolding deed_number
  deed_open o e = not_refused (active_of o.channel.head.walk.phase) locked (d.number o) (omega arith) e

  -- the key is nothing to it
  number_unkeyed : (o : Own) → deed_number d (unkeyed o) ≡ deed_number d o
  unfolding deed_number
  number_unkeyed o = rw (d.numbers o)

  pub after_unkeyed : (o : Own) → deed_after d (unkeyed o) ≡ unkeyed (deed_after d o)
  unfolding deed_after
  after_unkeyed o = rw (number_unkeyed o) (go (eqb (deed_number d o) done))
    where
      go : (b : Bool) → (if b then d.change (unkeyed o) else unkeyed o) ≡ unkeyed (if b then d.change o else o)
      go true = d.unkeys o
      go false = refl

  pub gives_unkeyed : (o : Own) → deed_gives d (unkeyed o) ≡ deed_gives d o
  unfolding deed_out
  gives_unkeyed o = rw (number_unkeyed o, d.blind o)

  pub after_sound : (o : Own) → Sound o → Sound (deed_after d o)
  unfolding deed_after
  after_sound o h =
      pick_holds Sound (eqb (deed_number d o) done) (λ t. let z = deed_open o (eqb-true _ _ t) in d.keeps o h z.0 z.1) (λ _. h)

  pub after_stays : (o : Own) → (deed_after d o).channel.head.straps ≡ o.channel.head.straps
  unfolding deed_after
  after_stays o = pick_holds (λ (x : Own). x.channel.head.straps ≡ o.channel.head.straps) (eqb (deed_number d o) done) (λ _. d.stays o) (λ _. refl)

-- ---- a deed on an Idle channel
module _ (d : Deed) (o : Own) (i : IdleOwn o) where
  pub idle_number : deed_number d o ≡ d.number o
  unfolding deed_number
  idle_number = rw i

  pub done_after : d.number o ≡ 0 → deed_after d o ≡ d.change o
  unfolding deed_after
  done_after e = rw (idle_number, e)

  pub done_out : d.number o ≡ 0 → deed_out d o ≡ d.hands o
  unfolding deed_out
  done_out e = rw (idle_number, e)
