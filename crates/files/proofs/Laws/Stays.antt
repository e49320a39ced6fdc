-- What a file that is read or written leaves of the part.
use Rattle.std.specs.Prelude.{ℕ, Bool, Result, Ok, Err, ◌≡◌, refl, eqb, ltb, length, get_or}
use Rattle.std.proofs.Math.Bool.{true, false}
use mathlib.Core.List.{List}
use Rattle.std.proofs.Common.{◌∙◌, ltb-true, ltb-false, get_or-set_same}
use Rattle.std.proofs.Math.Path.{ap}
use Rattle.std.proofs.Math.Seq.{set_out}
use Rattle.laws.specs.Cases.{pick_holds}
use Rattle.rules.specs.Numbers.{done, past_buffer, no_room}
use Rattle.rules.specs.Registers.{active_of}
use Rattle.rules.specs.Tables.{fitting}
use Rattle.interrupt.specs.Interrupt.{be_after}
use Rattle.channel.specs.declared.state.Channel.{Channel}
use Rattle.part.specs.State.{blank, chan}
use Rattle.works.specs.State.{State, Accepted}
use Rattle.works.specs.Work.{Own, own_of, work_after, work_done}
use Rattle.works.specs.Idle.{Deed, deed_number, deed_after}
use Rattle.works.proofs.IdleWork.{idle_work}
use Rattle.works.proofs.Laws.Spares.{idle_spares}
use Rattle.files.specs.declared.format.Fault.{Fault}
use Rattle.files.specs.File.{fault_of, fault_number}
use Rattle.files.specs.Work.{size_of, room_number}
use Rattle.files.specs.Deeds.{load_deed, save_deed}
use Rattle.files.specs.Statement.{Untouched}

-- neither number is 5, which sets BE
abbrev Calm : ℕ → Type 0
Calm n = eqb n past_buffer ≡ false

deed_calm : (d : Deed) (o : Own) → Calm (d.number o) → Calm (deed_number d o)
unfolding deed_number
deed_calm d o h = pick_holds Calm (active_of o.channel.head.walk.phase) (λ _. refl) (λ _. h)

fault_calm : (x : Result (Unit {0}) Fault) → Calm (fault_number x)
fault_calm (Ok t) = refl
fault_calm (Err x) = refl

pub load_calm : (f : List ℕ) (o : Own) → eqb (deed_number (load_deed f) o) past_buffer ≡ false
load_calm f o = deed_calm (load_deed f) o (fault_calm (fault_of f))

room_calm : (lens : List ℕ) (room : ℕ) → Calm (room_number lens room)
unfolding room_number
room_calm lens room = pick_holds Calm (fitting lens) (λ _. pick_holds Calm (ltb room (size_of lens)) {x = no_room} {y = done} (λ _. refl) (λ _. refl)) (λ _. refl)

pub save_calm : (out : List ℕ) (o : Own) → eqb (deed_number (save_deed out) o) past_buffer ≡ false
save_calm out o = deed_calm (save_deed out) o (room_calm o.channel.tranconfig (length out))

module _ (s : State) (g : Accepted s) (c : ℕ) (d : Deed) (calm : (o : Own) → eqb (deed_number d o) past_buffer ≡ false) (keeps : (o : Own) → (d.change o).channel.head.key ≡ o.channel.head.key) where
  abbrev Left : State → Type 0
  Left t = (t.part.be ≡ s.part.be) × ((chan t.part c).head.key ≡ (chan s.part c).head.key)

  own_key : (o : Own) → (deed_after d o).channel.head.key ≡ o.channel.head.key
  unfolding deed_after
  own_key o = pick_holds (λ (x : Own). x.channel.head.key ≡ o.channel.head.key) (eqb (deed_number d o) done) (λ _. keeps o) (λ _. refl)

  key_in : (b : Bool) → ltb c (length s.part.channels) ≡ b → (chan (work_after s c (idle_work d)).part c).head.key ≡ (chan s.part c).head.key
  unfolding work_after
  key_in true t =
      ap (λ (x : Channel). x.head.key) (get_or-set_same s.part.channels c (deed_after d (own_of s c)).channel blank (ltb-true c (length s.part.channels) t)) ∙ own_key (own_of s c)
  key_in false t = ap (λ (l : List Channel). (get_or l c blank).head.key) (set_out s.part.channels c (deed_after d (own_of s c)).channel (ltb-false c (length s.part.channels) t))

  after_left : Left (work_after s c (idle_work d))
  unfolding work_after be_after
  after_left = (rw (calm (own_of s c)), key_in (ltb c (length s.part.channels)) refl)

  done-left : Left (work_done s c (idle_work d))
  unfolding work_done
  done-left = rw g (pick_holds Left (ltb c 3) (λ _. after_left) (λ _. (refl, refl)))

  pub untouched : Untouched c s (work_done s c (idle_work d))
  untouched = record { spares = idle_spares s g c d; be = done-left.0; key = done-left.1 }
