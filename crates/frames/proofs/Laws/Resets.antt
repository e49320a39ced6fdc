-- What is called a reset of channel c leaves it as after a reset.
use Rattle.std.specs.Prelude.{ℕ, zero, suc, ◌<◌, true, List, ◌≡◌, length, Option, Some, None}
use Rattle.std.proofs.Math.Path.{refl}
use Rattle.std.proofs.Common.{◌∙◌, arith, get_or-set_same}
use borrow.Author.Tests.{eq-eqb}
use Rattle.rules.specs.declared.parts.Device.{Device}
use Rattle.rules.specs.declared.registers.Register.{Register}
use Rattle.rules.specs.Registers.{place_of}
use Rattle.steps.specs.declared.map.Op.{Op}
use Rattle.steps.specs.declared.map.Op.TheVariants.{Write, Read, Wire}
use Rattle.steps.specs.declared.map.Target.{Target}
use Rattle.steps.specs.declared.map.Target.TheVariants.{One, All}
use Rattle.steps.specs.declared.map.Wide.TheVariants.{CtrlWrite, CtrlRead, AllTrigger, AllReset, Beyond}
use Rattle.steps.specs.declared.answer.PartAnswer.{PartAnswer}
use Rattle.channel.specs.declared.state.Channel.{Channel}
use Rattle.channel.specs.Access.{put_of}
use Rattle.channel.specs.Step.{write_at, served_by}
use Rattle.part.specs.declared.state.Part.{Part}
use Rattle.part.specs.Registers.{ctrl_put}
use Rattle.part.specs.State.{blank, chan, fresh_part, device_of}
use Rattle.part.specs.Step.{one_step, all_served, target_served, forgetting, part_served}
use Rattle.mixes.specs.Mix.{Machine}
use Rattle.independent.specs.Statement.{State, Accepted}
use Rattle.independent.proofs.Laws.Keys.{no}
use Rattle.frames.specs.Deeds.{place_resets, op_resets, resets_by}
use Rattle.frames.specs.Statement.{channel_of, Fresh}
use Rattle.frames.proofs.Laws.View.{split, left_size, resets-left}
use Rattle.frames.proofs.Laws.Runs.{Follows}

place_resets_lem : (c : Channel) (m : List ℕ) (p : Option Register) (v : ℕ) → place_resets c p v ≡ true → Fresh (write_at c m p v).stepped.channel
unfolding write_at put_of
place_resets_lem c m (Some reg) v e = rw e
place_resets_lem c m None v e = no e

op_resets_lem : (c : Channel) (m : List ℕ) (number : ℕ) (op : Op) → op_resets c number op ≡ true → Fresh (served_by c m number op).stepped.channel
unfolding served_by
op_resets_lem c m number (Write a v) e = place_resets_lem c m (place_of number a) v e
op_resets_lem c m number (Read a) e = no e
op_resets_lem c m number (Wire x) e = no e

fresh_at : (d : Device) (c : ℕ) → c < 3 → Fresh (chan (fresh_part d) c)
fresh_at d zero h = refl
fresh_at d (suc zero) h = refl
fresh_at d (suc (suc zero)) h = refl
fresh_at d (suc (suc (suc c))) h = absurd (omega (arith, h))

module _ (p : Part) (m : List ℕ) (c : ℕ) (low : c < 3) (inside : c < length p.channels) where
  ResetAt : Target → Type 0
  ResetAt t = resets_by c p t ≡ true → Fresh (chan (target_served p m t).part c)

  target_fresh : (t : Target) → resets_by c p t ≡ true → Fresh (chan (target_served p m t).part c)
  unfolding ResetAt resets_by target_served all_served one_step ctrl_put
  target_fresh (One op d) e =
      split c ResetAt
      (λ op e. let q = eq-eqb c c refl in rw (get_or-set_same p.channels c _ blank inside) (op_resets_lem (chan p c) _ c op (rw q at e)))
      (λ op d q e. no (rw q at e)) op d e
  target_fresh (All (CtrlWrite reg v)) e = rw e (fresh_at (device_of p) c low)
  target_fresh (All (CtrlRead reg)) e = no e
  target_fresh (All (AllTrigger edge)) e = no e
  target_fresh (All (AllReset z)) e = fresh_at z c low
  target_fresh (All Beyond) e = no e

resets-fresh : (p : Part) (m : List ℕ) (c : ℕ) → c < 3 → c < length p.channels → (t : Target) → resets_by c p t ≡ true → Fresh (chan (part_served p m t).part c)
unfolding part_served
resets-fresh p m c low inside t e = target_fresh (forgetting t p) m c low (rw (left_size p c t) inside) t (resets-left p c t ∙ e)

pub resets : {A : Type 0} (M : Machine State A PartAnswer) (aim : A → Target) → Follows M aim → (c : ℕ) → c < 3 → (s : State) (a : A) → Accepted s → c < length s.part.channels
    → resets_by c s.part (aim a) ≡ true → Fresh (channel_of c (M.after s a))
resets M aim f c low s a acc inside e = rw (f.after s a acc) (resets-fresh s.part s.memory c low inside (aim a) e)
