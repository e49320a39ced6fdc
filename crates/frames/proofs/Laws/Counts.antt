-- Each BYTECOUNT until the next begin or reset: in the frame it grows by what the logger counts, after the frame it stays.
use Rattle.std.specs.Prelude.{ℕ, ◌+◌, ◌<◌, Bool, true, false, ◌≡◌, length, if◌then◌else◌}
use mathlib.Core.List.{List, [], ◌∷◌}
use Rattle.std.proofs.Math.Path.{refl, sym}
use Rattle.std.proofs.Common.{◌∙◌}
use native.Mathlib.Omega.{arith}
use Rattle.laws.specs.Cases.{pick_holds}
use Rattle.steps.specs.declared.map.Target.{Target}
use Rattle.steps.specs.declared.answer.PartAnswer.{PartAnswer}
use Rattle.channel.specs.Wires.{bytes_of}
use Rattle.mixes.specs.Mix.{Machine, ends}
use Rattle.independent.specs.Statement.{State, Accepted}
use Rattle.independent.proofs.Laws.Keys.{no}
use Rattle.frames.specs.Wire.{Slaves, Watch, spent, ends_of, watch_after, data_heard, one_of, acknowledged}
use Rattle.frames.specs.Deeds.{runs_of, resets_by, asks_by, may_begin, begins_by}
use Rattle.frames.specs.Statement.{channel_of, buffer_of, slaves_of, entry_at, log_of, frame_of, until_next, Quiet}
use Rattle.frames.proofs.Laws.Goes.{one_none}
use Rattle.frames.proofs.Laws.Rests.{Unheard, none_begins, unheard_outside}
use Rattle.frames.proofs.Laws.View.{felt_outside}
use Rattle.frames.proofs.Laws.Runs.{Follows, both_hold, feels, Holding, one}

-- a test that holds or not
decide : {X : Type 0} (b : Bool) → (b ≡ true → X) → (b ≡ false → X) → X
decide true f g = f refl
decide false f g = g refl

not_both : (a b : Bool) → (if a then b else false) ≡ false → a ≡ true → b ≡ false
not_both a b e t = rw t at e

module _ {A : Type 0} (M : Machine State A PartAnswer) (aim : A → Target) (f : Follows M aim) (c : ℕ) (low : c < 3) where
  -- outside a frame
  record Resting (s : State) : Type 0 where
    accepted : Accepted s
    inside : c < length s.part.channels
    calm : runs_of (channel_of c s).head.walk.phase ≡ false

  -- a step there that begins none
  record Idles (s : State) (a : A) : Type 0 where
    resting : Resting (M.after s a)
    counted : (channel_of c (M.after s a)).bytecount ≡ (channel_of c s).bytecount
    unheard : Unheard (entry_at M aim c s a).heard

  idles : (s : State) (a : A) → Resting s → resets_by c s.part (aim a) ≡ false → begins_by c s.part (aim a) ≡ false → Idles s a
  unfolding begins_by
  idles s a h e b =
      let t = feels M aim f c low s a h.accepted h.inside e in
      let o = felt_outside s.part (buffer_of c s) c low (aim a) e h.calm in
      let r = none_begins (channel_of c s) (buffer_of c s) _ _ _ o (not_both (asks_by c s.part (aim a)) (may_begin (channel_of c s)) b) in
      record {
        resting = record { accepted = t.accepted; inside = rw t.size h.inside; calm = rw t.is r.runs };
        counted = rw t.is r.counted;
        unheard = rw t.heard (unheard_outside (channel_of c s) (buffer_of c s) _ _ _ o);
      }

  -- ---- the events that count: none outside a frame
  Silent : State → List A → Type 0
  Silent s x = spent (log_of M aim c s x) ≡ 0

  silent_rest : (l : List A) (s : State) → Resting s → Silent s (until_next M aim c s l)
  unfolding until_next Silent
  silent_rest [] s h = refl
  silent_rest (a ∷ l) s h =
      pick_holds (Silent s) (resets_by c s.part (aim a)) (λ _. refl)
      (λ e. pick_holds (Silent s) (begins_by c s.part (aim a)) (λ _. refl)
      (λ b. let o = idles s a h e b in
      let i = silent_rest l (M.after s a) o.resting in
      let z = o.unheard.free in omega (arith, i, z)))

  -- and those of a frame are all until the next begin or reset
  Spends : State → List A → List A → Type 0
  Spends s x y = spent (log_of M aim c s x) ≡ spent (log_of M aim c s y)

  pub silent_after : (l : List A) (s : State) (w : Watch) → Holding M aim f c low s w → runs_of (channel_of c s).head.walk.phase ≡ true
      → spent (log_of M aim c s (until_next M aim c s l)) ≡ spent (log_of M aim c s (frame_of M aim c s l))
  unfolding until_next frame_of Silent Spends
  silent_after [] s w h r = refl
  silent_after (a ∷ l) s w h r =
      both_hold (Spends s) (resets_by c s.part (aim a)) (λ _. refl)
      (λ e. let o = one M aim f c low s w a h r e in
      let u = o.holding in
      let v = o.runs in
      pick_holds (λ x. Spends s x (a ∷ (if ends_of (entry_at M aim c s a).heard then [] else frame_of M aim c (M.after s a) l))) (begins_by c s.part (aim a))
      (λ t. no (sym o.unbegun ∙ t))
      (λ _. pick_holds (λ y. Spends s (a ∷ until_next M aim c (M.after s a) l) (a ∷ y)) (ends_of (entry_at M aim c s a).heard)
      (λ t. let i = silent_rest l (M.after s a) (record { accepted = u.accepted; inside = u.inside; calm = rw t at v }) in omega (arith, i))
      (λ t. let i = silent_after l (M.after s a) _ u (rw t at v) in omega (arith, i))))

  module _ (sla : Slaves) (lens : List ℕ) (k : ℕ) where
    -- outside a frame nothing is counted, by the channel or by the logger
    Uncounted : State → List A → Type 0
    Uncounted s x =
        ((channel_of c (ends M s x)).bytecount ≡ (channel_of c s).bytecount) × ((w : Watch) → acknowledged sla lens k w (log_of M aim c s x) ≡ 0)

    uncounted : (l : List A) (s : State) → Resting s → Uncounted s (until_next M aim c s l)
    unfolding until_next Uncounted
    uncounted [] s h = (refl, λ w. refl)
    uncounted (a ∷ l) s h =
        pick_holds (Uncounted s) (resets_by c s.part (aim a)) (λ _. (refl, λ w. refl))
        (λ e. pick_holds (Uncounted s) (begins_by c s.part (aim a)) (λ _. (refl, λ w. refl))
        (λ b. let o = idles s a h e b in
        let i = uncounted l (M.after s a) o.resting in (
          i.0 ∙ o.counted,
          λ w.
              let z : one_of (data_heard w (entry_at M aim c s a).heard) w.at k ≡ 0 = rw (o.unheard.dumb w) (one_none w.at k) in
              let y = i.1 (watch_after sla lens w (entry_at M aim c s a).action) in omega (arith, z, y),
        )))

    -- in a frame each count grows by what the logger counts
    Counted : State → Watch → List A → Type 0
    Counted s w x = bytes_of (channel_of c (ends M s x)) k ≡ bytes_of (channel_of c s) k + acknowledged sla lens k w (log_of M aim c s x)

    nothing-counted : (s : State) (w : Watch) → Counted s w []
    unfolding Counted
    nothing-counted s w = omega arith

    rest_counted : (l : List A) (s : State) (w : Watch) → Resting s → Counted s w (until_next M aim c s l)
    unfolding Uncounted Counted
    rest_counted l s w h =
        let i = uncounted l s h in
        let y : bytes_of (channel_of c (ends M s (until_next M aim c s l))) k ≡ bytes_of (channel_of c s) k = rw i.0 in
        let z = i.1 w in omega (arith, y, z)

    counted-frame : (l : List A) (s : State) (w : Watch) → sla ≡ slaves_of (channel_of c s) → lens ≡ (channel_of c s).tranconfig → Holding M aim f c low s w
        → runs_of (channel_of c s).head.walk.phase ≡ true → Counted s w (until_next M aim c s l)
    unfolding until_next Counted
    counted-frame [] s w p q h r = nothing-counted s w
    counted-frame (a ∷ l) s w p q h r =
        pick_holds (Counted s w) (resets_by c s.part (aim a)) (λ _. nothing-counted s w)
        (λ e. pick_holds (Counted s w) (begins_by c s.part (aim a)) (λ _. nothing-counted s w)
        (λ _. let o = one M aim f c low s w a h r e in
        let v = watch_after sla lens w (entry_at M aim c s a).action in
        let g : Holding M aim f c low (M.after s a) v = rw (p, q) o.holding in
        let i = decide (runs_of (channel_of c (M.after s a)).head.walk.phase)
        (λ t. counted-frame l (M.after s a) v (p ∙ sym o.slas) (q ∙ sym o.lengths) g t)
        (λ t. rest_counted l (M.after s a) v (record { accepted = g.accepted; inside = g.inside; calm = t })) in
        let y = o.counts k in omega (arith, i, y)))

    pub counted : (l : List A) (s : State) (w : Watch) → sla ≡ slaves_of (channel_of c s) → lens ≡ (channel_of c s).tranconfig → Holding M aim f c low s w
        → runs_of (channel_of c s).head.walk.phase ≡ true
        → bytes_of (channel_of c (ends M s (until_next M aim c s l))) k ≡ bytes_of (channel_of c s) k + acknowledged sla lens k w (log_of M aim c s (until_next M aim c s l))
    unfolding Counted
    counted = counted-frame

  pub rest_quiet : (l : List A) (s : State) → Accepted s → c < length s.part.channels → runs_of (channel_of c s).head.walk.phase ≡ false → Quiet M aim c s l
  unfolding Uncounted Silent
  rest_quiet l s acc inside r =
      let h : Resting s = record { accepted = acc; inside = inside; calm = r } in
      record { silent = silent_rest l s h; counts = (uncounted (slaves_of (channel_of c s)) [] 0 l s h).0 }
