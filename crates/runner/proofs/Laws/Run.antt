-- Lines of different channels keep apart, as their steps do; and a run of lines is one of the part's steps.
use Rattle.std.specs.Prelude.{ℕ, ◌<◌, false, List, ◌≡◌, Option, Some, None}
use Rattle.std.proofs.Math.Path.{refl}
use Rattle.std.proofs.Common.{◌∙◌, sym, ap, arith}
use Rattle.steps.specs.Facts.{InPart}
use Rattle.part.specs.Step.{all_served, all_stored, target_served, target_stored, forgetting, part_served, part_stored, part_step}
use Rattle.part.specs.declared.state.Part.{Part}
use Rattle.part.specs.declared.state.PartStepped.{PartStepped}
use Rattle.part.specs.State.{given}
use Rattle.part.specs.Facts.{Whole}
use Rattle.part.proofs.Laws.Range.{whole-accepts, step_accepted, bytes_accepted}
use Rattle.steps.specs.declared.answer.PartAnswer.{PartAnswer}
use Rattle.steps.specs.Map.{target_of}
use Rattle.answers.specs.Answer.{no_answer}
use Rattle.mixes.specs.Mix.{OfSome}
use Rattle.mixes.proofs.Laws.Apart.{Apart}
use Rattle.independent.specs.Statement.{State, Accepted, preset_written}
use Rattle.independent.proofs.Laws.Apart.{part_apart}
use Rattle.frames.specs.Deeds.{heard_by}
use Rattle.frames.proofs.Theorem.{part_follows}
use Rattle.frames.proofs.Laws.Runs.{Follows}
use Rattle.steps.specs.declared.map.Step.{Step}
use Rattle.script.specs.Grammar.{line_of}
use Rattle.runner.specs.Run.{start, line_answer, after_line, owner_of_line, line_target, line_aim, the_script, LineSparesPreset}

-- a line of a channel that does not write to a PRESET
abbrev Own : Option Step → Type 0
Own l = (owner_of_line l < 3) × (preset_written (line_target l) ≡ false)

abbrev Other : Option Step → Option Step → Type 0
Other a b = owner_of_line a ≡ owner_of_line b → ⊥

kept : (s : State) (a : Option Step) → Accepted s → Own a → Accepted (after_line s a)
kept s (Some a) g h = part_apart.kept s a g h
kept s None g h = g

unmoved : (s : State) (a b : Option Step) → Accepted s → Own a → Own b → Other a b → line_answer (after_line s b) a ≡ line_answer s a
unmoved s (Some a) (Some b) g h i ne = part_apart.unmoved s a b g h i ne
unmoved s (Some a) None g h i ne = absurd (let x = i.0 in omega (arith, x))
unmoved s None b g h i ne = absurd (let x = h.0 in omega (arith, x))

commute : (s : State) (a b : Option Step) → Accepted s → Own a → Own b → Other a b → after_line (after_line s a) b ≡ after_line (after_line s b) a
commute s (Some a) (Some b) g h i ne = part_apart.commute s a b g h i ne
commute s (Some a) None g h i ne = absurd (let x = i.0 in omega (arith, x))
commute s None b g h i ne = absurd (let x = h.0 in omega (arith, x))

pub script_apart : Apart the_script Accepted (λ l. OfSome the_script l × LineSparesPreset l)
script_apart = record {
  kept = λ s a g h. kept s (line_of a) g h;
  unmoved = λ s a b g h i ne. unmoved s (line_of a) (line_of b) g h i ne;
  commute = λ s a b g h i ne. commute s (line_of a) (line_of b) g h i ne;
}

-- ---- a run of lines, as a run of the part's steps
-- what a line does, by whom it concerns
module _ (s : State) (g : Accepted s) where
  abbrev Served : Option Step → Type 0
  Served l = after_line s l ≡ record { part = (part_served s.part s.memory (line_target l)).part; memory = part_stored s.part s.memory (line_target l) }

  line_keeps : (l : Option Step) → Accepted (after_line s l)
  line_keeps (Some a) = part_follows.keeps s a g
  line_keeps None = g

  line_after : (l : Option Step) → Served l
  unfolding part_served part_stored target_served target_stored forgetting all_served all_stored
  line_after (Some a) = part_follows.after s a g
  line_after None = refl

  line_actions : (l : Option Step) → (line_answer s l).actions ≡ (part_served s.part s.memory (line_target l)).answer.actions
  unfolding part_served target_served forgetting all_served
  line_actions (Some a) = part_follows.actions s a g
  line_actions None = refl

  line_hears : (l : Option Step) (c : ℕ) → heard_by c (line_target l) (line_answer s l).number ≡ heard_by c (line_target l) (part_served s.part s.memory (line_target l)).answer.number
  unfolding heard_by
  line_hears (Some a) c = part_follows.hears s a c g
  line_hears None c = refl

line_concerns : (l : Option Step) → InPart (line_target l)
line_concerns (Some a) = part_follows.concerns a
line_concerns None = tt

pub script_follows : Follows the_script line_aim
script_follows = record {
  concerns = λ l. line_concerns (line_of l);
  keeps = λ s l g. line_keeps s g (line_of l);
  after = λ s l g. line_after s g (line_of l);
  actions = λ s l g. line_actions s g (line_of l);
  hears = λ s l c g. line_hears s g (line_of l) c;
}

-- ---- a line that asks for a step, done to a part and a memory that no. 9 does not refuse; and one that can't be read
module _ (p : Part) (m : List ℕ) (l : Option Step) where
  pub step_answered : (s : Step) (p' : Part) (a : PartAnswer) → Whole p m → l ≡ Some s → given p' a ≡ part_served p m (target_of s) → a ≡ line_answer (start p m) l
  step_answered s p' a w is e = rw is (ap (λ (x : PartStepped). x.answer) (e ∙ sym (step_accepted p m s (whole-accepts p m w))))

  pub step_left : (s : Step) (p' : Part) (a : PartAnswer) (m' : List ℕ) → Whole p m → l ≡ Some s → given p' a ≡ part_served p m (target_of s) → m' ≡ part_stored p m (target_of s)
      → start p' m' ≡ after_line (start p m) l
  step_left s p' a m' w is e f =
      let k = whole-accepts p m w in
      rw is (ap (λ (x : PartStepped). start x.part m') (e ∙ sym (step_accepted p m s k)) ∙ ap (start (part_step p m s).part) (f ∙ sym (bytes_accepted p m s k)))

  pub none_answered : (a : PartAnswer) → l ≡ None → a ≡ no_answer → a ≡ line_answer (start p m) l
  none_answered a is e = rw is e

  pub none_left : l ≡ None → start p m ≡ after_line (start p m) l
  none_left is = rw is
