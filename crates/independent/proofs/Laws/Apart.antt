-- The channels of the part keep apart, whatever their steps are: a task of channel c is a work of it.
use Rattle.std.specs.Prelude.{ℕ, ◌<◌, Bool, true, false, ◌≡◌, refl, ltb, if◌then◌else◌}
use Rattle.std.proofs.Common.{sym, ◌∙◌, ap, subst, arith, lt-ltb}
use Rattle.steps.specs.declared.map.Step.{Step}
use Rattle.steps.specs.declared.map.Target.{Target}
use Rattle.steps.specs.declared.map.Target.TheVariants.{One, All}
use Rattle.steps.specs.Map.{target_of}
use Rattle.part.specs.Step.{target_served, target_stored, part_served, part_stored}
use Rattle.part.proofs.Laws.Range.{step_accepted, bytes_accepted}
use Rattle.mixes.specs.Mix.{OfSome}
use Rattle.mixes.proofs.Laws.Apart.{Apart}
use Rattle.works.specs.Work.{Work, Reply, work_after, work_gives, reply_by, work_done, work_reply}
use Rattle.works.proofs.Laws.Work.{work_kept, work_unmoved, work_commute}
use Rattle.works.proofs.Laws.Op.{op_work, op_after, op_reply}
use Rattle.independent.specs.Statement.{State, Accepted, OfChannel, SparesPreset, preset_written, owner_of, the_part}
use Rattle.independent.specs.Tasks.{Task, TaskOf, TaskSparesPreset, after_task, reply_to, the_bench}
use Rattle.independent.specs.Tasks.Task.{step, work}

-- on accepted states the task t is a work of channel c
record IsWork (t : Task) (c : ℕ) : Type 0 where
  w : Work
  does : (s : State) → Accepted s → after_task s t ≡ work_after s c w
  says : (s : State) → Accepted s → reply_to s t ≡ reply_by c (work_gives s c w)

-- an access or an event that does not write to PRESET is, a step of the whole part is of no channel
step_is_work : (a : Step) (t : Target) → target_of a ≡ t → preset_written t ≡ false → owner_of t < 3 → IsWork (step a) (owner_of t)
unfolding part_served part_stored target_served target_stored
step_is_work a (One op c) is calm h = record {
  w = op_work c op calm;
  does = λ s g. (rw (step_accepted s.part s.memory a g, bytes_accepted s.part s.memory a g, is)) ∙ op_after s c op calm;
  says = λ s g. (rw (step_accepted s.part s.memory a g, is)) ∙ op_reply s c op calm;
}
step_is_work a (All t) is calm h = absurd (omega arith)

-- the call of a work is that work, of a channel that there is
call_is_work : (c : ℕ) (w : Work) (b : Bool) → ltb c 3 ≡ b → (if b then c else 3) < 3 → IsWork (work c w) (if b then c else 3)
unfolding work_done work_reply
call_is_work c w true e h = record { w = w; does = λ s g. rw (g, e); says = λ s g. rw (g, e) }
call_is_work c w false e h = absurd (omega arith)

-- a task that may be mixed
abbrev MayTask : Task → Type 0
MayTask t = OfSome the_bench t × TaskSparesPreset t

is_work : (t : Task) → MayTask t → IsWork t (the_bench.owner t)
is_work (step a) h = step_is_work a (target_of a) refl h.1 h.0
is_work (work c w) h = call_is_work c w (ltb c 3) refl h.0

kept : (s : State) (a : Task) (g : Accepted s) (h : MayTask a) → Accepted (after_task s a)
kept s a g h = let x = is_work a h in subst Accepted (sym (x.does s g)) (work_kept s g (the_bench.owner a) x.w h.0)

pub bench_apart : Apart the_bench Accepted (λ t. OfSome the_bench t × TaskSparesPreset t)
bench_apart = record {
  kept = kept;
  unmoved = λ s a b g h i ne.
      let x = is_work a h in
      let y = is_work b i in
      let c = the_bench.owner a in
      let d = the_bench.owner b in
      x.says (after_task s b) (kept s b g i)
      ∙ ap (λ (u : State). reply_by c (work_gives u c x.w)) (y.does s g)
      ∙ ap (reply_by c) (work_unmoved s g c d x.w y.w i.0 (λ e. ne (sym e)))
      ∙ sym (x.says s g);
  commute = λ s a b g h i ne.
      let x = is_work a h in
      let y = is_work b i in
      let c = the_bench.owner a in
      let d = the_bench.owner b in
      y.does (after_task s a) (kept s a g h)
      ∙ ap (λ (u : State). work_after u d y.w) (x.does s g)
      ∙ work_commute s g c d x.w y.w h.0 i.0 ne
      ∙ sym (ap (λ (u : State). work_after u c x.w) (y.does s g))
      ∙ sym (x.does (after_task s b) (kept s b g i));
}

-- and so the part's steps, which are tasks
pub part_apart : Apart the_part Accepted (λ a. OfSome the_part a × SparesPreset a)
part_apart = record {
  kept = λ s a g h. bench_apart.kept s (step a) g h;
  unmoved = λ s a b g h i ne. ap (λ (r : Reply). r.answer) (bench_apart.unmoved s (step a) (step b) g h i ne);
  commute = λ s a b g h i ne. bench_apart.commute s (step a) (step b) g h i ne;
}

-- ---- a step of channel c is one of those that the machine counts as channel c's
pub step_of : (c : ℕ) (a : Step) → c < 3 → OfChannel c a → the_part.owner a ≡ c
step_of c a h x = ap owner_of x.is

pub task_of : (c : ℕ) (t : Task) → c < 3 → TaskOf c t → the_bench.owner t ≡ c
task_of c (step a) h x = step_of c a h x
task_of c (work d w) h x = rw (x, lt-ltb _ _ h)
