-- DEMAND 3, proved: every accepted state, every list of steps of each channel that does not write to a PRESET, every mix of them; and so every such list of channels'
-- steps, in any order. And request Two: from reset at most one key is ever pending.
use Rattle.std.specs.Prelude.{List, [], ◌∷◌}
use Rattle.laws.specs.Lists.{All}
use Rattle.rules.specs.declared.parts.Device.{Device}
use Rattle.steps.specs.declared.map.Step.{Step}
use Rattle.mixes.specs.Mix.{Mix, OfSome, steps_of, ends}
use Rattle.independent.specs.Keys.{AtMostOneKey, at_reset}
use Rattle.independent.specs.Statement.{State, Accepted, OfChannel, SparesPreset, NoPreset, NoChannelKey, Independent, the_part}
use Rattle.independent.specs.Tasks.{Task, TaskOf, TaskSparesPreset, the_bench}
use Rattle.independent.proofs.Laws.Apart.{part_apart, bench_apart, step_of, task_of}
use Rattle.independent.proofs.Laws.Keys.{step_one_key, fresh-one_key}
use Rattle.independent.proofs.Laws.Mixed.{mixed, any_order}

-- of the part's steps, whatever keys are pending at the start: where no list writes to a PRESET, a write forgets them all in every order, and nothing else looks at
-- them
pub independent_with_keys : (s : State) → Accepted s → (k l n m : List Step) → Mix Step k l n m
    → All (OfChannel 0) k → All (OfChannel 1) l → All (OfChannel 2) n → NoPreset k → NoPreset l → NoPreset n → Independent the_part s k l n m
independent_with_keys = mixed the_part SparesPreset part_apart OfChannel step_of

-- the customer's sentence: no list writes to a PRESET, and no channel's key is pending at the start
pub independent : (s : State) → Accepted s → NoChannelKey s → (k l n m : List Step) → Mix Step k l n m
    → All (OfChannel 0) k → All (OfChannel 1) l → All (OfChannel 2) n → NoPreset k → NoPreset l → NoPreset n → Independent the_part s k l n m
independent s g _ = independent_with_keys s g

-- of every step of a channel, whatever buffer of its own it carries
pub independent_tasks : (s : State) → Accepted s → (k l n m : List Task) → Mix Task k l n m → All (TaskOf 0) k → All (TaskOf 1) l → All (TaskOf 2) n
    → All TaskSparesPreset k → All TaskSparesPreset l → All TaskSparesPreset n → Independent the_bench s k l n m
independent_tasks = mixed the_bench TaskSparesPreset bench_apart TaskOf task_of

-- no order is left out: any list without a step of the whole part or a write to a PRESET is a mix of its own three lists, and so does what those do in turn
pub in_any_order : (s : State) → Accepted s → (m : List Step) → All (OfSome the_part) m → NoPreset m
    → Independent the_part s (steps_of the_part 0 m) (steps_of the_part 1 m) (steps_of the_part 2 m) m
in_any_order = any_order the_part SparesPreset part_apart

pub in_any_order_tasks : (s : State) → Accepted s → (m : List Task) → All (OfSome the_bench) m → All TaskSparesPreset m
    → Independent the_bench s (steps_of the_bench 0 m) (steps_of the_bench 1 m) (steps_of the_bench 2 m) m
in_any_order_tasks = any_order the_bench TaskSparesPreset bench_apart

-- ---- REQUEST TWO: no step, of whatever kind, leads from at most one pending key to two; and so no run from reset does
pub one_key_kept : (s : State) (a : Step) → AtMostOneKey s.part → AtMostOneKey (the_part.after s a).part
one_key_kept s a h = step_one_key s.part s.memory a h

one_key_in : (s : State) (l : List Step) → AtMostOneKey s.part → AtMostOneKey (ends the_part s l).part
one_key_in s [] h = h
one_key_in s (a ∷ l) h = one_key_in (the_part.after s a) l (one_key_kept s a h)

pub one_key : (d : Device) (l : List Step) → AtMostOneKey (ends the_part (at_reset d) l).part
one_key d l = one_key_in (at_reset d) l (fresh-one_key d)
