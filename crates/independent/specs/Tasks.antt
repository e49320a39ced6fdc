-- DEMAND 3 over every step of a channel: accesses and events, and the works that carry a buffer of their own. What a work is, and what its call does to
-- the part, is said in crate works, specs/Work.antt.
use Rattle.std.specs.Prelude.{ℕ, [], ◌≡◌, ltb, if◌then◌else◌}
use Rattle.steps.specs.declared.map.Step.{Step}
use Rattle.mixes.specs.Mix.{Machine}
use Rattle.works.specs.Work.{Work, Reply, work_done, work_reply}
use Rattle.independent.specs.Statement.{State, OfChannel, SparesPreset, the_part}

-- a task: a step of the part, or the call of a work of channel c, which holds what the work's buffer holds at the call
pub data Task : Type 0 where
  step : Step → Task
  work : ℕ → Work → Task

-- a reply is an answer, and what the buffer holds after the call; a step of the part has none
abbrev pub reply_to : State → Task → Reply
reply_to s (step a) = record { answer = the_part.answer s a; out = [] }
reply_to s (work c w) = work_reply s c w

abbrev pub after_task : State → Task → State
after_task s (step a) = the_part.after s a
after_task s (work c w) = work_done s c w

-- the channel that a task is of, and 3 where it is of none
abbrev pub owner_of_task : Task → ℕ
owner_of_task (step a) = the_part.owner a
owner_of_task (work c w) = if ltb c 3 then c else 3

-- the part as a machine of tasks
abbrev pub the_bench : Machine State Task Reply
the_bench = record { answer = reply_to; after = after_task; owner = owner_of_task }

-- a task of channel c
abbrev pub TaskOf : ℕ → Task → Type 0
TaskOf c (step a) = OfChannel c a
TaskOf c (work d w) = d ≡ c

-- it does not write to a PRESET, as no work does
abbrev pub TaskSparesPreset : Task → Type 0
TaskSparesPreset (step a) = SparesPreset a
TaskSparesPreset (work c w) = Unit {0}
