-- DEMAND 3, which document 01 names and does not word: the three channels do not disturb each other. From any accepted state, any mix of three
-- channels' step lists (each in its own order, no whole-part step) gives each step the same answer and action, and ends in the same state, memory
-- and interrupt level, as list 0, then 1, then 2. Document 02, request Two: no list writes to a PRESET, and no channel's key is pending at the start.
-- A reader has to believe this page, the pages of states and of writes to a PRESET (crate works, specs/State.antt, specs/Keys.antt), the page of mixes and runs (crate mixes, specs/Mix.antt), and the
-- rules of a step that the contract of `Part::step` cites (crate part, specs/Step.antt: part_step, part_bytes); for steps with a buffer of their own also
-- Tasks.antt and the page of works (crate works, specs/Work.antt). proofs/Theorem.antt says what is proved, of every state, mix and order; the last line of each
-- statement there and all of proofs/Laws/ are proof.
use Rattle.std.specs.Prelude.{ℕ, Bool, false, List, ◌++◌, ◌≡◌}
use Rattle.steps.specs.declared.map.Op.{Op}
use Rattle.steps.specs.declared.map.Step.{Step}
use Rattle.steps.specs.declared.map.Target.{Target}
use Rattle.steps.specs.declared.map.Target.TheVariants.{One, All}
use Rattle.steps.specs.declared.answer.PartAnswer.{PartAnswer}
use Rattle.steps.specs.Map.{target_of}
use Rattle.laws.specs.Lists.{All as Each}
use Rattle.part.specs.Registers.{interrupt_of}
use Rattle.part.specs.State.{chan}
use Rattle.part.specs.Step.{part_step, part_bytes}
use Rattle.mixes.specs.Mix.{Mix, Machine, ends, log, only}
use Rattle.works.specs.Keys.{writes_preset}
pub use Rattle.works.specs.State.{State, Accepted}

-- a step of channel c; there is none where the step is one of the whole part
pub record OfChannel (c : ℕ) (a : Step) : Type 0 where
  pub op : Op
  pub is : target_of a ≡ One op c

-- it writes to the PRESET of its channel
abbrev pub preset_written : Target → Bool
preset_written (One op c) = writes_preset c op
preset_written (All t) = false

-- it does not
abbrev pub SparesPreset : Step → Type 0
SparesPreset a = preset_written (target_of a) ≡ false

-- no list writes to a PRESET
abbrev pub NoPreset : List Step → Type 0
NoPreset l = Each SparesPreset l

-- no channel's key is pending; CTRLPRESET's may be
abbrev pub NoChannelKey : State → Type 0
NoChannelKey s = (c : ℕ) → (chan s.part c).head.key ≡ false

-- the channel that a step is of, and 3 where it is one of the whole part
abbrev pub owner_of : Target → ℕ
owner_of (One op c) = c
owner_of (All t) = 3

-- the part as a machine, by the rules that its step is proved to follow; an answer is a number, a value and an action for each channel
abbrev pub the_part : Machine State Step PartAnswer
the_part = record {
  answer = λ s a. (part_step s.part s.memory a).answer;
  after = λ s a. record { part = (part_step s.part s.memory a).part; memory = part_bytes s.part s.memory a };
  owner = λ a. owner_of (target_of a);
}

-- on a machine M (`the_part`; `the_bench` of Tasks.antt; `the_script` of crate runner): m, which mixes the lists k, l and n of channels 0, 1 and 2, against k, then l, then n: the same
-- part and memory at the end (`state`), the same interrupt level, and for each step the same answer and action, said twice: each channel's own log is
-- the same (`answers`), and the log of the mixed run is a mix of the logs of the three lists, run one after another (`places`)
pub record Independent {A Ans : Type 0} (M : Machine State A Ans) (s : State) (k l n m : List A) : Type 0 where
  pub state : ends M s m ≡ ends M s (k ++ (l ++ n))
  pub level : interrupt_of (ends M s m).part ≡ interrupt_of (ends M s (k ++ (l ++ n))).part
  pub answers : (c : ℕ) → only M c (log M s m) ≡ only M c (log M s (k ++ (l ++ n)))
  pub places : Mix (A × Ans) (log M s k) (log M (ends M s k) l) (log M (ends M (ends M s k) l) n) (log M s m)
