-- DEMAND 3 and request One, of script lines. Demand 3: any mix of three channels' lines that do not write to a PRESET, against list 0, then 1, then 2; and so any such lines of channels, in any order. `Independent` says it
-- of the state, of INT at the end, and of each line's answer. Numbers of steps and INT after a single line depend on the order.
use Rattle.std.specs.Prelude.{ℕ, ◌<◌, ◌≤◌, true, List, [], ◌∷◌, ◌≡◌, refl, length}
use Rattle.laws.specs.Lists.{All}
use Rattle.mixes.specs.Mix.{Mix, OfSome, steps_of, ends}
use Rattle.independent.specs.Statement.{State, Accepted, Independent}
use Rattle.independent.proofs.Laws.Mixed.{mixed, any_order}
use Rattle.frames.specs.Deeds.{asks_by}
use Rattle.frames.specs.Wire.{spent, faults}
use Rattle.frames.specs.Statement.{channel_of, bound_of, Begun, log_of, frame_of, Frame, Begins}
use Rattle.frames.proofs.Theorem.{frames, frame_bound, begins}
use Rattle.runner.specs.Run.{the_script, line_aim, LineSparesPreset}
use Rattle.runner.specs.Text.{Desk, after_all, after_one}
use Rattle.runner.proofs.Laws.Run.{script_apart, script_follows}

-- a line of channel c, for c below 3: it can be read, and its step is channel c's
abbrev pub LineOf : ℕ → List ℕ → Type 0
LineOf c l = the_script.owner l ≡ c

pub mixed_lines : (s : State) → Accepted s → (k l n m : List (List ℕ)) → Mix (List ℕ) k l n m → All (LineOf 0) k → All (LineOf 1) l → All (LineOf 2) n
    → All LineSparesPreset k → All LineSparesPreset l → All LineSparesPreset n → Independent the_script s k l n m
mixed_lines = mixed the_script LineSparesPreset script_apart LineOf (λ c l h e. e)

pub lines_in_any_order : (s : State) → Accepted s → (m : List (List ℕ)) → All (OfSome the_script) m → All LineSparesPreset m
    → Independent the_script s (steps_of the_script 0 m) (steps_of the_script 1 m) (steps_of the_script 2 m) m
lines_in_any_order = any_order the_script LineSparesPreset script_apart

-- REQUEST ONE, of script lines: what is promised of a frame holds whatever lines follow its begin, those that can't be read too; and a line that asks for a frame
-- leads where a step does
pub frames_of_lines : (c : ℕ) (s : State) → Begun c s → (m : List (List ℕ)) → Frame the_script line_aim c s m
frames_of_lines = frames the_script line_aim script_follows

pub bound_of_lines : (c : ℕ) (s : State) → Begun c s → (m : List (List ℕ)) → faults (log_of the_script line_aim c s (frame_of the_script line_aim c s m)) ≡ 0
    → spent (log_of the_script line_aim c s (frame_of the_script line_aim c s m)) ≤ bound_of (channel_of c s)
bound_of_lines = frame_bound the_script line_aim script_follows

pub lines_begin : (c : ℕ) (s : State) → Accepted s → c < 3 → length s.part.channels ≡ 3 → (l : List ℕ) → asks_by c s.part (line_aim l) ≡ true → Begins the_script line_aim c s l
lines_begin = begins the_script line_aim script_follows

-- the script's text goes by this run: its answers by definition (`reply_to`), its states so
pub same_run : (d : Desk) (m : List (List ℕ)) → (after_all d m).state ≡ ends the_script d.state m
unfolding after_all after_one
same_run d [] = refl
same_run d (l ∷ m) = same_run (after_one d l) m
