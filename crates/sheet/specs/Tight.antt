-- Request One's bound can't be lowered: the frame of line 6 of the bench sheet, with its STOP, takes 4 events, and its count plus its summed lengths plus one is
-- 1 + 2 + 1. The checker computes it.
use Rattle.std.specs.Prelude.{List, [], ◌∷◌}
use Rattle.rules.specs.declared.wires.Event.TheVariants.{Ninth, Byte, Stop}
use Rattle.rules.specs.declared.wires.Level.TheVariants.{Low}
use Rattle.steps.specs.declared.map.Step.{Step}
use Rattle.steps.specs.declared.map.Step.TheVariants.{Write, Wire}
use Rattle.steps.specs.declared.answer.PartAnswer.{PartAnswer}
use Rattle.steps.specs.Map.{target_of}
use Rattle.rules.specs.declared.parts.Device.TheVariants.{Pca9663}
use Rattle.independent.specs.Keys.{at_reset}
use Rattle.mixes.specs.Mix.{Machine, ends}
use Rattle.works.specs.State.{State}
use Rattle.frames.specs.Statement.{frame_of}
use Rattle.sheet.specs.Model.{Model}

-- a model as a machine of which request One speaks; `the_part` of Model.antt is one with which the checker can compute
abbrev pub machine : Model → Machine State Step PartAnswer
machine model = record { answer = model.answer; after = model.after; owner = λ _. 3 }

-- read 41h, length 2, begun by STA
abbrev pub opened : Model → State
opened model = ends (machine model) (at_reset Pca9663) (Write 0xC4 1 ∷ Write 0xC4 2 ∷ Write 0xC3 0x41 ∷ Write 0xC0 0x40 ∷ [])

abbrev pub frame : Model → List Step
frame model = frame_of (machine model) target_of 0 (opened model) (Wire 0 (Ninth Low) ∷ Wire 0 (Byte 0xB1) ∷ Wire 0 (Byte 0xB2) ∷ Wire 0 Stop ∷ [])
