-- REQUEST THREE (document 02): the part is chosen at hardware reset and kept by other resets; on a UFm channel STATUS uses only its two low bits, and INTMSK bits 5
-- and 4 have no effect. A reader has to believe this page, the page of what nobody answered (crate channel, specs/Unanswered.antt), `heeded` and `device_by` (crate
-- rules, specs/Parts.antt), and the rules of a step that the contract of `Part::step` cites (crate part, specs/Step.antt). proofs/Theorem.antt says what is proved; the
-- last line of each statement there and all of proofs/Laws/ are proof.
use Rattle.std.specs.Prelude.{ℕ, ◌<◌, Bool, true, false, List, [], ◌∷◌, ◌≡◌, Option, Some, None}
use Rattle.rules.specs.declared.parts.Device.{Device}
use Rattle.rules.specs.declared.parts.Kind.TheVariants.{Ufm}
use Rattle.rules.specs.declared.registers.Register.{Register}
use Rattle.rules.specs.declared.registers.Register.TheVariants.{Status, Control, Chstatus, Intmsk, Slatable, Tranconfig, Data, Transel, Tranofs, Bytecount, Setting, Preset}
use Rattle.rules.specs.Parts.{heeded}
use Rattle.rules.specs.Registers.{place_of}
use Rattle.steps.specs.declared.map.Op.TheVariants.{Write as WriteOp, Read as ReadOp, Wire as WireOp}
use Rattle.steps.specs.declared.map.Step.{Step}
use Rattle.steps.specs.declared.map.Step.TheVariants.{Write, Read, Wire, Trigger, Reset}
use Rattle.steps.specs.declared.map.Target.{Target}
use Rattle.steps.specs.declared.map.Target.TheVariants.{One, All}
use Rattle.steps.specs.declared.answer.PartAnswer.{PartAnswer}
use Rattle.steps.specs.Map.{target_of}
use Rattle.head.specs.Head.{kind_of, mask_to}
use Rattle.channel.specs.declared.state.Channel.{Channel}
use Rattle.channel.specs.State.{with_head}
use Rattle.channel.specs.Unanswered.{Unanswered}
use Rattle.part.specs.declared.state.Part.{Part}
use Rattle.part.specs.Registers.{interrupt_of}
use Rattle.part.specs.State.{chan, device_of}
use Rattle.independent.specs.Statement.{State, the_part}

-- ---- the part that was chosen

abbrev pub chosen_in : State → Device
chosen_in s = device_of s.part

-- the hardware reset
abbrev pub is_reset : Step → Bool
is_reset (Write a v) = false
is_reset (Read a) = false
is_reset (Wire c e) = false
is_reset (Trigger edge) = false
is_reset (Reset d) = true

-- ---- nobody ever answered a UFm channel of the part
abbrev pub NobodyAnswers : Part → Type 0
NobodyAnswers p = (c : ℕ) → c < 3 → kind_of (chan p c).head ≡ Ufm → Unanswered (chan p c)

-- ---- the same but for bits of INTMSK that are not heeded

-- a channel with INTMSK n
abbrev pub remasked : ℕ → Channel → Channel
remasked n c = with_head c (mask_to c.head n)

-- d is c but for bits of INTMSK that its kind doesn't heed: 5 and 4 of a UFm channel, none of an Fm+ one
pub record Alike (c d : Channel) : Type 0 where
  pub mask : ℕ
  pub is : d ≡ remasked mask c
  pub heeds : heeded (kind_of c.head) mask ≡ heeded (kind_of c.head) c.head.regs.intmsk

-- each of some channels
abbrev pub AllAlike : List Channel → List Channel → Type 0
AllAlike [] [] = Unit {0}
AllAlike [] (d ∷ k) = ⊥
AllAlike (c ∷ l) [] = ⊥
AllAlike (c ∷ l) (d ∷ k) = Alike c d × AllAlike l k

-- of two parts, and of two states
pub record AlikeParts (p q : Part) : Type 0 where
  pub channels : AllAlike p.channels q.channels
  pub be : q.be ≡ p.be
  pub mask : q.mask ≡ p.mask
  pub key : q.key ≡ p.key

pub record AlikeStates (s t : State) : Type 0 where
  pub parts : AlikeParts s.part t.part
  pub memory : t.memory ≡ s.memory

-- ---- their own read-back: a read of INTMSK
abbrev pub is_intmsk : Register → Bool
is_intmsk (Status n) = false
is_intmsk Control = false
is_intmsk Chstatus = false
is_intmsk Intmsk = true
is_intmsk Slatable = false
is_intmsk Tranconfig = false
is_intmsk Data = false
is_intmsk Transel = false
is_intmsk Tranofs = false
is_intmsk Bytecount = false
is_intmsk (Setting n) = false
is_intmsk Preset = false

abbrev pub mask_at : Option Register → Bool
mask_at (Some reg) = is_intmsk reg
mask_at None = false

abbrev pub reads_mask : Target → Bool
reads_mask (One (WriteOp a v) c) = false
reads_mask (One (ReadOp a) c) = mask_at (place_of c a)
reads_mask (One (WireOp e) c) = false
reads_mask (All t) = false

-- the same answer, but for the value of that read
pub record SameAnswer (readback : Bool) (r q : PartAnswer) : Type 0 where
  pub number : q.number ≡ r.number
  pub actions : q.actions ≡ r.actions
  pub value : readback ≡ false → q.value ≡ r.value

-- a step in two states: its answer, INT after it, and the states that it leaves
pub record SameStep (s t : State) (a : Step) : Type 0 where
  pub answer : SameAnswer (reads_mask (target_of a)) (the_part.answer s a) (the_part.answer t a)
  pub level : interrupt_of (the_part.after t a).part ≡ interrupt_of (the_part.after s a).part
  pub states : AlikeStates (the_part.after s a) (the_part.after t a)

-- and each step of a run
abbrev pub SameRun : State → State → List Step → Type 0
SameRun s t [] = Unit {0}
SameRun s t (a ∷ l) = SameStep s t a × SameRun (the_part.after s a) (the_part.after t a) l
