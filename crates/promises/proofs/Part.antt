-- No second outcome of what crate part defines, and computes by a private function, as a part of one, or not at all.
use Rattle.std.specs.Prelude.{ℕ, Bool, ◌≡◌}
use Rattle.rules.specs.declared.parts.Device.{Device}
use Rattle.rules.specs.declared.wires.Edge.{Edge}
use Rattle.steps.specs.declared.map.Target.{Target}
use Rattle.channel.specs.declared.state.Channel.{Channel}
use Rattle.channel.specs.declared.state.Stepped.{Stepped}
use Rattle.part.specs.declared.state.Part.{Part}
use Rattle.part.specs.declared.state.PartStepped.{PartStepped}
use Rattle.part.specs.State.{device_of, with_be, with_mask, with_key}
use Rattle.part.specs.Registers.{pending_at, active_at}
use Rattle.part.specs.Quiet.{keyed_of, unarmed_of}
use Rattle.part.specs.Step.{one_told, one_after, trigger_step, forgetting}
use Rattle.promises.specs.Promise.{Once, no_second}

pub pending_at_once : (self : Part) (c : ℕ) → Once Bool (λ r. r ≡ pending_at self c)
pending_at_once self c = no_second (λ r h. h)

pub active_at_once : (self : Part) (c : ℕ) → Once Bool (λ r. r ≡ active_at self c)
active_at_once self c = no_second (λ r h. h)

pub device_once : (self : Part) → Once Device (λ r. r ≡ device_of self)
device_once self = no_second (λ r h. h)

pub with_be_once : (self : Part) (be : Bool) → Once Part (λ r. r ≡ with_be self be)
with_be_once self be = no_second (λ r h. h)

pub with_mask_once : (self : Part) (mask : ℕ) → Once Part (λ r. r ≡ with_mask self mask)
with_mask_once self mask = no_second (λ r h. h)

pub with_key_once : (self : Part) (key : Bool) → Once Part (λ r. r ≡ with_key self key)
with_key_once self key = no_second (λ r h. h)

pub forget_once : (self : Part) (t : Target) → Once Part (λ r. r ≡ forgetting t self)
forget_once self t = no_second (λ r h. h)

pub keyed_once : (self : Part) → Once Bool (λ r. r ≡ keyed_of self)
keyed_once self = no_second (λ r h. h)

pub unarmed_once : (self : Part) → Once Bool (λ r. r ≡ unarmed_of self)
unarmed_once self = no_second (λ r h. h)

pub one_told_once : (self : Part) (c : ℕ) (r : Stepped) → Once PartStepped (λ s. s ≡ one_told self c r)
one_told_once self c r = no_second (λ s h. h)

pub store_once : (self : Part) (c : ℕ) (x : Channel) (be : Bool) → Once Part (λ s. s ≡ one_after self c x be)
store_once self c x be = no_second (λ s h. h)

pub edges_told_once : (self : Part) (edge : Edge) → Once PartStepped (λ r. r ≡ trigger_step self edge)
edges_told_once self edge = no_second (λ r h. h)
