-- REQUEST TWO (document 02): which reset keys are pending.
use Rattle.std.specs.Prelude.{ℕ, Bool, true, ◌≡◌, eqb, if◌then◌else◌}
use Rattle.rules.specs.declared.parts.Device.{Device}
use Rattle.part.specs.declared.state.Part.{Part}
use Rattle.part.specs.State.{chan, fresh_part, wiped}
use Rattle.works.specs.State.{State}

-- A5h was written to the PRESET of channel c, or for c 3 to CTRLPRESET, and is not forgotten
abbrev pub key_at : Part → ℕ → Bool
key_at p c = if eqb c 3 then p.key else (chan p c).head.key

-- at most one A5h is pending
abbrev pub AtMostOneKey : Part → Type 0
AtMostOneKey p = (c d : ℕ) → key_at p c ≡ true → key_at p d ≡ true → c ≡ d

-- the state after a hardware reset
abbrev pub at_reset : Device → State
at_reset d = record { part = fresh_part d; memory = wiped }
