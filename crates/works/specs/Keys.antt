-- Which steps write to a PRESET.
use Rattle.std.specs.Prelude.{ℕ, Bool, false, Option, Some, None}
use Rattle.rules.specs.declared.registers.Register.{Register}
use Rattle.rules.specs.Access.{preset_of}
use Rattle.rules.specs.Registers.{place_of}
use Rattle.steps.specs.declared.map.Op.{Op}
use Rattle.steps.specs.declared.map.Op.TheVariants.{Write, Read, Wire}

-- a write to the PRESET of channel c: CFh, DFh or EFh
abbrev pub preset_at : Option Register → Bool
preset_at (Some reg) = preset_of reg
preset_at None = false

abbrev pub writes_preset : ℕ → Op → Bool
writes_preset c (Write a v) = preset_at (place_of c a)
writes_preset c (Read a) = false
writes_preset c (Wire e) = false
