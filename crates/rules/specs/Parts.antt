-- Document 02, request Three: the two parts, and the kinds of their channels.
use Rattle.std.specs.Prelude.{ℕ, ◌+◌, ◌*◌, ◌/◌, ◌%◌, Bool, true, false}
use Rattle.rules.specs.declared.parts.Kind.{Kind}
use Rattle.rules.specs.declared.parts.Kind.TheVariants.{Fm, Ufm}
use Rattle.rules.specs.declared.parts.Straps.{Straps}
use Rattle.rules.specs.declared.parts.Device.{Device}
use Rattle.rules.specs.declared.parts.Device.TheVariants.{Pca9663, Pcu9669}

-- Fm+, or Ultra Fast-mode (UFm): a channel that only sends, and nobody acknowledges
abbrev pub is_fm : Kind → Bool
is_fm Fm = true
is_fm Ufm = false

-- what the hardware reset chose, of a channel of this kind
abbrev pub strapped : Kind → Straps
strapped k = record { kind = k }

-- Channel 0 stays as it is, Fm+. Channels 1 and 2 are Ultra Fast-mode
abbrev pub other_kind : Device → Kind
other_kind Pca9663 = Fm
other_kind Pcu9669 = Ufm

-- the part whose channels 1 and 2 are of this kind
abbrev pub device_by : Kind → Device
device_by Fm = Pca9663
device_by Ufm = Pcu9669

-- DEVICE_ID is E9h
abbrev pub device_id : Device → ℕ
device_id Pca9663 = 0x63
device_id Pcu9669 = 0xE9

-- INTMSK bits 5 and 4 have no effect on a UFm channel: what is left of it
abbrev pub heeded : Kind → ℕ → ℕ
heeded Fm mask = mask
heeded Ufm mask = mask / 64 * 64 + mask % 16
