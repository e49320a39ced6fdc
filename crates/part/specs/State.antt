-- Words for the record of the part: the reset state, what a step answers, the record with a part replaced, a channel's record and its window.
use Rattle.std.specs.Prelude.{ℕ, Bool, false, List, [], ◌∷◌, map, eqb, get_or, replicate, set, if◌then◌else◌}
use Rattle.laws.specs.Windows.{window_of, put_window_of}
use Rattle.rules.specs.declared.parts.Device.{Device}
use Rattle.rules.specs.declared.parts.Kind.TheVariants.{Fm}
use Rattle.rules.specs.Numbers.{buffer_size, memory_size, done}
use Rattle.rules.specs.Parts.{strapped, other_kind, device_by}
use Rattle.sequence.specs.Walk.{idle, no_flags}
use Rattle.rules.specs.declared.wires.Action.{Action}
use Rattle.steps.specs.declared.answer.PartAnswer.{PartAnswer}
use Rattle.steps.specs.Answer.{quiet}
use Rattle.head.specs.declared.state.Head.{Head}
use Rattle.head.specs.Head.{kind_of}
use Rattle.head.specs.State.{with_key as head_keyed}
use Rattle.channel.specs.declared.state.Channel.{Channel}
use Rattle.channel.specs.State.{fresh, with_head}
use Rattle.part.specs.declared.state.Part.{Part}
use Rattle.part.specs.declared.state.PartStepped.{PartStepped}

-- ---- the reset state

-- 13,056 zeros
unfoldable pub wiped : List ℕ
wiped = replicate memory_size 0

-- three channels after a reset, each of the part's own kind; CTRLSTATUS and CTRLINTMSK 00h; no key
abbrev pub fresh_part : Device → Part
fresh_part d = record {
  channels = fresh (strapped Fm) ∷ fresh (strapped (other_kind d)) ∷ fresh (strapped (other_kind d)) ∷ [];
  be = false;
  mask = 0;
  key = false;
}

-- ---- what a step gives: the part that it leaves, and its answer
abbrev pub given : Part → PartAnswer → PartStepped
given p a = record { part = p; answer = a }

-- ---- what a step answers: number, value, an action for each channel

abbrev pub told : Part → ℕ → ℕ → List Action → PartStepped
told p n v acts = given p (record { number = n; value = v; actions = acts })

-- only a read answered 0 carries a value, else it is 00h; every answer but 0 has no action
abbrev pub refused_part : Part → ℕ → PartStepped
refused_part p n = told p n 0 quiet

-- done, with no action
abbrev pub plain_part : Part → PartStepped
plain_part p = told p done 0 quiet

-- a read, with its value
abbrev pub replied_part : Part → ℕ → PartStepped
replied_part p v = told p done v quiet

-- ---- the record with one part replaced
abbrev pub with_be : Part → Bool → Part
with_be p b = record { channels = p.channels; be = b; mask = p.mask; key = p.key }

abbrev pub with_mask : Part → ℕ → Part
with_mask p n = record { channels = p.channels; be = p.be; mask = n; key = p.key }

abbrev pub with_key : Part → Bool → Part
with_key p k = record { channels = p.channels; be = p.be; mask = p.mask; key = k }

-- ---- channel c: its record, and its 4,352 bytes, from 4,352 times its number

-- what stands past the third channel, where nothing reads
abbrev pub blank_head : Head
blank_head = record {
  regs = record { intmsk = 0; transel = 0; tranofs = 0; tp = false; te = false };
  key = false;
  straps = strapped Fm;
  settings = record { framecnt = 0; refrate = 0; scll = 0; sclh = 0; mode = 0; timeout = 0 };
  ptrs = record { sla = 0; conf = 0; buf = 0; count = 0 };
  flags = no_flags;
  walk = idle;
}

abbrev pub blank : Channel
blank = record {
  head = blank_head;
  slatable = [];
  tranconfig = [];
  status = [];
  bytecount = [];
}

abbrev pub chan : Part → ℕ → Channel
chan p c = get_or p.channels c blank

-- the part that the hardware reset chose, by the kind of channel 1
abbrev pub device_of : Part → Device
device_of p = device_by (kind_of (chan p 1).head)

-- channel c's own 4,352 bytes, from 4,352 times its number
unfoldable pub window : ℕ → List ℕ → List ℕ
window c m = window_of buffer_size c m

-- the memory with l in the place of channel c's bytes, and every other byte as it was
unfoldable pub put_window : ℕ → List ℕ → List ℕ → List ℕ
put_window c l m = put_window_of buffer_size c l m

-- ---- the keys

-- a channel with no A5h pending
abbrev pub keyless : Channel → Channel
keyless c = with_head c (head_keyed c.head false)

-- f done to all but number c
abbrev pub all_but : {A : Type 0} → (A → A) → A → List A → ℕ → List A
all_but f d l c = set (map f l) c (get_or l c d)

-- every pending A5h forgotten but number c: channel c's, or for c 3 CTRLPRESET's
abbrev pub forgotten : Part → ℕ → Part
forgotten p c = record {
  channels = all_but keyless blank p.channels c;
  be = p.be;
  mask = p.mask;
  key = if eqb c 3 then p.key else false;
}
