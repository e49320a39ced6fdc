-- Words for the record of a channel: its head or a table replaced, the reset values, and what a step answers and leaves.
use Rattle.std.specs.Prelude.{ℕ, List, eqb, get_or, replicate, if◌then◌else◌}
use Rattle.rules.specs.Numbers.{buffer_size, done}
use Rattle.rules.specs.declared.parts.Straps.{Straps}
use Rattle.head.specs.declared.state.Answer.{Answer}
use Rattle.head.specs.declared.state.Head.{Head}
use Rattle.head.specs.State.{Headed, fresh_head, refused}
use Rattle.channel.specs.declared.state.Channel.{Channel}
use Rattle.channel.specs.declared.state.Stepped.{Stepped}

-- ---- the channel with its head or one table replaced
abbrev pub with_head : Channel → Head → Channel
with_head c h = record { head = h; slatable = c.slatable; tranconfig = c.tranconfig; status = c.status; bytecount = c.bytecount }

abbrev pub with_sla : Channel → List ℕ → Channel
with_sla c l = record { head = c.head; slatable = l; tranconfig = c.tranconfig; status = c.status; bytecount = c.bytecount }

abbrev pub with_conf : Channel → List ℕ → Channel
with_conf c l = record { head = c.head; slatable = c.slatable; tranconfig = l; status = c.status; bytecount = c.bytecount }

abbrev pub with_status : Channel → List ℕ → Channel
with_status c l = record { head = c.head; slatable = c.slatable; tranconfig = c.tranconfig; status = l; bytecount = c.bytecount }

abbrev pub with_counts : Channel → List ℕ → Channel
with_counts c l = record { head = c.head; slatable = c.slatable; tranconfig = c.tranconfig; status = c.status; bytecount = l }

-- ---- the reset values

-- 4,352 zeros
unfoldable pub zeros : List ℕ
zeros = replicate buffer_size 0

abbrev pub fresh : Straps → Channel
fresh x = record { head = fresh_head x; slatable = replicate 64 0; tranconfig = replicate 65 0; status = replicate 64 0; bytecount = replicate 64 0 }

-- ---- what a step answers, where only the head changes: what the head comes to, of a channel with these tables
abbrev pub on : Channel → Headed → Stepped
on c r = record { channel = with_head c r.head; answer = r.answer }

-- a step that comes to this channel and answers this
abbrev pub stepped : Channel → Answer → Stepped
stepped c a = record { channel = c; answer = a }

-- ---- what a step leaves: the record with its answer, and the channel's bytes
pub record Served : Type 0 where
  pub stepped : Stepped
  pub bytes : List ℕ

-- a step that leaves these bytes: those before, where none is changed
abbrev pub leaving : List ℕ → Stepped → Served
leaving m s = record { stepped = s; bytes = m }

-- refused by a number that is not 0, and otherwise done
unfoldable pub guarded : ℕ → Channel → List ℕ → Served → Served
guarded n c m d = if eqb n done then d else leaving m (on c (refused c.head n))

-- ---- the count, entry 0 of TRANCONFIG
abbrev pub count_of : Channel → ℕ
count_of c = get_or c.tranconfig 0 0
