-- Document 01, 'Numbers that an answer carries' and 'Table accesses': what a read and a write of each register do, CONTROL, and the reset key.
use Rattle.std.specs.Prelude.{ℕ, List, get_or, set, if◌then◌else◌}
use Rattle.rules.specs.declared.registers.Command.{Command}
use Rattle.rules.specs.declared.registers.Register.{Register}
use Rattle.rules.specs.declared.registers.Register.TheVariants.{Status, Control, Chstatus, Intmsk, Slatable, Tranconfig, Data, Transel, Tranofs, Bytecount, Setting, Preset}
use Rattle.rules.specs.Numbers.{past_buffer}
use Rattle.rules.specs.Registers.{command_of, chstatus_value, mask_kept}
use Rattle.rules.specs.Access.{overrun_of, preset_of, key_after, resets_of}
use Rattle.sequence.specs.declared.wires.Ask.{Ask}
use Rattle.sequence.specs.declared.wires.Ask.TheVariants.{Nothing, Overrun, Begin, Wait, Sto, Seq, Leave}
use Rattle.sequence.specs.declared.wires.Ending.TheVariants.{Sd}
use Rattle.sequence.specs.Wires.{ask_of}
use Rattle.sequence.specs.Walk.{no_flags}
use Rattle.head.specs.State.{fresh_head, plain, refused, replied, with_settings, with_flags, with_key}
use Rattle.head.specs.Head.{ended_by, waits, sto_taken, seq_taken, sla_next, conf_next, data_next, count_next, mask_to}
use Rattle.head.specs.Access.{setting_of, setting_set, read_refusal, control_of, data_place, te_after, moded, pointed, refusal_of, selected, offset}
use Rattle.channel.specs.declared.state.Channel.{Channel}
use Rattle.channel.specs.declared.state.Stepped.{Stepped}
use Rattle.channel.specs.State.{Served, fresh, zeros, on, leaving, guarded, with_head, with_sla, with_conf}
use Rattle.channel.specs.Wires.{begun}

-- ---- reads

-- a table access moves that table's pointer by one; reading CHSTATUS clears it; PRESET reads 00h
unfoldable pub read_by : Channel → List ℕ → Register → Stepped
read_by c m (Status n) = on c (replied c.head (get_or c.status n 0))
read_by c m Control = on c (replied c.head (control_of c.head))
read_by c m Chstatus = on c (replied (with_flags c.head no_flags) (chstatus_value c.head.flags))
read_by c m Intmsk = on c (replied c.head c.head.regs.intmsk)
read_by c m Slatable = on c (replied (sla_next c.head) (get_or c.slatable c.head.ptrs.sla 0))
read_by c m Tranconfig = on c (replied (conf_next c.head) (get_or c.tranconfig c.head.ptrs.conf 0))
read_by c m Data = on c (replied (data_next c.head) (get_or m c.head.ptrs.buf 0))
read_by c m Transel = on c (replied c.head c.head.regs.transel)
read_by c m Tranofs = on c (replied c.head c.head.regs.tranofs)
read_by c m Bytecount = on c (replied (count_next c.head) (get_or c.bytecount c.head.ptrs.count 0))
read_by c m (Setting n) = on c (replied c.head (setting_of c.head.settings n))
read_by c m Preset = on c (plain c.head)

unfoldable pub read_of : Channel → List ℕ → Register → Served
read_of c m reg = guarded (read_refusal c.head.ptrs c.tranconfig reg) c m (leaving m (read_by c m reg))

-- ---- a write to CONTROL

-- a frame or Waiting begins, a stop is recorded, or Waiting is left with SD and FLD
unfoldable pub asked : Channel → Ask → Stepped
asked c Nothing = on c (plain c.head)
asked c Overrun = on c (refused c.head past_buffer)
asked c Begin = begun c
asked c Wait = on c (plain (waits c.head))
asked c Sto = on c (plain (sto_taken c.head))
asked c Seq = on c (plain (seq_taken c.head))
asked c Leave = on c (plain (ended_by c.head Sd))

-- CONTROL writes apply TP and TE, pointer resets, then the rest
unfoldable pub controlled : Channel → Command → Stepped
controlled c k =
    let h = c.head in
    let place = data_place h c.tranconfig in
    asked (with_head c (pointed (moded h k) k place)) (ask_of h.walk.phase k (te_after h k) (overrun_of k.aiptrrst place))

-- ---- writes

-- a table access moves that table's pointer by one; DATA stores the byte at its pointer
unfoldable pub written_by : Channel → List ℕ → Register → ℕ → Served
written_by c m (Status n) v = leaving m (on c (plain c.head))
written_by c m Control v = leaving m (controlled c (command_of v))
written_by c m Chstatus v = leaving m (on c (plain c.head))
written_by c m Intmsk v = leaving m (on c (plain (mask_to c.head (mask_kept v))))
written_by c m Slatable v = leaving m (on (with_sla c (set c.slatable c.head.ptrs.sla v)) (plain (sla_next c.head)))
written_by c m Tranconfig v = leaving m (on (with_conf c (set c.tranconfig c.head.ptrs.conf v)) (plain (conf_next c.head)))
written_by c m Data v = leaving (set m c.head.ptrs.buf v) (on c (plain (data_next c.head)))
written_by c m Transel v = leaving m (on c (plain (selected c.head c.tranconfig v)))
written_by c m Tranofs v = leaving m (on c (plain (offset c.head c.tranconfig v)))
written_by c m Bytecount v = leaving m (on c (plain c.head))
written_by c m (Setting n) v = leaving m (on c (plain (with_settings c.head (setting_set c.head.settings n v))))
written_by c m Preset v = leaving m (on c (plain c.head))

unfoldable pub write_of : Channel → List ℕ → Register → ℕ → Served
write_of c m reg v = guarded (refusal_of c.head c.tranconfig reg v) c m (written_by c m reg v)

-- ---- the key: A5h at PRESET is kept, and then 5Ah resets the channel, whose kind stays, and its 4,352 bytes; any other write at its addresses, refused or not, forgets the A5h

abbrev pub keyed : Channel → Register → ℕ → Channel
keyed c reg v = with_head c (with_key c.head (key_after (preset_of reg) v))

unfoldable pub put_of : Channel → List ℕ → Register → ℕ → Served
put_of c m reg v =
    if resets_of (preset_of reg) v c.head.key then leaving zeros (on (fresh c.head.straps) (plain (fresh_head c.head.straps))) else write_of (keyed c reg v) m reg v
