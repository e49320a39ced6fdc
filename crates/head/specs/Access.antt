-- Document 01, 'Numbers that an answer carries' and 'Table accesses', as far as they need no table, or TRANCONFIG alone: the settings, what refuses a read or
-- a write, and what CONTROL, TRANSEL and TRANOFS do to the head.
use Rattle.std.specs.Prelude.{ℕ, ◌+◌, Bool, List, eqb, if◌then◌else◌}
use Rattle.rules.specs.declared.registers.Command.{Command}
use Rattle.rules.specs.declared.state.Ptrs.{Ptrs}
use Rattle.rules.specs.declared.registers.Register.{Register}
use Rattle.rules.specs.declared.registers.Register.TheVariants.{Status, Control, Chstatus, Intmsk, Slatable, Tranconfig, Data, Transel, Tranofs, Bytecount, Setting, Preset}
use Rattle.rules.specs.Numbers.{done, read_only}
use Rattle.rules.specs.Registers.{active_of, control_value}
use Rattle.rules.specs.Tables.{start_of}
use Rattle.rules.specs.Access.{busy_refusal, past_refusal, place_refusal, sla_refusal, conf_refusal, spot_of, spot_refusal, data_refusal, sel_refusal}
use Rattle.rules.specs.Access.{kept_if, rewound, pointed_at}
use Rattle.head.specs.declared.state.Settings.{Settings}
use Rattle.head.specs.declared.state.Head.{Head}
use Rattle.head.specs.State.{with_ptrs}
use Rattle.head.specs.Head.{data_to, place_to, mode_to}

-- ---- settings 0 to 5: FRAMECNT, REFRATE, SCLL, SCLH, MODE and TIMEOUT
unfoldable pub setting_of : Settings → ℕ → ℕ
setting_of s n =
    if eqb n 0 then s.framecnt else
    (if eqb n 1 then s.refrate else
    (if eqb n 2 then s.scll else
    (if eqb n 3 then s.sclh else
    (if eqb n 4 then s.mode else s.timeout))))

-- v in the place of one of them
abbrev pub either_at : ℕ → ℕ → ℕ → ℕ → ℕ
either_at n k v old = if eqb n k then v else old

unfoldable pub setting_set : Settings → ℕ → ℕ → Settings
setting_set s n v = record {
  framecnt = either_at n 0 v s.framecnt;
  refrate = either_at n 1 v s.refrate;
  scll = either_at n 2 v s.scll;
  sclh = either_at n 3 v s.sclh;
  mode = either_at n 4 v s.mode;
  timeout = either_at n 5 v s.timeout;
}

-- ---- reads

-- no. 4 past SLATABLE's, TRANCONFIG's or BYTECOUNT's last entry; no. 5 for DATA at 4,352, and at or past the sum of the first count lengths
unfoldable pub read_refusal : Ptrs → List ℕ → Register → ℕ
read_refusal p lens (Status n) = done
read_refusal p lens Control = done
read_refusal p lens Chstatus = done
read_refusal p lens Intmsk = done
read_refusal p lens Slatable = past_refusal 63 p.sla
read_refusal p lens Tranconfig = past_refusal 64 p.conf
read_refusal p lens Data = spot_refusal (spot_of lens p.buf)
read_refusal p lens Transel = done
read_refusal p lens Tranofs = done
read_refusal p lens Bytecount = past_refusal 63 p.count
read_refusal p lens (Setting n) = done
read_refusal p lens Preset = done

-- CONTROL: recorded STOSEQ, STA (active), recorded STO, TP, TE
abbrev pub control_of : Head → ℕ
control_of h = control_value h.walk.seq (active_of h.walk.phase) h.walk.sto h.regs.tp h.regs.te

-- ---- a write to CONTROL

-- start plus TRANOFS
abbrev pub data_place : Head → List ℕ → ℕ
data_place h lens = start_of lens h.regs.transel + h.regs.tranofs

-- TE after the write: Idle only
abbrev pub te_after : Head → Command → Bool
te_after h k = kept_if (active_of h.walk.phase) h.regs.te k.te

-- TP and TE (Idle only)
abbrev pub moded : Head → Command → Head
moded h k = mode_to h (kept_if (active_of h.walk.phase) h.regs.tp k.tp) (te_after h k)

-- AIPTRRST zeroes the two table pointers and points DATA at its place; BPTRRST zeroes BYTECOUNT's
abbrev pub pointed : Head → Command → ℕ → Head
pointed h k place =
    with_ptrs h (record {
      sla = rewound k.aiptrrst h.ptrs.sla;
      conf = rewound k.aiptrrst h.ptrs.conf;
      buf = pointed_at k.aiptrrst place h.ptrs.buf;
      count = rewound k.bptrrst h.ptrs.count;
    })

-- ---- writes

-- checked in the order 2, 3, 4, 6, 5; CONTROL's no. 5 is in its own rule
unfoldable pub refusal_of : Head → List ℕ → Register → ℕ → ℕ
refusal_of h lens (Status n) v = read_only
refusal_of h lens Control v = done
refusal_of h lens Chstatus v = read_only
refusal_of h lens Intmsk v = done
refusal_of h lens Slatable v = sla_refusal h.walk.phase h.ptrs.sla
refusal_of h lens Tranconfig v = conf_refusal h.walk.phase h.ptrs.conf v
refusal_of h lens Data v = data_refusal h.walk.phase (spot_of lens h.ptrs.buf)
refusal_of h lens Transel v = sel_refusal lens v
refusal_of h lens Tranofs v = place_refusal (start_of lens h.regs.transel + v)
refusal_of h lens Bytecount v = read_only
refusal_of h lens (Setting n) v = busy_refusal h.walk.phase
refusal_of h lens Preset v = done

-- TRANSEL v stores it, zeroes TRANOFS and points at the start; TRANOFS o points at start plus o
abbrev pub selected : Head → List ℕ → ℕ → Head
selected h lens v = data_to (place_to h v 0) (start_of lens v)

abbrev pub offset : Head → List ℕ → ℕ → Head
offset h lens v = data_to (place_to h h.regs.transel v) (start_of lens h.regs.transel + v)
