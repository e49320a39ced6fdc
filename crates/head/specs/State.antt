-- Words for the head of a channel: a part of it replaced, the reset values, and what a step answers.
use Rattle.std.specs.Prelude.{ℕ, Bool, false, Result, Ok, Err}
use Rattle.rules.specs.declared.parts.Kind.{Kind}
use Rattle.rules.specs.declared.parts.Kind.TheVariants.{Fm, Ufm}
use Rattle.rules.specs.declared.parts.Straps.{Straps}
use Rattle.rules.specs.declared.state.Regs.{Regs}
use Rattle.rules.specs.declared.state.Flags.{Flags}
use Rattle.rules.specs.declared.state.Ptrs.{Ptrs}
use Rattle.rules.specs.declared.state.Walk.{Walk}
use Rattle.rules.specs.declared.numbers.Refusal.{Refusal}
use Rattle.rules.specs.Numbers.{done, refusal_number}
use Rattle.rules.specs.declared.wires.Action.{Action}
use Rattle.rules.specs.declared.wires.Action.TheVariants.{Nothing}
use Rattle.sequence.specs.Walk.{idle, no_flags}
use Rattle.head.specs.declared.state.Settings.{Settings}
use Rattle.head.specs.declared.state.Answer.{Answer}
use Rattle.head.specs.declared.state.Head.{Head}

-- ---- the head with one part replaced
abbrev pub with_regs : Head → Regs → Head
with_regs h x = record { regs = x; flags = h.flags; ptrs = h.ptrs; walk = h.walk; key = h.key; straps = h.straps; settings = h.settings }

abbrev pub with_flags : Head → Flags → Head
with_flags h x = record { regs = h.regs; flags = x; ptrs = h.ptrs; walk = h.walk; key = h.key; straps = h.straps; settings = h.settings }

abbrev pub with_ptrs : Head → Ptrs → Head
with_ptrs h x = record { regs = h.regs; flags = h.flags; ptrs = x; walk = h.walk; key = h.key; straps = h.straps; settings = h.settings }

abbrev pub with_walk : Head → Walk → Head
with_walk h x = record { regs = h.regs; flags = h.flags; ptrs = h.ptrs; walk = x; key = h.key; straps = h.straps; settings = h.settings }

-- the flags and the walk
abbrev pub with_state : Head → Flags → Walk → Head
with_state h f w = record { regs = h.regs; flags = f; ptrs = h.ptrs; walk = w; key = h.key; straps = h.straps; settings = h.settings }

abbrev pub with_key : Head → Bool → Head
with_key h x = record { regs = h.regs; flags = h.flags; ptrs = h.ptrs; walk = h.walk; key = x; straps = h.straps; settings = h.settings }

abbrev pub with_settings : Head → Settings → Head
with_settings h x = record { regs = h.regs; flags = h.flags; ptrs = h.ptrs; walk = h.walk; key = h.key; straps = h.straps; settings = x }

-- ---- the reset values

-- FRAMECNT 01h, REFRATE 00h, SCLL 5Eh, SCLH 3Fh, MODE 92h, TIMEOUT 00h. UFm (000, Table 3): +B SCLPER 20h, +C SDADLY 08h, +D MODE 83h, +E reserved 00h
abbrev pub settings_of : Kind → Settings
settings_of Fm = record { framecnt = 0x01; refrate = 0x00; scll = 0x5E; sclh = 0x3F; mode = 0x92; timeout = 0x00 }
settings_of Ufm = record { framecnt = 0x01; refrate = 0x00; scll = 0x20; sclh = 0x08; mode = 0x83; timeout = 0x00 }

-- all else 00h
abbrev pub fresh_head : Straps → Head
fresh_head x = record {
  regs = record { intmsk = 0; transel = 0; tranofs = 0; tp = false; te = false };
  flags = no_flags;
  ptrs = record { sla = 0; conf = 0; buf = 0; count = 0 };
  walk = idle;
  key = false;
  straps = x;
  settings = settings_of x.kind;
}

-- ---- what a step answers: number, value, action

abbrev pub answer_of : ℕ → ℕ → Action → Answer
answer_of n v a = record { number = n; value = v; action = a }

-- only a read answered 0 carries a value, else it is 00h; every answer but 0 has no action
abbrev pub numbered : ℕ → Answer
numbered n = answer_of n 0 Nothing

-- a read, with its value
abbrev pub valued : ℕ → Answer
valued v = answer_of done v Nothing

-- done, with an action
abbrev pub acting : Action → Answer
acting a = answer_of done 0 a

-- what answers: that, or the number of what refuses
abbrev pub answer_by : Result Answer Refusal → Answer
answer_by (Ok a) = a
answer_by (Err e) = numbered (refusal_number e)

-- ---- what a step makes of a head, and what it answers
pub record Headed : Type 0 where
  pub head : Head
  pub answer : Answer

abbrev pub headed : Head → Answer → Headed
headed h a = record { head = h; answer = a }

abbrev pub refused : Head → ℕ → Headed
refused h n = headed h (numbered n)

-- done, with no action
abbrev pub plain : Head → Headed
plain h = refused h done

abbrev pub replied : Head → ℕ → Headed
replied h v = headed h (valued v)

abbrev pub acted : Head → Action → Headed
acted h a = headed h (acting a)
