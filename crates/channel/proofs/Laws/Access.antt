-- What an access that is not refused may rely on, and an access from its parts.
use Rattle.std.specs.Prelude.{length, Option, Some, Result, Ok, Err}
use mathlib.Core.List.{List}
use mathlib.Core.Bool.{Bool, true, false}
use mathlib.Core.Path.{◌≡◌, sym, ◌∙◌}
use Prim.Native.Nat.{ℕ, ◌<◌, ◌≤◌}
use native.Mathlib.Omega.{arith}
use borrow.Author.Rules.{rules}
use borrow.Author.Tests.{ne_eqb}
use Rattle.laws.specs.Cases.{pick_true, pick-false}
use Rattle.rules.specs.declared.registers.Register.{Register}
use Rattle.rules.specs.declared.state.Ptrs.{Ptrs}
use Rattle.rules.specs.declared.registers.Register.TheVariants.{Status, Slatable, Tranconfig, Data, Transel, Bytecount, Setting}
use Rattle.rules.specs.declared.numbers.Refusal.{Refusal}
use Rattle.rules.specs.Numbers.{buffer_size, refusal_number, number_of}
use Rattle.rules.proofs.Laws.Numbers.{refusal_positive}
use Rattle.rules.specs.Access.{preset_of, key_after, resets_of}
use Rattle.rules.proofs.Laws.Access.{not_past, spot_open, sla_open, conf_open, data_open, sel_open}
use Rattle.rules.specs.Facts.{Known}
use Rattle.channel.specs.declared.state.Channel.{Channel}
use Rattle.head.specs.declared.state.Head.{Head}
use Rattle.channel.specs.State.{Served, fresh, zeros, leaving, on, guarded, count_of, with_head}
use Rattle.head.specs.State.{fresh_head, plain, refused, with_key}
use Rattle.head.specs.Access.{read_refusal, refusal_of}
use Rattle.channel.specs.Access.{written_by, write_of, put_of}
use Rattle.channel.specs.Step.{write_at}
use Rattle.channel.specs.Facts.{Accepted}
use Rattle.channel.proofs.Laws.Range.{range_count, range_sel}

-- ---- a register of which there are several
pub known_status : (reg : Register) (n : ℕ) → Known reg → reg ≡ Status n → n < 64
known_status reg n h e = rw e at h

pub known_setting : (reg : Register) (n : ℕ) → Known reg → reg ≡ Setting n → n < 6
known_setting reg n h e = rw e at h

-- ---- a read
module _ (p : Ptrs) (lens : List ℕ) (reg : Register) (e : read_refusal p lens reg ≡ 0) where
  pub read_sla : reg ≡ Slatable → p.sla < 64
  unfolding read_refusal
  read_sla q = let h = not_past 63 p.sla (rw q at e) in omega arith

  pub read_conf : reg ≡ Tranconfig → p.conf < 65
  unfolding read_refusal
  read_conf q = let h = not_past 64 p.conf (rw q at e) in omega arith

  pub read_data : (m : List ℕ) → reg ≡ Data → length m ≡ buffer_size → p.buf < length m
  unfolding read_refusal
  read_data m q l = let h = spot_open lens p.buf (rw q at e) in omega arith

  pub read_count : reg ≡ Bytecount → p.count < 64
  unfolding read_refusal
  read_count q = let h = not_past 63 p.count (rw q at e) in omega arith

pub ruleset reads = (known_status, known_setting, read_sla, read_conf, read_data, read_count, rules)

-- ---- a write
module _ (h : Head) (lens : List ℕ) (reg : Register) (v : ℕ) (e : refusal_of h lens reg v ≡ 0) where
  pub write_sla : reg ≡ Slatable → h.ptrs.sla < 64
  unfolding refusal_of
  write_sla q = let g = sla_open h.walk.phase h.ptrs.sla (rw q at e) in omega arith

  pub write_conf : reg ≡ Tranconfig → h.ptrs.conf < 65
  unfolding refusal_of
  write_conf q = let g = conf_open h.walk.phase h.ptrs.conf v (rw q at e) in omega arith

  pub write_data : (m : List ℕ) → reg ≡ Data → length m ≡ buffer_size → h.ptrs.buf < length m
  unfolding refusal_of
  write_data m q l = let g = data_open h.walk.phase lens h.ptrs.buf (rw q at e) in omega arith

  pub write_sel : reg ≡ Transel → v ≤ 63
  unfolding refusal_of
  write_sel q = (sel_open (lens) v (rw q at e)).0

-- ---- what a channel that is accepted gives
module _ (c : Channel) (m : List ℕ) (a : Accepted c m) where
  pub accepted_sel : c.head.regs.transel ≤ 63
  accepted_sel = range_sel c a.ranged

  pub accepted_count : count_of c ≤ 64
  accepted_count = range_count c a.ranged

pub ruleset writes = (write_sla, write_conf, write_data, write_sel, accepted_sel, accepted_count, rules)

-- ---- a step, from what refuses it and what follows
module _ (c : Channel) (m : List ℕ) (d x : Served) (r : Result (Unit {0}) Refusal) (k : ℕ) (says : number_of r ≡ k) where
  pub guarded_no : (e : Refusal) → r ≡ Err e → x ≡ leaving m (on c (refused c.head (refusal_number e))) → x ≡ guarded k c m d
  unfolding guarded
  guarded_no e q p = let n : refusal_number e ≡ k = rw q at says in let h = refusal_positive e in
      rw (← n, ne_eqb (refusal_number e) 0 (λ z. omega (arith, h, z))) p

  pub guarded-yes : (t : Unit {0}) → r ≡ Ok t → x ≡ d → x ≡ guarded k c m d
  unfolding guarded
  guarded-yes t q p = rw (← says, q) p

-- ---- a write at a register of the channel, from whether it resets, its key and its number
module _ (c : Channel) (m : List ℕ) (place : Option Register) (reg : Register) (v : ℕ) (p b : Bool) (here : place ≡ Some reg)
    (ep : p ≡ preset_of reg) (eb : b ≡ resets_of p v c.head.key) (x : Served) where
  resets : resets_of (preset_of reg) v c.head.key ≡ b
  resets = rw (← ep) (sym eb)

  pub write-reset : b ≡ true → x ≡ leaving zeros (on (fresh c.head.straps) (plain (fresh_head c.head.straps))) → x ≡ write_at c m place v
  unfolding write_at put_of
  write-reset t e = rw here (pick_true _ _ _ _ (resets ∙ t) e)

  module _ (f : b ≡ false) (k : Bool) (ek : k ≡ key_after p v)
      (r : Result (Unit {0}) Refusal) (en : number_of r ≡ refusal_of (with_key c.head k) c.tranconfig reg v) where
    pub write-refused : (e : Refusal) → r ≡ Err e → x ≡ leaving m (on c (refused (with_key c.head k) (refusal_number e))) → x ≡ write_at c m place v
    unfolding write_at put_of write_of
    write-refused e q g = rw here (pick-false _ _ _ _ (resets ∙ f) (guarded_no _ m _ _ r _ (rw (ek, ep) at en) e q (rw (ek, ep) at g)))

    pub write_done : (t : Unit {0}) → r ≡ Ok t → x ≡ written_by (with_head c (with_key c.head k)) m reg v → x ≡ write_at c m place v
    unfolding write_at put_of write_of
    write_done t q g = rw here (pick-false _ _ _ _ (resets ∙ f) (guarded-yes _ m _ _ r _ (rw (ek, ep) at en) t q (rw (ek, ep) at g)))
