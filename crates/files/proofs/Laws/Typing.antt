-- Bytes typed one after the other into TRANCONFIG, SLATABLE or DATA of an Idle channel.
use Rattle.std.specs.Prelude.{ℕ, ◌+◌, ◌*◌, ◌/◌, ◌%◌, ◌<◌, ◌≤◌, List, [], ◌∷◌, ◌++◌, map, Some, ◌≡◌, length, set}
use Rattle.std.proofs.Math.Bool.{false}
use Rattle.std.proofs.lemmas.List.{map-append}
use Rattle.std.proofs.Math.Path.{refl, ap}
use Rattle.std.proofs.Common.{sym, ◌∙◌, subst, zero-add, add-one, arith}
use borrow.Author.Tests.{eq-eqb, ne_eqb, le-ltb, lt-ltb}
use Rattle.std.proofs.Math.Dec.{eqb}
use Rattle.std.proofs.lemmas.List.Edits.{sets, sets-eq}
use Rattle.laws.specs.Lists.{All}
use Rattle.rules.specs.declared.registers.Register.{Register}
use Rattle.rules.specs.declared.registers.Register.TheVariants.{Slatable, Tranconfig, Data}
use Rattle.rules.specs.Access.{sla_refusal, conf_refusal, too_many, locked_of, past_refusal, data_refusal, spot_of, preset_of, resets_of}
use Rattle.rules.specs.Numbers.{buffer_size}
use Rattle.rules.specs.Registers.{place_of, register_place, register_at as register_named, table_at, active_of}
use Rattle.rules.specs.Tables.{sum_of, configured_at}
use Rattle.rules.specs.declared.state.Phase.{Phase}
use Rattle.rules.specs.declared.state.Phase.TheVariants.{Idle, Address, Sending, Receiving, Stopping, Waiting}
use Rattle.laws.specs.Cases.{false_not_true}
use Rattle.steps.specs.declared.map.Op.{Op}
use Rattle.steps.specs.declared.map.Op.TheVariants.{Write}
use Rattle.head.specs.Access.{refusal_of}
use Rattle.channel.specs.State.{Served, guarded}
use Rattle.channel.specs.Access.{written_by, write_of, keyed, put_of}
use Rattle.channel.specs.Step.{write_at, served_by, range_number, outcome_of}
use Rattle.channel.proofs.Laws.Kept.{stays_in_range, length_bytes}
use Rattle.head.specs.declared.state.Answer.{Answer}
use Rattle.mixes.specs.Mix.{Machine, ends, log}
use Rattle.works.specs.Work.{Own, Sound}
use Rattle.works.specs.Idle.{IdleOwn}
use Rattle.files.specs.File.{Readable, total, count_in, addresses_in, lengths_in, data_in, over}
use Rattle.files.specs.Typed.{each_to, register_at}
use Rattle.files.specs.Statement.{Resting, Rewound, TypedIn, the_channel, written, typed}
use Rattle.files.specs.Laws.File.{readable_count, readable_addresses, readable_lengths, readable_data, readable_fits}
use Rattle.files.proofs.Laws.Trips.{sum_over}

-- ---- a write that is not refused
place_at : (k n : ℕ) → k < 3 → n < 16 → place_of k (register_at k n) ≡ Some (register_named n)
unfolding place_of register_place
place_at k n h l =
    let q : (0xC0 + 16 * k + n) / 16 ≡ 12 + k = omega arith in
    let m : (0xC0 + 16 * k + n) % 16 ≡ n = omega arith in
    rw (le-ltb 2 k (omega arith), le-ltb (0xC0 + 16 * k + n) 0xC0 (omega arith), q, m, eq-eqb (12 + k) (12 + k) refl)

module _ (k : ℕ) (below : k < 3) (o : Own) (v : ℕ) (s : Sound o) where
  -- at a register but PRESET
  step_open : (n : ℕ) (reg : Register) → n < 16 → register_named n ≡ reg → preset_of reg ≡ false
      → refusal_of (keyed o.channel reg v).head o.channel.tranconfig reg v ≡ 0
      → outcome_of o.channel o.bytes k (Write (register_at k n) v) ≡ written_by (keyed o.channel reg v) o.bytes reg v
  unfolding outcome_of range_number guarded served_by write_at put_of write_of resets_of
  step_open n reg l named calm e =
      rw (s.whole, s.ranged, place_at k n below l, named, e, calm)

  -- it keeps to the range
  step_sound : (op : Op) → Sound ((the_channel k).after o op)
  step_sound op = record {
    ranged = stays_in_range o.channel o.bytes k op s.ranged;
    whole = length_bytes o.channel o.bytes k op ∙ s.whole;
  }

-- ---- many writes to one address: `entries` is what they go into, `at` its pointer, `Open` what a write needs and keeps, and `rest` what it leaves
module _ {X : Type 0} (k a : ℕ) (entries : Own → List ℕ) (at : Own → ℕ) (Open : Own → Type 0) (rest : Own → X) where
  record One (o : Own) (v : ℕ) : Type 0 where
    answered : ((the_channel k).answer o (Write a v)).number ≡ 0
    open' : Open ((the_channel k).after o (Write a v))
    stored : entries ((the_channel k).after o (Write a v)) ≡ set (entries o) (at o) v
    moved : at ((the_channel k).after o (Write a v)) ≡ at o + 1
    same : rest ((the_channel k).after o (Write a v)) ≡ rest o

  record Many (o : Own) (l : List ℕ) : Type 0 where
    answered : All (λ x. x.1.number ≡ 0) (log (the_channel k) o (map written (each_to a l)))
    open' : Open (ends (the_channel k) o (map written (each_to a l)))
    stored : entries (ends (the_channel k) o (map written (each_to a l))) ≡ sets (entries o) (at o) l
    same : rest (ends (the_channel k) o (map written (each_to a l))) ≡ rest o

  module _ (size : ℕ) (one : (o : Own) (v : ℕ) → Open o → at o < size → One o v) where
    many : (l : List ℕ) (o : Own) → Open o → at o + length l ≤ size → Many o l
    many [] o h fits = record { answered = tt; open' = h; stored = refl; same = refl }
    many (v ∷ l) o h fits =
        let x = one o v h (omega arith) in
        let m = x.moved in
        let r = many l ((the_channel k).after o (Write a v)) x.open' (omega (arith, m)) in
        record {
          answered = (x.answered, r.answered);
          open' = r.open';
          stored = r.stored ∙ rw (x.stored, x.moved, add-one);
          same = r.same ∙ x.same;
        }

-- ---- each of the three registers
idle-locked : (p : Phase) (at : ℕ) → active_of p ≡ false → locked_of p at ≡ false
idle-locked Idle at e = refl
idle-locked (Address n) at e = absurd (omega (arith, false_not_true (sym e)))
idle-locked (Sending n) at e = absurd (omega (arith, false_not_true (sym e)))
idle-locked (Receiving n) at e = absurd (omega (arith, false_not_true (sym e)))
idle-locked Stopping at e = absurd (omega (arith, false_not_true (sym e)))
idle-locked Waiting at e = absurd (omega (arith, false_not_true (sym e)))

conf_free : (o : Own) (v : ℕ) → IdleOwn o → o.channel.head.ptrs.conf < 65 → too_many o.channel.head.ptrs.conf v ≡ false
    → refusal_of (keyed o.channel Tranconfig v).head o.channel.tranconfig Tranconfig v ≡ 0
unfolding refusal_of conf_refusal
conf_free o v i l few = rw (idle-locked o.channel.head.walk.phase o.channel.head.ptrs.conf i, le-ltb 64 o.channel.head.ptrs.conf (omega arith), few)

sla_free : (o : Own) (v : ℕ) → IdleOwn o → o.channel.head.ptrs.sla < 64 → refusal_of (keyed o.channel Slatable v).head o.channel.tranconfig Slatable v ≡ 0
unfolding refusal_of sla_refusal past_refusal
sla_free o v i l = rw (i, le-ltb 63 o.channel.head.ptrs.sla (omega arith))

data_free : (o : Own) (v : ℕ) → IdleOwn o → o.channel.head.ptrs.buf < buffer_size → o.channel.head.ptrs.buf < sum_of o.channel.tranconfig
    → refusal_of (keyed o.channel Data v).head o.channel.tranconfig Data v ≡ 0
unfolding refusal_of data_refusal spot_of configured_at
data_free o v i l c = rw (i, lt-ltb o.channel.head.ptrs.buf buffer_size l, lt-ltb o.channel.head.ptrs.buf (sum_of o.channel.tranconfig) c)

named_conf : register_named 4 ≡ Tranconfig
unfolding register_named table_at
named_conf = refl

named_sla : register_named 3 ≡ Slatable
unfolding register_named table_at
named_sla = refl

named_data : register_named 5 ≡ Data
unfolding register_named table_at
named_data = refl

-- an Idle channel in range
abbrev Ready : Own → Type 0
Ready o = Sound o × IdleOwn o

-- TRANCONFIG; SLATABLE, the bytes, and their pointers are left
abbrev beside_conf : Own → List ℕ × List ℕ × ℕ × ℕ
beside_conf o = (o.channel.slatable, o.bytes, o.channel.head.ptrs.sla, o.channel.head.ptrs.buf)

abbrev conf_of : Own → List ℕ
conf_of o = o.channel.tranconfig

abbrev conf_at : Own → ℕ
conf_at o = o.channel.head.ptrs.conf

-- SLATABLE; TRANCONFIG, the bytes and DATA's pointer are left
abbrev beside_sla : Own → List ℕ × List ℕ × ℕ
beside_sla o = (o.channel.tranconfig, o.bytes, o.channel.head.ptrs.buf)

abbrev sla_of : Own → List ℕ
sla_of o = o.channel.slatable

abbrev sla_at : Own → ℕ
sla_at o = o.channel.head.ptrs.sla

-- DATA; the tables are left, and so is the sum of the lengths
abbrev beside_data : Own → List ℕ × List ℕ
beside_data o = (o.channel.slatable, o.channel.tranconfig)

abbrev data_at : Own → ℕ
data_at o = o.channel.head.ptrs.buf

abbrev Summed : ℕ → Own → Type 0
Summed s o = Ready o × (sum_of o.channel.tranconfig ≡ s)

module _ (k : ℕ) (below : k < 3) where
  ready_after : (o : Own) (v : ℕ) (op : Op) → Ready o → (d : Served) → outcome_of o.channel o.bytes k op ≡ d → active_of d.stepped.channel.head.walk.phase ≡ false
      → Ready ((the_channel k).after o op)
  ready_after o v op g d e i = (step_sound k below o v g.0 op, ap (λ (x : Served). active_of x.stepped.channel.head.walk.phase) e ∙ i)

  conf_one : (o : Own) (v : ℕ) → Ready o → conf_at o < 65 → too_many (conf_at o) v ≡ false → One k (register_at k 4) conf_of conf_at Ready beside_conf o v
  unfolding written_by
  conf_one o v g l few =
      let e = step_open k below o v g.0 4 Tranconfig (omega arith) named_conf refl (conf_free o v g.1 l few) in
      record {
        answered = ap (λ (d : Served). d.stepped.answer.number) e;
        open' = ready_after o v _ g _ e g.1;
        stored = ap (λ (d : Served). d.stepped.channel.tranconfig) e;
        moved = ap (λ (d : Served). d.stepped.channel.head.ptrs.conf) e;
        same = ap (λ (d : Served). (d.stepped.channel.slatable, d.bytes, d.stepped.channel.head.ptrs.sla, d.stepped.channel.head.ptrs.buf)) e;
      }

  sla_one : (o : Own) (v : ℕ) → Ready o → sla_at o < 64 → One k (register_at k 3) sla_of sla_at Ready beside_sla o v
  unfolding written_by
  sla_one o v g l =
      let e = step_open k below o v g.0 3 Slatable (omega arith) named_sla refl (sla_free o v g.1 l) in
      record {
        answered = ap (λ (d : Served). d.stepped.answer.number) e;
        open' = ready_after o v _ g _ e g.1;
        stored = ap (λ (d : Served). d.stepped.channel.slatable) e;
        moved = ap (λ (d : Served). d.stepped.channel.head.ptrs.sla) e;
        same = ap (λ (d : Served). (d.stepped.channel.tranconfig, d.bytes, d.stepped.channel.head.ptrs.buf)) e;
      }

  data_one : (s : ℕ) → s ≤ buffer_size → (o : Own) (v : ℕ) → Summed s o → data_at o < s → One k (register_at k 5) (λ o. o.bytes) data_at (Summed s) beside_data o v
  unfolding written_by
  data_one s fits o v g l =
      let sum = g.1 in
      let e = step_open k below o v g.0.0 5 Data (omega arith) named_data refl (data_free o v g.0.1 (omega arith) (rw sum l)) in
      record {
        answered = ap (λ (d : Served). d.stepped.answer.number) e;
        open' = (ready_after o v _ g.0 _ e g.0.1, ap (λ (d : Served). sum_of d.stepped.channel.tranconfig) e ∙ sum);
        stored = ap (λ (d : Served). d.bytes) e;
        moved = ap (λ (d : Served). d.stepped.channel.head.ptrs.buf) e;
        same = ap (λ (d : Served). (d.stepped.channel.slatable, d.stepped.channel.tranconfig)) e;
      }

-- ---- lists of steps one after the other
module _ {S A Ans : Type 0} (M : Machine S A Ans) where
  ends_then : (l r : List A) (s : S) → ends M s (l ++ r) ≡ ends M (ends M s l) r
  ends_then [] r s = refl
  ends_then (x ∷ l) r s = ends_then l r (M.after s x)

  all_then : (P : A × Ans → Type 0) (l r : List A) (s : S) → All P (log M s l) → All P (log M (ends M s l) r) → All P (log M s (l ++ r))
  all_then P [] r s h k = k
  all_then P (x ∷ l) r s h k = (h.0, all_then P l r (M.after s x) h.1 k)

-- values put from the start of a list
sets_over : (x l : List ℕ) → length x ≤ length l → sets l 0 x ≡ over x l
sets_over x l h = sets-eq x l 0 (rw (zero-add (length x)) h) ∙ rw (zero-add (length x))

-- ---- a file typed
module _ (k : ℕ) (below : k < 3) (f : List ℕ) (r : Readable f) (o : Own) (h : Resting o) (w : Rewound o.channel) where
  abbrev M : Machine Own Op Answer
  M = the_channel k

  -- the count
  abbrev counted : Own
  counted = M.after o (Write (register_at k 4) (count_in f))

  few : too_many o.channel.head.ptrs.conf (count_in f) ≡ false
  unfolding too_many
  few = rw w.conf (le-ltb 64 (count_in f) (readable_count f r))

  first : One k (register_at k 4) conf_of conf_at Ready (beside_conf) o (count_in f)
  first = conf_one k below o (count_in f) (h.sound, h.idle) (rw w.conf (omega arith)) few

  -- the lengths
  abbrev Behind : Own → Type 0
  Behind q = Ready q × (1 ≤ conf_at q)

  length-one : (q : Own) (v : ℕ) → Behind q → conf_at q < 65 → One k (register_at k 4) conf_of conf_at Behind beside_conf q v
  unfolding too_many
  length-one q v g l =
      let ne : eqb (conf_at q) 0 ≡ false = ne_eqb (conf_at q) 0 (λ e. let z = g.1 in omega (arith, e, z)) in
      let x = conf_one k below q v g.0 l (rw ne) in
      let m = x.moved in
      record { answered = x.answered; open' = (x.open', omega (arith, m)); stored = x.stored; moved = x.moved; same = x.same }

  lengths : Many k (register_at k 4) conf_of conf_at Behind beside_conf counted (lengths_in f)
  lengths =
      let m = first.moved in
      let z = w.conf in
      many k (register_at k 4) conf_of conf_at Behind beside_conf 65 length-one (lengths_in f) counted (first.open', omega (arith, m))
      (let a = readable_lengths f r in let c = readable_count f r in omega (arith, m, z, a, c))

  abbrev configured : Own
  configured = ends M counted (map written (each_to (register_at k 4) (lengths_in f)))

  conf_is : configured.channel.tranconfig ≡ over (count_in f ∷ lengths_in f) o.channel.tranconfig
  conf_is =
      let m = first.moved in
      let z = w.conf in
      let at : conf_at counted ≡ 1 = omega (arith, m, z) in
      let e : sets (conf_of counted) (conf_at counted) (lengths_in f) ≡ sets o.channel.tranconfig 0 (count_in f ∷ lengths_in f) = rw (at, first.stored, w.conf) in
      lengths.stored
      ∙ e
      ∙ sets_over (count_in f ∷ lengths_in f) o.channel.tranconfig (let a = readable_lengths f r in let c = readable_count f r in let t = h.shaped.tranconfig in omega (arith, a, c, t))

  beside : beside_conf configured ≡ beside_conf o
  beside = lengths.same ∙ first.same

  at_sla : sla_at configured ≡ 0
  at_sla = ap (λ (x : List ℕ × List ℕ × ℕ × ℕ). x.2) beside ∙ w.sla

  -- the addresses
  addresses : Many k (register_at k 3) sla_of sla_at Ready beside_sla configured (addresses_in f)
  addresses =
      many k (register_at k 3) sla_of sla_at Ready beside_sla 64 (sla_one k below) (addresses_in f) configured lengths.open'.0
      (let p = at_sla in
      let a = readable_addresses f r in let c = readable_count f r in omega (arith, p, a, c))

  abbrev addressed : Own
  addressed = ends M configured (map written (each_to (register_at k 3) (addresses_in f)))

  sla_is : addressed.channel.slatable ≡ over (addresses_in f) o.channel.slatable
  sla_is =
      let table : sla_of configured ≡ sla_of o = ap (λ (x : List ℕ × List ℕ × ℕ × ℕ). x.0) beside in
      let e : sets (sla_of configured) (sla_at configured) (addresses_in f) ≡ sets (sla_of o) 0 (addresses_in f) = rw (table, at_sla) in
      addresses.stored
      ∙ e
      ∙ sets_over (addresses_in f) o.channel.slatable (let a = readable_addresses f r in let c = readable_count f r in let t = h.shaped.slatable in omega (arith, a, c, t))

  conf_stays : addressed.channel.tranconfig ≡ over (count_in f ∷ lengths_in f) o.channel.tranconfig
  conf_stays = ap (λ (x : List ℕ × List ℕ × ℕ). x.0) addresses.same ∙ conf_is

  -- the data
  sum_is : sum_of addressed.channel.tranconfig ≡ total (lengths_in f)
  sum_is = ap sum_of conf_stays ∙ sum_over (count_in f) (lengths_in f) o.channel.tranconfig (readable_lengths f r)

  at_data : data_at addressed ≡ 0
  at_data = ap (λ (x : List ℕ × List ℕ × ℕ). x.2) addresses.same ∙ ap (λ (x : List ℕ × List ℕ × ℕ × ℕ). x.3) beside ∙ w.buf

  bytes : Many k (register_at k 5) (λ q. q.bytes) data_at (Summed (total (lengths_in f))) beside_data addressed (data_in f)
  bytes =
      many k (register_at k 5) (λ q. q.bytes) data_at (Summed (total (lengths_in f))) beside_data (total (lengths_in f)) (data_one k below (total (lengths_in f)) (readable_fits f r)) (data_in f) addressed (addresses.open', sum_is)
      (let p = at_data in
      let a = readable_data f r in omega (arith, p, a))

  abbrev filled : Own
  filled = ends M addressed (map written (each_to (register_at k 5) (data_in f)))

  bytes_are : filled.bytes ≡ over (data_in f) o.bytes
  bytes_are =
      let from : addressed.bytes ≡ o.bytes = ap (λ (x : List ℕ × List ℕ × ℕ). x.1) addresses.same ∙ ap (λ (x : List ℕ × List ℕ × ℕ × ℕ). x.1) beside in
      let e : sets addressed.bytes (data_at addressed) (data_in f) ≡ sets o.bytes 0 (data_in f) = rw (from, at_data) in
      bytes.stored
      ∙ e
      ∙ sets_over (data_in f) o.bytes (let a = readable_data f r in let c = readable_fits f r in let t = h.sound.whole in omega (arith, a, c, t))

  -- all in turn
  split : typed k f ≡ map written (each_to (register_at k 4) (count_in f ∷ lengths_in f)) ++ (map written (each_to (register_at k 3) (addresses_in f)) ++ map written (each_to (register_at k 5) (data_in f)))
  split =
      map-append written (each_to (register_at k 4) (count_in f ∷ lengths_in f)) _
      ∙ ap (λ (t : List Op). map written (each_to (register_at k 4) (count_in f ∷ lengths_in f)) ++ t) (map-append written (each_to (register_at k 3) (addresses_in f)) _)

  ends-filled : ends M o (typed k f) ≡ filled
  ends-filled =
      ap (ends M o) split
      ∙ ends_then M (map written (each_to (register_at k 4) (count_in f ∷ lengths_in f))) _ o
      ∙ ends_then M (map written (each_to (register_at k 3) (addresses_in f))) _ configured

  abbrev Zero : Op × Answer → Type 0
  Zero x = x.1.number ≡ 0

  answered : All Zero (log M o (typed k f))
  answered =
      subst (λ (t : List Op). All Zero (log M o t)) (sym split)
      (all_then M Zero (map written (each_to (register_at k 4) (count_in f ∷ lengths_in f))) _ o (first.answered, lengths.answered)
      (all_then M Zero (map written (each_to (register_at k 3) (addresses_in f))) _ configured addresses.answered bytes.answered))

  pub typed_in : TypedIn k f o
  typed_in = record {
    answered = answered;
    slatable = ap (λ (q : Own). q.channel.slatable) ends-filled ∙ ap (λ (x : List ℕ × List ℕ). x.0) bytes.same ∙ sla_is;
    tranconfig = ap (λ (q : Own). q.channel.tranconfig) ends-filled ∙ ap (λ (x : List ℕ × List ℕ). x.1) bytes.same ∙ conf_stays;
    bytes = ap (λ (q : Own). q.bytes) ends-filled ∙ bytes_are;
  }
