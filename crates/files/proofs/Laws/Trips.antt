-- A file read and then written, and written and then read.
use Rattle.std.specs.Prelude.{ℕ, zero, suc, ◌+◌, ◌≤◌, List, [], ◌∷◌, ◌++◌, Result, Ok, Err, ◌≡◌, refl, length, get_or, take, drop, replicate}
use Rattle.std.proofs.Common.{sym, ◌∙◌, ap, subst, arith, le-leb, leb-true, le-ltb, ltb-false, length-drop, take_at, length-take-le}
use Rattle.laws.specs.Cases.{accepted, not_refused}
use Rattle.rules.specs.Numbers.{buffer_size, done, not_a_file, no_room}
use Rattle.rules.specs.Tables.{start_of, sum_of, fitting}
use Rattle.channel.proofs.Laws.Range.{range_count}
use Rattle.works.specs.Work.{Own}
use Rattle.works.specs.Idle.{IdleOwn, deed_number, deed_out}
use Rattle.works.proofs.Laws.Idle.{idle_number, done_after, done_out}
use Rattle.files.specs.File.{Blocks, Readable, total, count_in, addresses_in, lengths_in, data_in, fault_of, fault_number, over}
use Rattle.files.specs.declared.format.Fault.{Fault}
use Rattle.files.specs.Work.{loaded_conf, loaded_sla, loaded_bytes, loaded_own, first_addresses, first_lengths, first_bytes, tables_file, file_from, size_of, room_number}
use Rattle.files.specs.Deeds.{load_deed, save_deed}
use Rattle.files.specs.Statement.{Resting, ReadWritten, Writes, WrittenRead}
use Rattle.files.specs.Laws.File.{count_of, addresses_of, lengths_of, data_of, written_readable, number_readable}
use Rattle.files.specs.Laws.File.{readable_is, readable_count, readable_addresses, readable_lengths, readable_data, readable_fits, readable_long}
use Rattle.files.specs.Laws.Kept.{load_keeps, length_over}

-- ---- the start of a transaction, as lengths summed
total-suc : (l : List ℕ) (v : ℕ) → total (take (suc v) l) ≡ total (take v l) + get_or l v 0
unfolding total
total-suc [] zero = refl
total-suc [] (suc v) = refl
total-suc (x ∷ l) zero = omega arith
total-suc (x ∷ l) (suc v) = let h = total-suc l v in omega (arith, h)

pub start-total : (x : ℕ) (l : List ℕ) (v : ℕ) → start_of (x ∷ l) v ≡ total (take v l)
unfolding start_of total
start-total x l zero = refl
start-total x l (suc v) = rw (start-total x l v) (sym (total-suc l v))

-- ---- room
pub room_fits : (lens : List ℕ) (room : ℕ) → sum_of lens ≤ buffer_size → size_of lens ≤ room → room_number lens room ≡ 0
unfolding room_number fitting
room_fits lens room h k = rw (le-leb _ _ h, le-ltb room (size_of lens) k)

pub fits_room : (lens : List ℕ) (room : ℕ) → room_number lens room ≡ 0 → (sum_of lens ≤ buffer_size) × (size_of lens ≤ room)
unfolding room_number fitting
fits_room lens room e =
    let a = accepted _ _ no_room (omega arith) e in (leb-true _ _ a.0, ltb-false room (size_of lens) (not_refused _ no_room done (omega arith) a.1).0)

-- the sum of a table that has these lengths
pub sum_over : (n : ℕ) (b l : List ℕ) → length b ≡ n → sum_of (over (n ∷ b) l) ≡ total b
sum_over n b l e = start-total n (b ++ drop (length (n ∷ b)) l) n ∙ ap total (take_at b _ n e)

-- ---- a readable file in a channel's tables
module _ (f : List ℕ) (r : Readable f) where
  first_addresses_lem : first_addresses (loaded_sla f) (loaded_conf f) ≡ addresses_in f
  first_addresses_lem = take_at (addresses_in f) _ (count_in f) (readable_addresses f r)

  first_lengths_lem : first_lengths (loaded_conf f) ≡ lengths_in f
  first_lengths_lem = take_at (lengths_in f) _ (count_in f) (readable_lengths f r)

  loaded_sum : sum_of (loaded_conf f) ≡ total (lengths_in f)
  loaded_sum = sum_over (count_in f) (lengths_in f) (replicate 65 0) (readable_lengths f r)

  first_bytes_lem : first_bytes (loaded_conf f) (loaded_bytes f) ≡ data_in f
  first_bytes_lem = rw loaded_sum (take_at (data_in f) _ (total (lengths_in f)) (readable_data f r))

  loaded_file : tables_file (loaded_sla f) (loaded_conf f) (loaded_bytes f) ≡ f
  loaded_file = rw (first_addresses_lem, first_lengths_lem, first_bytes_lem) (readable_is f r)

  loaded_size : size_of (loaded_conf f) ≡ length f
  loaded_size = rw loaded_sum (sym (readable_long f r))

  loaded_room : (room : ℕ) → length f ≤ room → room_number (loaded_conf f) room ≡ 0
  loaded_room room h = room_fits (loaded_conf f) room (rw loaded_sum (readable_fits f r)) (rw loaded_size h)

  number_0 : fault_number (fault_of f) ≡ 0
  number_0 = ap fault_number r

  -- READ THEN WRITTEN
  pub read_written : (o : Own) → IdleOwn o → (out : List ℕ) → length f ≤ length out → ReadWritten f o out
  read_written o i out h =
      let after = done_after (load_deed f) o i number_0 in
      let room = loaded_room (length out) h in
      record {
        read = idle_number (load_deed f) o i ∙ number_0;
        written = ap (deed_number (save_deed out)) after ∙ idle_number (save_deed out) (loaded_own f o) i ∙ room;
        output = ap (deed_out (save_deed out)) after ∙ done_out (save_deed out) (loaded_own f o) i room ∙ ap (λ (t : List ℕ). over t out) loaded_file;
      }

-- ---- a channel whose file is written
conf_total : (lens : List ℕ) → length lens ≡ 65 → sum_of lens ≡ total (first_lengths lens)
conf_total [] e = absurd (omega arith)
conf_total (x ∷ l) e = start-total x l x

module _ (o : Own) (h : Resting o) (out : List ℕ) (z : room_number o.channel.tranconfig (length out) ≡ 0) where
  a : length (first_addresses o.channel.slatable o.channel.tranconfig) ≡ get_or o.channel.tranconfig 0 0
  a = length-take-le _ o.channel.slatable (let e = h.shaped.slatable in let c = range_count o.channel h.sound.ranged in omega (arith, e, c))

  b : length (first_lengths o.channel.tranconfig) ≡ get_or o.channel.tranconfig 0 0
  b = length-take-le _ (drop 1 o.channel.tranconfig)
      (let e = h.shaped.tranconfig in let d = length-drop 1 o.channel.tranconfig in let c = range_count o.channel h.sound.ranged in omega (arith, e, d, c))

  fits : sum_of o.channel.tranconfig ≤ buffer_size
  fits = (fits_room o.channel.tranconfig (length out) z).0

  d : length (first_bytes o.channel.tranconfig o.bytes) ≡ sum_of o.channel.tranconfig
  d = length-take-le _ o.bytes (rw h.sound.whole fits)

  pub own_blocks : Blocks (first_addresses o.channel.slatable o.channel.tranconfig) (first_lengths o.channel.tranconfig) (first_bytes o.channel.tranconfig o.bytes)
  own_blocks = record {
    few = rw a (range_count o.channel h.sound.ranged);
    each = b ∙ sym a;
    sums = d ∙ conf_total o.channel.tranconfig h.shaped.tranconfig;
    fits = rw d fits;
  }

  pub own_readable : Readable (file_from o)
  own_readable = written_readable _ _ _ own_blocks

  -- WRITTEN THEN READ
  pub written_read : (q : Own) → IdleOwn q → WrittenRead (file_from o) o out q
  written_read q i = record {
    output = done_out (save_deed out) o h.idle z;
    read = idle_number (load_deed (file_from o)) q i ∙ ap fault_number own_readable;
    after = done_after (load_deed (file_from o)) q i (ap fault_number own_readable);
    count = count_of _ _ _ own_blocks ∙ a;
    addresses = addresses_of _ _ _ own_blocks;
    lengths = lengths_of _ _ _ own_blocks;
    bytes = data_of _ _ _ own_blocks;
  }

pub own_room : (o : Own) → Resting o → (out : List ℕ) → deed_number (save_deed out) o ≡ 0 → room_number o.channel.tranconfig (length out) ≡ 0
own_room o h out z = sym (idle_number (save_deed out) o h.idle) ∙ z

-- ---- 10 EXACTLY WHEN NO CHANNEL WRITES THE FILE
module _ (f : List ℕ) (o : Own) (h : Resting o) where
  -- what an Idle channel writes is not answered 10
  pub written_not_10 : (q : Own) → Resting q → Writes q f → deed_number (load_deed f) o ≡ not_a_file → ⊥
  written_not_10 q s w e =
      let room = sym (idle_number (save_deed f) q s.idle) ∙ w.answered in
      let r : Readable f = subst Readable w.file (own_readable q s f room) in
      let n = sym (idle_number (load_deed f) o h.idle) ∙ e in
      let z = ap fault_number r in omega (arith, n, z)

  -- what is not answered 10 is readable, and the channel into which it is read writes it
  ten_by : (x : Result (Unit {0}) Fault) → ((fault_number x ≡ not_a_file → ⊥) → ⊥) → fault_number x ≡ not_a_file
  ten_by (Ok t) k = absurd (k (λ e. omega arith))
  ten_by (Err x) k = refl

  pub ten_or : ((deed_number (load_deed f) o ≡ not_a_file → ⊥) → ⊥) → deed_number (load_deed f) o ≡ not_a_file
  ten_or k = let n = idle_number (load_deed f) o h.idle in n ∙ ten_by (fault_of f) (λ e. k (λ z. e (sym n ∙ z)))

  fault_number_lem : (x : Result (Unit {0}) Fault) → (fault_number x ≡ not_a_file → ⊥) → fault_number x ≡ 0
  fault_number_lem (Ok t) k = refl
  fault_number_lem (Err x) k = absurd (k refl)

  module _ (e : deed_number (load_deed f) o ≡ not_a_file → ⊥) where
    readable : Readable f
    readable = number_readable f (fault_number_lem (fault_of f) (λ z. e (idle_number (load_deed f) o h.idle ∙ z)))

    pub loaded_resting : Resting (loaded_own f o)
    loaded_resting = record {
      sound = load_keeps f o h.sound h.idle (ap fault_number readable);
      shaped = record {
        slatable = length_over (addresses_in f) (replicate 64 0) (let a = readable_addresses f readable in let c = readable_count f readable in omega (arith, a, c));
        tranconfig = length_over (count_in f ∷ lengths_in f) (replicate 65 0) (let a = readable_lengths f readable in let c = readable_count f readable in omega (arith, a, c));
        status = h.shaped.status;
        bytecount = h.shaped.bytecount;
      };
      idle = h.idle;
    }

    pub loaded-writes : Writes (loaded_own f o) f
    loaded-writes = record {
      answered = idle_number (save_deed f) (loaded_own f o) h.idle ∙ loaded_room f readable (length f) (omega arith);
      file = loaded_file f readable;
    }
