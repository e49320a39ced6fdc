-- REQUEST FIVE, proved beside the promises of the calls.
use Rattle.std.specs.Prelude.{ℕ, ◌<◌, ◌≤◌, List, ◌≡◌, refl, length}
use Rattle.std.proofs.Common.{sym, ap, ◌∙◌}
use Rattle.rules.specs.declared.parts.Straps.{Straps}
use Rattle.rules.specs.Numbers.{not_a_file}
use Rattle.channel.proofs.Laws.Kept.{fresh-in_range, zeros-length}
use Rattle.mixes.specs.Mix.{ends}
use Rattle.works.specs.State.{State, Accepted}
use Rattle.works.specs.Work.{Own, Sound, work_done, work_reply}
use Rattle.works.specs.Idle.{IdleOwn, deed_number, deed_after}
use Rattle.works.proofs.Laws.Idle.{done_after}
use Rattle.works.proofs.Laws.Spares.{idle-leaves, refused-leaves}
use Rattle.files.specs.File.{Blocks, Readable, fault_number}
use Rattle.files.specs.Work.{file_from, loaded_own}
use Rattle.files.specs.Deeds.{load_deed, save_deed, load_work, save_work}
use Rattle.files.specs.Statement.{Resting, Back, OfItsBlocks, ReadWritten, Writes, WrittenRead, Rewound, TypedIn, SameTables, Untouched, the_channel, typed, reset_own}
use Rattle.files.specs.Laws.File.{addresses_of, lengths_of, data_of, written_readable, readable_blocks, readable_is}
use Rattle.files.proofs.Laws.Trips as trips
use Rattle.files.proofs.Laws.Typing as typing
use Rattle.files.proofs.Laws.Stays as stays

-- A WRITTEN FILE IS READABLE AND GIVES ITS BLOCKS BACK
pub blocks_back : (a b d : List ℕ) → Blocks a b d → Back a b d
blocks_back a b d h = record { readable = written_readable a b d h; addresses = addresses_of a b d h; lengths = lengths_of a b d h; bytes = data_of a b d h }

-- A READABLE FILE IS THE FILE OF ITS BLOCKS
pub of_its_blocks : (f : List ℕ) → Readable f → OfItsBlocks f
of_its_blocks f r = record { blocks = readable_blocks f r; whole = readable_is f r }

-- READ THEN WRITTEN GIVES THE FILE
pub read_then_write : (f : List ℕ) → Readable f → (o : Own) → IdleOwn o → (out : List ℕ) → length f ≤ length out → ReadWritten f o out
read_then_write = trips.read_written

-- WRITTEN THEN READ GIVES THE CHANNEL'S FIRST COUNT TRANSACTIONS, and zeros: what o wrote is read into any Idle channel q
pub write_then_read : (o : Own) → Resting o → (out : List ℕ) → deed_number (save_deed out) o ≡ 0 → (q : Own) → IdleOwn q → WrittenRead (file_from o) o out q
write_then_read o h out z q i = trips.written_read o h out (trips.own_room o h out z) q i

-- A LOAD ANSWERS 10 EXACTLY WHEN NO IDLE CHANNEL IN RANGE WRITES THIS FILE
pub ten_means_nobody : (f : List ℕ) (o : Own) → Resting o → deed_number (load_deed f) o ≡ not_a_file → (q : Own) → Resting q → Writes q f → ⊥
ten_means_nobody f o h e q s w = trips.written_not_10 f o h q s w e

pub nobody_means_ten : (f : List ℕ) (o : Own) → Resting o → ((q : Own) → Resting q → Writes q f → ⊥) → deed_number (load_deed f) o ≡ not_a_file
nobody_means_ten f o h none = trips.ten_or f o h (λ e. none (loaded_own f o) (trips.loaded_resting f o h e) (trips.loaded-writes f o h e))

-- and what is not answered 10 the channel writes into which it is read
pub not_ten_is_written : (f : List ℕ) (o : Own) → Resting o → (deed_number (load_deed f) o ≡ not_a_file → ⊥) → Resting (loaded_own f o) × Writes (loaded_own f o) f
not_ten_is_written f o h e = (trips.loaded_resting f o h e, trips.loaded-writes f o h e)

-- A READ IS AS IF TYPED: from reset pointers each of the writes is answered 0, and they leave the file's tables and bytes over what was there
pub as_if_typed : (k : ℕ) → k < 3 → (f : List ℕ) → Readable f → (o : Own) → Resting o → Rewound o.channel → TypedIn k f o
as_if_typed = typing.typed_in

reset_rests : (x : Straps) → Resting (reset_own x)
reset_rests x = record {
  sound = record { ranged = fresh-in_range x; whole = zeros-length };
  shaped = record { slatable = refl; tranconfig = refl; status = refl; bytecount = refl };
  idle = refl;
}

-- and so from a reset the tables and bytes that a read leaves there
pub typed-from_reset : (k : ℕ) → k < 3 → (x : Straps) (f : List ℕ) → Readable f → SameTables (ends (the_channel k) (reset_own x) (typed k f)) (deed_after (load_deed f) (reset_own x))
typed-from_reset k h x f r =
    let t = as_if_typed k h f r (reset_own x) (reset_rests x) (record { sla = refl; conf = refl; buf = refl }) in
    let e = sym (done_after (load_deed f) (reset_own x) refl (ap fault_number r)) in
    record {
      slatable = t.slatable ∙ ap (λ (q : Own). q.channel.slatable) e;
      tranconfig = t.tranconfig ∙ ap (λ (q : Own). q.channel.tranconfig) e;
      bytes = t.bytes ∙ ap (λ (q : Own). q.bytes) e;
    }

-- IN RANGE STAYS IN RANGE
pub load_sound : (f : List ℕ) (o : Own) → Sound o → Sound (deed_after (load_deed f) o)
load_sound f = (load_work f).keeps

-- THE OTHER CHANNELS ARE UNTOUCHED by a read, and so are BE, CTRLINTMSK and every key
pub load_untouched : (s : State) → Accepted s → (c : ℕ) (f : List ℕ) → Untouched c s (work_done s c (load_work f))
load_untouched s g c f = stays.untouched s g c (load_deed f) (stays.load_calm f) (λ o. refl)

-- A WRITE LEAVES THE PART AND THE MEMORY
pub save_leaves : (s : State) (c : ℕ) (out : List ℕ) → work_done s c (save_work out) ≡ s
save_leaves s c out = idle-leaves s c (save_deed out) (stays.save_calm out) (λ o. refl)

-- AT A REFUSAL ALL MEMORY STAYS, and the part: of a read, and of a write, whose output stays too
pub load-refused : (s : State) (c : ℕ) (f : List ℕ) → ((work_reply s c (load_work f)).answer.number ≡ 0 → ⊥) → work_done s c (load_work f) ≡ s
load-refused s c f z = (refused-leaves s c (load_deed f) (stays.load_calm f) z).0

pub save_refused : (s : State) (c : ℕ) (out : List ℕ) → ((work_reply s c (save_work out)).answer.number ≡ 0 → ⊥) → (work_reply s c (save_work out)).out ≡ out
save_refused s c out z = (refused-leaves s c (save_deed out) (stays.save_calm out) z).1
