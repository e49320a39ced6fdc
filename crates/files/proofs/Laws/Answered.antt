-- What a call that is answered 0 says: a file that was read is readable, and the header of a file that was written says its length.
use Rattle.std.specs.Prelude.{ℕ, ◌<◌, ◌≤◌, List, ◌≡◌, length, get_or}
use Rattle.std.proofs.Common.{sym, ◌∙◌, ap, length-take}
use native.Mathlib.Omega.{arith}
use Rattle.rules.specs.Tables.{sum_of}
use Rattle.channel.proofs.Laws.Range.{range_count}
use Rattle.part.specs.declared.state.Part.{Part}
use Rattle.part.specs.declared.state.PartStepped.{PartStepped}
use Rattle.part.proofs.Laws.Range.{accepts-whole, chan-in_range}
use Rattle.works.specs.Work.{Own, own_of}
use Rattle.works.specs.Idle.{state_of, call_step, call_out}
use Rattle.works.proofs.Laws.Calls.{call_answered}
use Rattle.works.proofs.Laws.Idle.{deed_open, done_out}
use Rattle.files.specs.File.{Readable, header_of, file_of, size_in, largest, over}
use Rattle.files.specs.Work.{first_addresses, first_bytes, file_from}
use Rattle.files.specs.Deeds.{load_deed, save_deed, load_work, save_work}
use Rattle.files.specs.Laws.File.{number_readable}
use Rattle.files.proofs.Laws.Trips.{fits_room}

module _ (p : Part) (m : List ℕ) (c : ℕ) (r : PartStepped) (z : r.answer.number ≡ 0) where
  pub load-answered : (f : List ℕ) → r ≡ call_step (load_work f) p m c → (c < 3) × Readable f
  load-answered f e =
      let a = call_answered (load_work f) (state_of p m) c (ap (λ (x : PartStepped). x.answer.number) (sym e) ∙ z) in
      (a.below, number_readable f (deed_open (load_deed f) (own_of (state_of p m) c) a.given).1)

  -- the last number of the header
  last_number : (o : Own) (out : List ℕ) → length (first_addresses o.channel.slatable o.channel.tranconfig) ≤ 64 → length (first_bytes o.channel.tranconfig o.bytes) ≤ 4352
      → size_in (over (file_from o) out) ≤ largest
  unfolding file_of header_of
  last_number o out h k = omega arith

  pub save_answered : (out l : List ℕ) → r ≡ call_step (save_work out) p m c → l ≡ call_out (save_work out) p m c → size_in l ≤ largest
  save_answered out l e h =
      let a = call_answered (save_work out) (state_of p m) c (ap (λ (x : PartStepped). x.answer.number) (sym e) ∙ z) in
      let o = own_of (state_of p m) c in
      let free = deed_open (save_deed out) o a.given in
      let wrote : l ≡ over (file_from o) out = h ∙ a.out ∙ done_out (save_deed out) o free.0 free.1 in
      let count = range_count o.channel (chan-in_range p c (accepts-whole p m a.accepted).ranged) in
      let fits = (fits_room o.channel.tranconfig (length out) free.1).0 in
      let few = length-take (get_or o.channel.tranconfig 0 0) o.channel.slatable in
      let size = length-take (sum_of o.channel.tranconfig) o.bytes in
      rw wrote (last_number o out (omega (arith, few, count)) (omega (arith, size, fits)))
