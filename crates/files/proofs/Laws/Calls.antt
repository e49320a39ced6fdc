-- A file read into a channel, or written from one: refused, and done.
use Prim.Native.Nat.{ℕ, ◌+◌, ◌*◌, ◌≤◌}
use Rattle.std.specs.Prelude.{Result, Ok, Err}
use mathlib.Core.Bool.{true}
use mathlib.Core.List.{List}
use mathlib.Core.Path.{◌≡◌, refl, ◌∙◌, subst}
use native.Mathlib.Omega.{arith}
use borrow.Author.Tests.{ne_eqb}
use lib.ListN.{length, get_or, take, drop}
use Rattle.rules.specs.declared.numbers.Refusal.{Refusal}
use Rattle.rules.specs.Access.{busy_refusal}
use Rattle.rules.specs.Registers.{active_of}
use Rattle.rules.specs.Numbers.{buffer_size, done, locked, refusal_number, number_of}
use Rattle.rules.specs.Tables.{start_of}
use Rattle.rules.proofs.Laws.Numbers.{refusal_positive, test_refuses, test_passes}
use Rattle.channel.specs.declared.state.Channel.{Channel}
use Rattle.channel.specs.Range.{in_range}
use Rattle.channel.proofs.Laws.Range.{range_count}
use Rattle.works.specs.Work.{Own}
use Rattle.works.specs.Facts.{Did}
use Rattle.works.specs.Idle.{Deed, own_by, deed_number, deed_after, deed_out}
use Rattle.files.specs.File.{Readable, file_of, over}
use Rattle.files.specs.Work.{file_from, room_number}
use Rattle.files.specs.Facts.{Filed}
use Rattle.files.specs.Laws.File.{readable_count, readable_long, readable_fits}
use Rattle.files.proofs.Laws.Trips.{fits_room}

-- what is known of a readable file's length
pub filed : (f : List ℕ) → Readable f → Filed f
filed f r =
    let long = readable_long f r in
    let fits = readable_fits f r in
    record { few = readable_count f r; holds = omega arith; fits = omega arith }

-- ---- a file of the first count transactions
pub count_few : (c : Channel) (n : ℕ) → in_range c ≡ true → n ≡ get_or c.tranconfig 0 0 → n ≤ 64
count_few c n h p = rw p (range_count c h)

module _ (c : Channel) (m out : List ℕ) (n s : ℕ) (p : n ≡ get_or c.tranconfig 0 0) (q : s ≡ start_of c.tranconfig n) where
  pub room_open : room_number c.tranconfig (length out) ≡ 0 → (s ≤ buffer_size) × (12 + 2 * n + s ≤ length out)
  room_open e = rw (q, p) (fits_room c.tranconfig (length out) e)

  pub tables-put : (r : List ℕ) → r ≡ over (file_of (take n c.slatable) (take n (drop 1 c.tranconfig)) (take s m)) out → r ≡ over (file_from (own_by c m)) out
  tables-put r h = h ∙ rw (q, p)

-- ---- a deed from the busy channel's refusal on: refused by that, refused by its own number, and done
module _ (d : Deed) (o : Own) (r : Result (Unit {0}) Refusal) (e : number_of r ≡ busy_refusal o.channel.head.walk.phase) where
  refused-did : (x : Refusal) → refusal_number x ≡ deed_number d o → Did d o (Err x) o d.lent
  unfolding deed_after deed_out
  refused-did x n =
      let ne = ne_eqb (refusal_number x) 0 (λ q. let p = refusal_positive x in omega (arith, p, q)) in
      record { number = n; own = rw (← n, ne) refl; out = rw (← n, ne) refl }

  pub busy-did : (x : Refusal) → r ≡ Err x → Did d o (Err x) o d.lent
  unfolding busy_refusal deed_number
  busy-did x z = refused-did x (test_refuses _ (active_of o.channel.head.walk.phase) locked (d.number o) e x z)

  module _ (t : Unit {0}) (z : r ≡ Ok t) where
    pub own-did : (x : Refusal) → refusal_number x ≡ d.number o → Did d o (Err x) o d.lent
    unfolding busy_refusal deed_number
    own-did x n = refused-did x (test_passes _ (active_of o.channel.head.walk.phase) locked (d.number o) e t _ (omega arith) z n)

    pub done-did : done ≡ d.number o → Did d o (Ok tt) (d.change o) (d.hands o)
    unfolding busy_refusal deed_number deed_after deed_out
    done-did n =
        let k = test_passes _ (active_of o.channel.head.walk.phase) locked (d.number o) e t _ (omega arith) z n in
        record { number = k; own = rw (← k) refl; out = rw (← k) refl }

-- ---- of the bytes of a window
pub did_in : (d : Deed) (c : Channel) (m k : List ℕ) (r : Result (Unit {0}) Refusal) (q : Own) (l : List ℕ) → m ≡ k → Did d (own_by c m) r q l → Did d (own_by c k) r q l
did_in d c m k r q l e t = subst (λ (x : List ℕ). Did d (own_by c x) r q l) e t
