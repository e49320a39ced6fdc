-- A work of channel c beside a work of channel d, once for all works.
use Rattle.std.specs.Prelude.{ℕ, zero, suc, ◌+◌, ◌*◌, ◌<◌, ◌≤◌, Bool, true, false, List, [], ◌∷◌, map, ◌≡◌, refl, eqb, length, get_or, set, if◌then◌else◌}
use Rattle.std.proofs.Common.{sym, ◌∙◌, set-set}
use Rattle.std.proofs.Math.Path.{ap}
use Rattle.std.proofs.lemmas.List.{set_comm}
use Rattle.std.proofs.Math.Seq.{get_or-set_other}
use Rattle.rules.specs.Numbers.{buffer_size}
use Rattle.interrupt.specs.Interrupt.{be_after}
use Rattle.interrupt.proofs.Laws.Interrupt.{be_swap}
use Rattle.channel.specs.declared.state.Channel.{Channel}
use Rattle.part.specs.declared.state.Part.{Part}
use Rattle.part.specs.State.{blank, chan, put_window, all_but, keyless}
use Rattle.part.specs.Step.{one_after}
use Rattle.part.proofs.Laws.Memory as memory
use Rattle.part.proofs.Laws.Range.{accepts-whole, whole-accepts}
use Rattle.part.proofs.Laws.Kept.{put_in_range, chan_accepted, forgotten-whole}
use Rattle.part.proofs.Laws.Keys.{other_left}
use Rattle.part.specs.Facts.{Whole}
use Rattle.works.specs.State.{State, Accepted}
use Rattle.works.proofs.Laws.Keys.{left_own}
use Rattle.works.specs.Work.{Own, Sound, Work, left_for, own_of, work_after, work_gives}

-- ---- channels where every key but one is forgotten, and what is put among them
abbrev put_in : List Channel → ℕ → Channel → Bool → List Channel
put_in l c x writes = set (if writes then all_but keyless blank l c else l) c x

keyless-set : (l : List Channel) (c : ℕ) (x : Channel) → map keyless (set l c x) ≡ set (map keyless l) c (keyless x)
keyless-set [] c x = refl
keyless-set (y ∷ l) zero x = refl
keyless-set (y ∷ l) (suc c) x = ap (λ (t : List Channel). keyless y ∷ t) (keyless-set l c x)

keyless_twice : (l : List Channel) → map keyless (map keyless l) ≡ map keyless l
keyless_twice [] = refl
keyless_twice (y ∷ l) = ap (λ (t : List Channel). keyless y ∷ t) (keyless_twice l)

-- a channel beside a work of another one: a write forgets its key
abbrev pub beside : Bool → Channel → Channel
beside writes x = if writes then keyless x else x

put_written : (l : List Channel) (c : ℕ) (x : Channel) → put_in l c x true ≡ set (map keyless l) c x
put_written l c x = set-set (map keyless l) c (get_or l c blank) x

channels_swap : (l : List Channel) (c d : ℕ) (x y : Channel) (a b : Bool) → (c ≡ d → ⊥)
    → put_in (put_in l c x a) d (beside a y) b ≡ put_in (put_in l d y b) c (beside b x) a
channels_swap l c d x y true true ne =
    rw (
      put_written l c x,
      put_written (set (map keyless l) c x) d (keyless y),
      keyless-set (map keyless l) c x,
      put_written l d y,
      put_written (set (map keyless l) d y) c (keyless x),
      keyless-set (map keyless l) d y,
      keyless_twice l,
    )
    (set_comm (map keyless l) c d (keyless x) (keyless y) ne)
channels_swap l c d x y true false ne =
    rw (put_written l c x, put_written (set l d y) c x, keyless-set l d y) (set_comm (map keyless l) c d x (keyless y) ne)
channels_swap l c d x y false true ne =
    rw (put_written l d y, put_written (set l c x) d y, keyless-set l c x) (set_comm (map keyless l) c d (keyless x) y ne)
channels_swap l c d x y false false ne = set_comm l c d x y ne

-- CTRLPRESET's key is only ever forgotten
abbrev key_left : Bool → ℕ → Bool → Bool
key_left key c writes = if writes then (if eqb c 3 then key else false) else key

key_swap : (c d : ℕ) (a b key : Bool) → key_left (key_left key c a) d b ≡ key_left (key_left key d b) c a
key_swap c d a b key = go a b (eqb c 3) (eqb d 3) key
  where
    go : (a b x y key : Bool)
        → (if b then (if y then (if a then (if x then key else false) else key) else false) else (if a then (if x then key else false) else key))
        ≡ (if a then (if x then (if b then (if y then key else false) else key) else false) else (if b then (if y then key else false) else key))
    go true true true true key = refl
    go true true true false key = refl
    go true true false true key = refl
    go true true false false key = refl
    go true false true y key = refl
    go true false false y key = refl
    go false true x true key = refl
    go false true x false key = refl
    go false false x y key = refl

-- what is channel d's own, beside a work of another one
abbrev pub own_left : Bool → Own → Own
own_left writes o = record { channel = beside writes o.channel; bytes = o.bytes }

after_left : (w : Work) (writes : Bool) (o : Own) → w.after (own_left writes o) ≡ own_left writes (w.after o)
after_left w true o = w.unkeys o
after_left w false o = refl

gives_left : (w : Work) (writes : Bool) (o : Own) → w.gives (own_left writes o) ≡ w.gives o
gives_left w true o = w.blind o
gives_left w false o = refl

-- the state with x put as channel c's own, after what the work w gives of o
abbrev put_by : State → ℕ → Work → Own → Own → State
put_by s c w x o = record {
  part = record {
    channels = put_in s.part.channels c x.channel w.writes;
    be = be_after s.part.be (w.gives o).answer.number;
    mask = s.part.mask;
    key = key_left s.part.key c w.writes;
  };
  memory = put_window c x.bytes s.memory;
}

flat : (p : Part) (c : ℕ) (x : Channel) (n : ℕ) (writes : Bool)
    → (let q = left_for p c writes in one_after q c x (be_after q.be n))
    ≡ record { channels = put_in p.channels c x writes; be = be_after p.be n; mask = p.mask; key = key_left p.key c writes }
flat p c x n true = refl
flat p c x n false = refl

put_flat : (s : State) (c : ℕ) (w : Work) → work_after s c w ≡ put_by s c w (w.after (own_of s c)) (own_of s c)
unfolding work_after
put_flat s c w = let o = own_of s c in rw (flat s.part c (w.after o).channel (w.gives o).answer.number w.writes)

left_other : (p : Part) (c d : ℕ) (writes : Bool) → (c ≡ d → ⊥) → chan (left_for p c writes) d ≡ beside writes (chan p d)
left_other p c d true ne = other_left p c d ne
left_other p c d false ne = refl

-- a part in range stays so where a write forgets
left_in : (p : Part) (m : List ℕ) (c : ℕ) (writes : Bool) → Whole p m → Whole (left_for p c writes) m
left_in p m c true w = forgotten-whole p m c w
left_in p m c false w = w

module _ (s : State) (g : Accepted s) where
  good : Whole s.part s.memory
  good = accepts-whole s.part s.memory g

  fits : (c : ℕ) → c < 3 → buffer_size * c + buffer_size ≤ length s.memory
  fits c h = memory.fits c s.memory h good.whole

  sound : (c : ℕ) (w : Work) → c < 3 → Sound (w.after (own_of s c))
  sound c w h = w.keeps (own_of s c) (chan_accepted s.part s.memory c h good)

  -- what is another channel's own is as it was, but for a key that was forgotten
  pub own_other : (c d : ℕ) (w : Work) → c < 3 → (c ≡ d → ⊥) → own_of (work_after s c w) d ≡ own_left w.writes (own_of s d)
  unfolding work_after
  own_other c d w h ne =
      rw (
        get_or-set_other (left_for s.part c w.writes).channels c d (w.after (own_of s c)).channel blank (λ e. ne (sym e)),
        left_other s.part c d w.writes ne,
        memory.window_other c d (w.after (own_of s c)).bytes s.memory (sound c w h).whole (fits c h) ne,
      )

  -- A WORK GIVES THE SAME WITH ANOTHER CHANNEL'S BEFORE IT
  pub work_unmoved : (c d : ℕ) (w v : Work) → d < 3 → (d ≡ c → ⊥) → work_gives (work_after s d v) c w ≡ work_gives s c w
  unfolding work_gives
  work_unmoved c d w v h ne = ap (λ (o : Own). w.gives o) (own_other d c v h ne) ∙ gives_left w v.writes (own_of s c)

  -- AN ACCEPTED STATE STAYS ONE
  pub work_kept : (c : ℕ) (w : Work) → c < 3 → Accepted (work_after s c w)
  unfolding work_after
  work_kept c w h =
      let o = sound c w h in
      let t = work_after s c w in
      let chosen = w.stays (own_of s c) ∙ ap (λ (x : Channel). x.head.straps) (sym (left_own s.part c w.writes)) in
      whole-accepts t.part t.memory
      (record {
        ranged = put_in_range (left_for s.part c w.writes) c _ _ (left_in s.part s.memory c w.writes good).ranged o.ranged chosen;
        whole = memory.length-put c (w.after (own_of s c)).bytes s.memory o.whole (fits c h) ∙ good.whole;
      })

  -- two channels' own put, the one after the other
  puts_swap : (c d : ℕ) (w v : Work) → c < 3 → d < 3 → (c ≡ d → ⊥)
      → put_by (put_by s c w (w.after (own_of s c)) (own_of s c)) d v (own_left w.writes (v.after (own_of s d))) (own_of s d)
      ≡ put_by (put_by s d v (v.after (own_of s d)) (own_of s d)) c w (own_left v.writes (w.after (own_of s c))) (own_of s c)
  puts_swap c d w v h i ne =
      let o = own_of s c in
      let q = own_of s d in
      let x = w.after o in
      let y = v.after q in
      let channels = channels_swap s.part.channels c d x.channel y.channel w.writes v.writes ne in
      let be = be_swap s.part.be (w.gives o).answer.number (v.gives q).answer.number in
      let key = key_swap c d w.writes v.writes s.part.key in
      let bytes = memory.put-put c d x.bytes y.bytes s.memory (sound c w h).whole (sound d v i).whole (fits c h) (fits d i) ne in
      λ i. record { part = record { channels = channels i; be = be i; mask = s.part.mask; key = key i }; memory = bytes i }

  two : (c d : ℕ) (w v : Work) → c < 3 → (c ≡ d → ⊥)
      → work_after (work_after s c w) d v ≡ put_by (put_by s c w (w.after (own_of s c)) (own_of s c)) d v (own_left w.writes (v.after (own_of s d))) (own_of s d)
  two c d w v h ne =
      put_flat (work_after s c w) d v
      ∙ rw (own_other c d w h ne, after_left v w.writes (own_of s d), gives_left v w.writes (own_of s d), put_flat s c w)

  -- THE STATE AFTER TWO CHANNELS' WORKS DOES NOT TELL THEIR ORDER
  pub work_commute : (c d : ℕ) (w v : Work) → c < 3 → d < 3 → (c ≡ d → ⊥) → work_after (work_after s c w) d v ≡ work_after (work_after s d v) c w
  work_commute c d w v h i ne = two c d w v h ne ∙ puts_swap c d w v h i ne ∙ sym (two d c v w i (λ e. ne (sym e)))
