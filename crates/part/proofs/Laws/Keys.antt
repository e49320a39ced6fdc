-- What is left of a part's channels where a write forgets every key but its own.
use Rattle.std.specs.Prelude.{ℕ, zero, suc, ◌<◌, ◌≤◌, false, List, [], ◌∷◌, map, ◌≡◌, refl, eqb, length, get_or, set, if◌then◌else◌}
use Rattle.std.proofs.Common.{sym, ◌∙◌, ap, arith, eq-eqb, ne_eqb, length-set, get_or-set_other}
use Rattle.std.proofs.lemmas.List.{length-map, set-set, set_comm}
use Rattle.std.proofs.Math.ListN.{get_or-map}
use Rattle.laws.specs.Cases.{pick_true, pick-false}
use Rattle.channel.specs.declared.state.Channel.{Channel}
use Rattle.part.specs.declared.state.Part.{Part}
use Rattle.part.specs.State.{blank, chan, all_but, keyless, forgotten}
use Rattle.part.proofs.Laws.Each.{put_first, next_first, one_first, all_first}

but_own : {A : Type 0} (f : A → A) (d : A) (l : List A) (c : ℕ) → get_or (all_but f d l c) c d ≡ get_or l c d
but_own f d [] c = refl
but_own f d (x ∷ l) zero = refl
but_own f d (x ∷ l) (suc c) = but_own f d l c

module _ (p : Part) (c : ℕ) where
  pub own_left_lem : chan (forgotten p c) c ≡ chan p c
  own_left_lem = but_own keyless blank p.channels c

  pub other_left : (d : ℕ) → (c ≡ d → ⊥) → chan (forgotten p c) d ≡ keyless (chan p d)
  other_left d ne = get_or-set_other (map keyless p.channels) c d (chan p c) blank (λ e. ne (sym e)) ∙ get_or-map keyless p.channels d blank

  pub size_left : length (forgotten p c).channels ≡ length p.channels
  size_left = length-set (map keyless p.channels) c (chan p c) ∙ length-map p.channels keyless

-- ---- the keys forgotten one by one: those of the first i channels, but c's
abbrev pub but_first : ℕ → ℕ → List Channel → List Channel
but_first c i l = set (put_first keyless i l l) c (get_or l c blank)

module _ (l : List Channel) (c : ℕ) where
  -- the own one stays
  pub own_stays : c < length l → but_first c c l ≡ but_first c (suc c) l
  own_stays h =
      sym (set-set (put_first keyless c l l) c (keyless (get_or l c blank)) (get_or l c blank))
      ∙ ap (λ (t : List Channel). set t c (get_or l c blank)) (one_first keyless c l l blank h)

  -- another one goes
  pub other_goes : (i : ℕ) → i < length l → (c ≡ i → ⊥) → set (but_first c i l) i (keyless (get_or (but_first c i l) i blank)) ≡ but_first c (suc i) l
  other_goes i h ne =
      let same : get_or (but_first c i l) i blank ≡ get_or l i blank =
      get_or-set_other (put_first keyless i l l) c i (get_or l c blank) blank (λ e. ne (sym e)) ∙ next_first keyless i l l blank in
      ap (λ (x : Channel). set (but_first c i l) i (keyless x)) same
      ∙ set_comm (put_first keyless i l l) c i (get_or l c blank) (keyless (get_or l i blank)) ne
      ∙ ap (λ (t : List Channel). set t c (get_or l c blank)) (one_first keyless i l l blank h)

  all_gone : (i : ℕ) → 3 ≤ i → i ≤ 3 → length l ≡ 3 → but_first c i l ≡ all_but keyless blank l c
  all_gone i a b n =
      let e : i ≡ length l = omega arith in
      rw e (ap (λ (t : List Channel). set t c (get_or l c blank)) (all_first keyless l l refl))

-- and in the end all but c's, and CTRLPRESET's, which is number 3
module _ (p : Part) (c i : ℕ) (l : List Channel) (a : 3 ≤ i) (b : i ≤ 3) (n : length p.channels ≡ 3) (e : l ≡ but_first c i p.channels) where
  channels_left : l ≡ (forgotten p c).channels
  channels_left = e ∙ all_gone p.channels c i a b n

  pub own_left : c ≡ 3 → record { channels = l; be = p.be; mask = p.mask; key = p.key } ≡ forgotten p c
  own_left h =
      let key : (if eqb c 3 then p.key else false) ≡ p.key = sym (pick_true _ _ _ _ (eq-eqb c 3 h) refl) in
      rw (channels_left, key)

  pub part_left : (c ≡ 3 → ⊥) → record { channels = l; be = p.be; mask = p.mask; key = false } ≡ forgotten p c
  part_left h =
      let key : (if eqb c 3 then p.key else false) ≡ false = sym (pick-false _ _ _ _ (ne_eqb c 3 h) refl) in
      rw (channels_left, key)
