-- Windows of a list: w elements from a on, and the list with others in their place. Laws at any place, width and element type: windows
-- that lie apart do not disturb each other; and so windows of one width, one after the other, by their number.
use Rattle.std.specs.Prelude.{ℕ, suc, ◌+◌, ◌-◌, ◌*◌, ◌<◌, ◌≤◌, Bool, true, false, ◌≡◌, refl, List, [], ◌∷◌, ◌++◌, ltb, length, take, drop, set}
use Rattle.std.proofs.Common.{sym, ◌∙◌, ap, append_assoc, mul-le-mul_left, arith, ltb-true, ltb-false, length-take, length-drop, drop-set-lt}
use Rattle.std.proofs.lemmas.List.Edits.{sets, sets-eq}
use Rattle.std.proofs.Math.Seq.{length-sets}
use Rattle.std.proofs.lemmas.List.{set_comm, take-set-le, drop-set-add}

abbrev cut : {A : Type 0} → ℕ → ℕ → List A → List A
cut a w m = take w (drop a m)

abbrev put : {A : Type 0} → ℕ → ℕ → List A → List A → List A
put a w l m = take a m ++ (l ++ drop (a + w) m)

-- two windows of width w, from a and from b, lie apart
data Clear (w a b : ℕ) : Type 0 where
  below : a + w ≤ b → Clear w a b
  above : b + w ≤ a → Clear w a b

module _ {A : Type 0} where
  -- a store before a list's place, and the list's
  set-sets : (vs m : List A) (i j : ℕ) (v : A) → j < i → set (sets m i vs) j v ≡ sets (set m j v) i vs
  set-sets [] m i j v h = refl
  set-sets (x ∷ vs) m i j v h =
      let h' : j < suc i = omega arith in
      let ne : i ≡ j → ⊥ = λ e. omega arith in
      set-sets vs (set m i x) (suc i) j v h' ∙ ap (λ (t : List A). sets t (suc i) vs) (set_comm m i j x v ne)

  sets_comm : (l k m : List A) (a b : ℕ) → a + length l ≤ b → sets (sets m a l) b k ≡ sets (sets m b k) a l
  sets_comm [] k m a b h = refl
  sets_comm (x ∷ l) k m a b h =
      let h' : suc a + length l ≤ b = omega arith in
      let lt : a < b = omega arith in
      sets_comm l k (set m a x) (suc a) b h' ∙ ap (λ (t : List A). sets t (suc a) l) (sym (set-sets k m b a x lt))

  drop-sets : (l m : List A) (a b : ℕ) → a + length l ≤ b → drop b (sets m a l) ≡ drop b m
  drop-sets [] m a b h = refl
  drop-sets (x ∷ l) m a b h =
      let h' : suc a + length l ≤ b = omega arith in
      let lt : a < b = omega arith in
      drop-sets l (set m a x) (suc a) b h' ∙ drop-set-lt b m a x lt

  take-set_past : (m : List A) (a b w : ℕ) (x : A) → b + w ≤ a → take w (drop b (set m a x)) ≡ take w (drop b m)
  take-set_past m a b w x h =
      let e : a ≡ b + (a - b) = omega arith in
      let h' : w ≤ a - b = omega arith in
      ap (λ (i : ℕ). take w (drop b (set m i x))) e
      ∙ ap (take w) (drop-set-add b m (a - b) x)
      ∙ take-set-le w (drop b m) (a - b) x h'

  take-sets_past : (l m : List A) (a b w : ℕ) → b + w ≤ a → take w (drop b (sets m a l)) ≡ take w (drop b m)
  take-sets_past [] m a b w h = refl
  take-sets_past (x ∷ l) m a b w h =
      let h' : b + w ≤ suc a = omega arith in
      take-sets_past l (set m a x) (suc a) b w h' ∙ take-set_past m a b w x h

  -- a window that is put is a run of stores
  put-sets : (a w : ℕ) (l m : List A) → length l ≡ w → a + w ≤ length m → put a w l m ≡ sets m a l
  put-sets a w l m e h =
      let h' : a + length l ≤ length m = rw e h in
      sym (sets-eq l m a h' ∙ rw e (append_assoc (take a m) l (drop (a + w) m)))

  length_cut : (a w : ℕ) (m : List A) → a + w ≤ length m → length (cut a w m) ≡ w
  length_cut a w m h = simp (length-take, length-drop) (omega arith)

  length-put : (a w : ℕ) (l m : List A) → length l ≡ w → a + w ≤ length m → length (put a w l m) ≡ length m
  length-put a w l m e h = ap length (put-sets a w l m e h) ∙ length-sets m a l

  -- another window is as it was
  cut-put_other : (a b w : ℕ) (l m : List A) → length l ≡ w → a + w ≤ length m → Clear w a b → cut b w (put a w l m) ≡ cut b w m
  cut-put_other a b w l m e h (below k) =
      let k' : a + length l ≤ b = omega arith in
      ap (cut b w) (put-sets a w l m e h) ∙ ap (take w) (drop-sets l m a b k')
  cut-put_other a b w l m e h (above k) = ap (cut b w) (put-sets a w l m e h) ∙ take-sets_past l m a b w k

  -- two windows are put in either order
  put-put : (a b w : ℕ) (l k m : List A) → length l ≡ w → length k ≡ w → a + w ≤ length m → b + w ≤ length m → Clear w a b
      → put b w k (put a w l m) ≡ put a w l (put b w k m)
  put-put a b w l k m e f h g s =
      let h' : a + w ≤ length (put b w k m) = rw (length-put b w k m f g) h in
      let g' : b + w ≤ length (put a w l m) = rw (length-put a w l m e h) g in
      put-sets b w k (put a w l m) f g'
      ∙ ap (λ (t : List A). sets t b k) (put-sets a w l m e h)
      ∙ go s
      ∙ ap (λ (t : List A). sets t a l) (sym (put-sets b w k m f g))
      ∙ sym (put-sets a w l (put b w k m) e h')
    where
      go : Clear w a b → sets (sets m a l) b k ≡ sets (sets m b k) a l
      go (below c) = sets_comm l k m a b (omega arith)
      go (above c) = sym (sets_comm k l m b a (omega arith))

-- ---- by number: windows of width w, one after the other

-- window c
abbrev pub window_of : {A : Type 0} → ℕ → ℕ → List A → List A
window_of w c m = cut (w * c) w m

-- the list with l in its place
abbrev pub put_window_of : {A : Type 0} → ℕ → ℕ → List A → List A → List A
put_window_of w c l m = put (w * c) w l m

-- a window ends where a later one starts, or before
ends_before : (w c d : ℕ) → c < d → w * c + w ≤ w * d
ends_before w c d h = omega (arith, mul-le-mul_left w h)

clear : (w c d : ℕ) → (c ≡ d → ⊥) → Clear w (w * c) (w * d)
clear w c d ne = go (ltb c d) refl
  where
    go : (b : Bool) → ltb c d ≡ b → Clear w (w * c) (w * d)
    go true t = below (ends_before w c d (ltb-true c d t))
    go false t = let le : d ≤ c = ltb-false c d t in above (ends_before w d c (omega arith))

module _ {A : Type 0} where
  -- each of n windows is a whole one
  pub window_fits : (w n c : ℕ) (m : List A) → c < n → length m ≡ w * n → w * c + w ≤ length m
  window_fits w n c m h e = rw e (ends_before w c n h)

  pub length-window : (w c : ℕ) (m : List A) → w * c + w ≤ length m → length (window_of w c m) ≡ w
  length-window w c m = length_cut (w * c) w m

  pub length-put_window : (w c : ℕ) (l m : List A) → length l ≡ w → w * c + w ≤ length m → length (put_window_of w c l m) ≡ length m
  length-put_window w c l m = length-put (w * c) w l m

  -- another window is as it was
  pub window_other : (w c d : ℕ) (l m : List A) → length l ≡ w → w * c + w ≤ length m → (c ≡ d → ⊥) → window_of w d (put_window_of w c l m) ≡ window_of w d m
  window_other w c d l m e h ne = cut-put_other (w * c) (w * d) w l m e h (clear w c d ne)

  -- two windows are put in either order
  pub put_windows : (w c d : ℕ) (l k m : List A) → length l ≡ w → length k ≡ w → w * c + w ≤ length m → w * d + w ≤ length m → (c ≡ d → ⊥)
      → put_window_of w d k (put_window_of w c l m) ≡ put_window_of w c l (put_window_of w d k m)
  put_windows w c d l k m e f h g ne = put-put (w * c) (w * d) w l k m e f h g (clear w c d ne)
