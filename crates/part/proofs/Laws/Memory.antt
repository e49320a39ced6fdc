-- The windows of the memory by the channel's number: the laws of windows, at the width of a channel's buffer.
use Rattle.std.specs.Prelude.{ℕ, ◌+◌, ◌-◌, ◌*◌, ◌<◌, ◌≤◌, List, ◌≡◌, length, take, drop}
use Rattle.std.proofs.Common.{ap}
use Rattle.std.proofs.Math.Nat.{add-sub_cancel_left}
use Rattle.std.proofs.Math.Seq.{drop-drop}
use borrow.Rule.Slice.PartMut.{put_mid}
use Rattle.laws.specs.Windows as windows
use Rattle.rules.specs.Numbers.{memory_size, buffer_size}
use Rattle.part.specs.State.{window, put_window}

-- a channel's window is a whole one
pub fits : (c : ℕ) (m : List ℕ) → c < 3 → length m ≡ memory_size → buffer_size * c + buffer_size ≤ length m
fits c m = windows.window_fits buffer_size 3 c m

pub length-window : (c : ℕ) (m : List ℕ) → buffer_size * c + buffer_size ≤ length m → length (window c m) ≡ buffer_size
unfolding window
length-window c m = windows.length-window buffer_size c m

pub length-put : (c : ℕ) (l m : List ℕ) → length l ≡ buffer_size → buffer_size * c + buffer_size ≤ length m → length (put_window c l m) ≡ length m
unfolding put_window
length-put c l m = windows.length-put_window buffer_size c l m

-- another channel's bytes are as they were
pub window_other : (c d : ℕ) (l m : List ℕ) → length l ≡ buffer_size → buffer_size * c + buffer_size ≤ length m → (c ≡ d → ⊥)
    → window d (put_window c l m) ≡ window d m
unfolding window put_window
window_other c d l m = windows.window_other buffer_size c d l m

-- two channels' bytes are put in either order
pub put-put : (c d : ℕ) (l k m : List ℕ) → length l ≡ buffer_size → length k ≡ buffer_size
    → buffer_size * c + buffer_size ≤ length m → buffer_size * d + buffer_size ≤ length m → (c ≡ d → ⊥)
    → put_window d k (put_window c l m) ≡ put_window c l (put_window d k m)
unfolding put_window
put-put c d l k m = windows.put_windows buffer_size c d l k m

-- ---- as code cuts a window out, by where it starts and where it ends
abbrev Start : ℕ → ℕ
Start c = buffer_size * c

abbrev Width : ℕ → ℕ
Width c = (Start c + buffer_size) - Start c

same_width : (c : ℕ) → Width c ≡ buffer_size
same_width c = add-sub_cancel_left (Start c) buffer_size

pub window_cut : (c : ℕ) (m : List ℕ) → take (Width c) (drop (Start c) m) ≡ window c m
unfolding window
window_cut c m = ap (λ (w : ℕ). take w (drop (Start c) m)) (same_width c)

pub window_put : (c : ℕ) (l m : List ℕ) → put_mid (Start c) (Width c) m l ≡ put_window c l m
unfolding put_window
window_put c l m = rw (same_width c, drop-drop buffer_size (Start c))
