-- What the steps of the code come to: one channel's in its place, and an edge channel by channel.
use Rattle.std.specs.Prelude.{ℕ, suc, ◌+◌, ◌-◌, ◌*◌, ◌<◌, ◌≤◌, Bool, true, false, ◌&&◌, List, [], ◌∷◌, ◌≡◌, refl, length, set, take, drop, if◌then◌else◌}
use Rattle.std.specs.List.{list_all}
use Rattle.std.proofs.Common.{sym, ◌∙◌, ap, arith}
use Rattle.std.proofs.Math.Seq.{drop-cons}
use lib.ListN.{drop_of_length-le}
use borrow.Rule.Slice.PartMut.{put_mid}
use Rattle.rules.specs.Numbers.{buffer_size, done}
use Rattle.rules.specs.declared.wires.Edge.{Edge}
use Rattle.interrupt.specs.Interrupt.{be_after}
use Rattle.rules.specs.declared.wires.Action.{Action}
use Rattle.steps.specs.declared.map.Op.{Op}
use Rattle.steps.specs.Answer.{quiet}
use Rattle.head.specs.declared.state.Answer.{Answer}
use Rattle.channel.specs.declared.state.Channel.{Channel}
use Rattle.channel.specs.declared.state.Stepped.{Stepped}
use Rattle.channel.specs.Facts.{Accepted}
use Rattle.channel.specs.Range.{in_range}
use Rattle.channel.specs.State.{Served, leaving, stepped}
use Rattle.channel.specs.Step.{served_by}
use Rattle.channel.specs.Wires.{triggered}
use Rattle.part.specs.declared.state.Part.{Part}
use Rattle.part.specs.State.{blank, chan, window, put_window, given}
use Rattle.part.specs.Step.{one_after, answer_at, one_told, one_step, one_bytes, edge_channel, edge_act, edge_be, trigger_step, channels_in, part_in}
use Rattle.part.proofs.Laws.Each.{put_first, next_first, one_first, all_first}
use Rattle.part.proofs.Laws.Memory.{window_cut, window_put}
use Rattle.part.proofs.Laws.Range.{chan-in_range}

-- each channel in range is all of them
pub all_in : (l : List Channel) → list_all in_range l ≡ channels_in l
unfolding channels_in
all_in [] = refl
all_in (x ∷ l) = go (in_range x) (all_in l)
  where
    go : (b : Bool) → list_all in_range l ≡ channels_in l → (b && list_all in_range l) ≡ (if b then channels_in l else false)
    go true e = e
    go false e = refl

-- ---- one channel's step, on the bytes that the code cuts out
module _ (p : Part) (m : List ℕ) (c : ℕ) where
  abbrev Cut : List ℕ
  Cut = take ((buffer_size * c + buffer_size) - buffer_size * c) (drop (buffer_size * c) m)

  pub cut_accepted : Accepted (chan p c) (window c m) → Accepted (chan p c) Cut
  cut_accepted w = rw (window_cut c m) w

  pub one_served_in : (op : Op) (x : Channel) (a : Answer) (l : List ℕ) → leaving l (stepped x a) ≡ served_by (chan p c) Cut c op
      → (given (one_after p c x (be_after p.be a.number)) (answer_at c a) ≡ one_step p m c op)
      × (put_mid (buffer_size * c) ((buffer_size * c + buffer_size) - buffer_size * c) m l ≡ one_bytes p m c op)
  unfolding one_step one_bytes
  one_served_in op x a l e =
      let all = e ∙ ap (λ (t : List ℕ). served_by (chan p c) t c op) (window_cut c m) in
      (ap (λ (y : Served). one_told p c y.stepped) all, window_put c l m ∙ ap (λ (y : Served). put_window c y.bytes m) all)

-- ---- an edge: q and these actions are the part p and no actions, after the edge reached the first i channels
pub record Edged (edge : Edge) (p : Part) (i : ℕ) (q : Part) (acts : List Action) : Type 0 where
  pub channels : q.channels ≡ put_first (edge_channel edge) i p.channels p.channels
  pub actions : acts ≡ put_first (edge_act edge) i p.channels quiet
  pub be : edge_be edge q.be (drop i p.channels) ≡ edge_be edge p.be p.channels
  pub mask : q.mask ≡ p.mask
  pub key : q.key ≡ p.key

module _ (edge : Edge) (p : Part) (i : ℕ) (q : Part) (acts : List Action) (w : Edged edge p i q acts) where
  pub next_at : chan q i ≡ chan p i
  next_at = rw w.channels (next_first (edge_channel edge) i p.channels p.channels blank)

  pub next_in_range : part_in p ≡ true → in_range (chan q i) ≡ true
  next_in_range e = rw next_at (chan-in_range p i e)

  pub next_edged : i < length p.channels → (x : Channel) (a : Answer) → stepped x a ≡ triggered (chan q i) edge
      → Edged edge p (suc i) (record { channels = set q.channels i x; be = be_after q.be a.number; mask = q.mask; key = q.key }) (set acts i a.action)
  next_edged h x a e =
      let told = e ∙ ap (λ (y : Channel). triggered y edge) next_at in
      record {
        channels = rw (ap (λ (y : Stepped). y.channel) told, w.channels) (one_first (edge_channel edge) i p.channels p.channels blank h);
        actions = rw (ap (λ (y : Stepped). y.answer.action) told, w.actions) (one_first (edge_act edge) i p.channels quiet blank h);
        be = rw (ap (λ (y : Stepped). y.answer.number) told) (ap (edge_be edge q.be) (sym (drop-cons p.channels i blank h)) ∙ w.be);
        mask = w.mask;
        key = w.key;
      }

-- and then all of them
pub all_edged : (edge : Edge) (p q : Part) (acts : List Action) (i : ℕ) → 3 ≤ i → i ≤ 3 → length p.channels ≡ 3 → Edged edge p i q acts
    → given q (record { number = done; value = 0; actions = acts }) ≡ trigger_step p edge
unfolding trigger_step
all_edged edge p q acts i a b n w =
    let l = p.channels in
    let e : i ≡ length l = omega arith in
    let channels = w.channels ∙ ap (λ (k : ℕ). put_first (edge_channel edge) k l l) e ∙ all_first (edge_channel edge) l l refl in
    let actions = w.actions ∙ ap (λ (k : ℕ). put_first (edge_act edge) k l quiet) e ∙ all_first (edge_act edge) l quiet n in
    let be : q.be ≡ edge_be edge p.be l = ap (edge_be edge q.be) (sym (drop_of_length-le l {i = i} (omega arith))) ∙ w.be in
    rw (channels, actions, be, w.mask, w.key)
