-- No step of the part leads out of range, and a step keeps the number of bytes.
use Rattle.std.specs.Prelude.{ℕ, zero, suc, ◌/◌, ◌%◌, ◌<◌, Bool, true, List, [], ◌∷◌, map, ◌≡◌, length, set}
use Rattle.std.proofs.Math.Path.{refl, sym}
use Rattle.std.proofs.Common.{◌∙◌, arith}
use borrow.Author.Tests.{eq-eqb}
use Rattle.std.proofs.lemmas.List.{length-replicate}
use Rattle.laws.specs.Cases.{pick_holds, both, with}
use Rattle.rules.specs.Numbers.{buffer_size, memory_size}
use Rattle.rules.specs.declared.parts.Device.{Device}
use Rattle.rules.specs.declared.parts.Kind.TheVariants.{Fm}
use Rattle.rules.specs.Parts.{strapped, other_kind}
use Rattle.rules.specs.Access.{key_after, resets_of}
use Rattle.bounds.proofs.Laws.Range.{of_kinds}
use Rattle.interrupt.specs.Interrupt.{be_after, ctrl_kept, mask_in}
use Rattle.rules.specs.declared.wires.Edge.{Edge}
use Rattle.steps.specs.declared.map.Op.{Op}
use Rattle.steps.specs.declared.map.Ctrl.{Ctrl}
use Rattle.steps.specs.declared.map.Ctrl.TheVariants.{Ctrlstatus, Ctrlintmsk, Reserved, DeviceId, Ctrlpreset, Nothing, Ctrlrdy}
use Rattle.steps.specs.declared.map.Step.{Step}
use Rattle.steps.specs.declared.map.Target.{Target}
use Rattle.steps.specs.declared.map.Wide.{Wide}
use Rattle.steps.specs.declared.map.Target.TheVariants.{One, All}
use Rattle.steps.specs.declared.map.Wide.TheVariants.{CtrlWrite, CtrlRead, AllTrigger, AllReset, Beyond}
use Rattle.steps.specs.Map.{target_of}
use Rattle.steps.specs.Keys.{ctrlpreset_of}
use Rattle.steps.proofs.Laws.Keys.{left_of_lem}
use Rattle.steps.proofs.Laws.Map.{in_part}
use Rattle.steps.specs.Facts.{InPart}
use Rattle.channel.specs.declared.state.Channel.{Channel}
use Rattle.head.specs.Range.{head_in}
use Rattle.channel.specs.Range.{in_range}
use Rattle.channel.specs.Facts.{Accepted}
use Rattle.channel.proofs.Laws.Kept.{serves_in_range, fresh-in_range, served_length}
use Rattle.channel.proofs.Laws.Frames.{trigger_in_range}
use Rattle.channel.proofs.Laws.Straps.{served_keeps, triggered_keeps}
use Rattle.part.specs.declared.state.Part.{Part}
use Rattle.part.specs.declared.state.PartStepped.{PartStepped}
use Rattle.part.specs.State.{chan, fresh_part, device_of, wiped, window, with_key, keyless, forgotten}
use Rattle.part.specs.Registers.{ctrl_read, ctrl_written, ctrl_put, ctrl_store}
use Rattle.part.specs.Step.{edge_channel, one_after, all_served, all_stored, one_served, one_step, one_bytes, trigger_step, target_served, target_stored, forgetting, part_served, part_stored, channels_in, own_kinds, part_in, accepts, part_step, part_bytes}
use Rattle.part.proofs.Laws.Chosen.{SameStraps, set_related, map_related, kinds_kept, forgotten_keeps}
use Rattle.part.proofs.Laws.Memory.{fits, length-window, length-put}
use Rattle.part.proofs.Laws.Range.{accepts-whole, chan-in_range}
use Rattle.part.specs.Facts.{Whole}

-- ---- the channels: with one in range in c's place, and each by a function that keeps it in range
pub set_in : (l : List Channel) (c : ℕ) (x : Channel) → channels_in l ≡ true → in_range x ≡ true → channels_in (set l c x) ≡ true
unfolding channels_in
set_in [] c x e h = e
set_in (y ∷ l) zero x e h = with _ _ h (both _ _ e).1
set_in (y ∷ l) (suc c) x e h = let b = both _ _ e in with _ _ b.0 (set_in l c x b.1 h)

map_in : (f : Channel → Channel) → ((x : Channel) → in_range x ≡ true → in_range (f x) ≡ true) → (l : List Channel) → channels_in l ≡ true → channels_in (map f l) ≡ true
unfolding channels_in
map_in f k [] e = e
map_in f k (x ∷ l) e = let b = both _ _ e in with _ _ (k x b.0) (map_in f k l b.1)

-- ---- in range: the channels, CTRLINTMSK, and the kinds
abbrev In : Part → Type 0
In p = (channels_in p.channels ≡ true) × (mask_in p.mask ≡ true) × (own_kinds p ≡ true)

in_of : (p : Part) → part_in p ≡ true → In p
unfolding part_in
in_of p e =
    let b = both _ _ e in
    let c = both _ _ b.1 in (b.0, c.0, c.1)

of_in : (p : Part) → In p → part_in p ≡ true
unfolding part_in
of_in p h = with _ _ h.0 (with _ _ h.1 h.2)

Good : PartStepped → Type 0
Good r = In r.part

fresh_in : (d : Device) → In (fresh_part d)
unfolding channels_in
fresh_in d =
    let other = fresh-in_range (strapped (other_kind d)) in
    (with _ _ (fresh-in_range (strapped Fm)) (with _ _ other (with _ _ other refl)), refl, of_kinds d)

-- ---- the channels of a part that no. 9 does not refuse are accepted, each with its own bytes
pub chan_accepted : (p : Part) (m : List ℕ) (c : ℕ) → c < 3 → Whole p m → Accepted (chan p c) (window c m)
chan_accepted p m c h w = record { ranged = chan-in_range p c w.ranged; whole = length-window c m (fits c m h w.whole) }

-- a channel in range of which the same was chosen, in the place of channel c
pub put_in_range : (p : Part) (c : ℕ) (x : Channel) (be : Bool) → part_in p ≡ true → in_range x ≡ true → x.head.straps ≡ (chan p c).head.straps
    → part_in (one_after p c x be) ≡ true
put_in_range p c x be e r s =
    let h = in_of p e in
    of_in _ (set_in p.channels c x h.0 r, h.1, kinds_kept p (one_after p c x be) (set_related SameStraps (λ _. refl) p.channels c x s) h.2)

module _ (p : Part) (h : In p) where
  one_in : (m : List ℕ) (c : ℕ) (op : Op) → length m ≡ memory_size → c < 3 → Good (one_step p m c op)
  unfolding Good one_step
  one_in m c op whole q =
      let a = chan_accepted p m c q (record { ranged = of_in p h; whole = whole }) in
      let r = (one_served p m c op).stepped in
      in_of _
      (put_in_range p c r.channel (be_after p.be r.answer.number) (of_in p h) (serves_in_range (chan p c) (window c m) c op a)
      (served_keeps (chan p c) (window c m) c op).straps)

  trigger_in : (edge : Edge) → Good (trigger_step p edge)
  unfolding Good trigger_step
  trigger_in edge = (map_in (edge_channel edge) (λ x e. trigger_in_range x edge e) p.channels h.0, h.1, kinds_kept p (trigger_step p edge).part (map_related SameStraps (λ _. refl) (edge_channel edge) (λ x. (triggered_keeps x edge).straps) p.channels) h.2)

  read_in : (reg : Ctrl) → Good (ctrl_read p reg)
  unfolding Good ctrl_read
  read_in Ctrlstatus = h
  read_in Ctrlintmsk = h
  read_in Reserved = h
  read_in DeviceId = h
  read_in Ctrlpreset = h
  read_in Nothing = h
  read_in Ctrlrdy = h

  kept_in : (v : ℕ) → ctrl_kept v / 8 % 16 ≡ 0
  kept_in v = omega arith

  written_in : (key : Bool) (reg : Ctrl) (v : ℕ) → Good (ctrl_written (with_key p key) reg v)
  unfolding Good ctrl_written
  written_in key Ctrlstatus v = h
  written_in key Ctrlintmsk v = (h.0, eq-eqb _ _ (kept_in v), h.2)
  written_in key Reserved v = h
  written_in key DeviceId v = h
  written_in key Ctrlpreset v = h
  written_in key Nothing v = h
  written_in key Ctrlrdy v = h

  put_in : (reg : Ctrl) (v : ℕ) → Good (ctrl_put p reg v)
  unfolding ctrl_put Good
  put_in reg v = pick_holds Good (resets_of (ctrlpreset_of reg) v p.key) (λ _. fresh_in (device_of p)) (λ _. written_in (key_after (ctrlpreset_of reg) v) reg v)

  all_in : (t : Wide) → Good (all_served p t)
  unfolding all_served Good
  all_in (CtrlWrite reg v) = put_in reg v
  all_in (CtrlRead reg) = read_in reg
  all_in (AllTrigger edge) = trigger_in edge
  all_in (AllReset d) = fresh_in d
  all_in Beyond = h

  target_in : (m : List ℕ) (t : Target) → length m ≡ memory_size → InPart t → Good (target_served p m t)
  unfolding target_served
  target_in m (One op c) whole q = one_in m c op whole q
  target_in m (All t) whole q = all_in t

  -- ---- a key forgotten
  keyless_in : (x : Channel) → in_range x ≡ true → in_range (keyless x) ≡ true
  unfolding in_range head_in
  keyless_in x e = e

  forgotten_in : (c : ℕ) → In (forgotten p c)
  forgotten_in c = (set_in _ c _ (map_in keyless keyless_in p.channels h.0) (chan-in_range p c (of_in p h)), h.1, kinds_kept p (forgotten p c) (λ d. (forgotten_keeps p c d).straps) h.2)

  left_in : (t : Target) → In (forgetting t p)
  unfolding forgetting
  left_in = left_of_lem In forgotten p h forgotten_in

served_in_lem : (p : Part) → In p → (m : List ℕ) (t : Target) → length m ≡ memory_size → InPart t → Good (part_served p m t)
unfolding part_served
served_in_lem p h m t whole q = target_in (forgetting t p) (left_in p h t) m t whole q

-- no. 9 refuses nothing after keys were forgotten either
pub forgotten-whole : (p : Part) (m : List ℕ) (c : ℕ) → Whole p m → Whole (forgotten p c) m
forgotten-whole p m c w = record { ranged = of_in _ (forgotten_in p (in_of p w.ranged) c); whole = w.whole }

pub left-whole : (p : Part) (m : List ℕ) (t : Target) → Whole p m → Whole (forgetting t p) m
left-whole p m t w = record { ranged = of_in _ (left_in p (in_of p w.ranged) t); whole = w.whole }

-- NO STEP LEADS OUT OF RANGE
pub part_stays_in_range : (p : Part) (m : List ℕ) (s : Step) → part_in p ≡ true → part_in (part_step p m s).part ≡ true
unfolding part_step Good
part_stays_in_range p m s e =
    let h = in_of p e in
    of_in _ (pick_holds Good (accepts p (length m)) (λ t. served_in_lem p h m (target_of s) (accepts-whole p m t).whole (in_part s)) (λ _. h))

-- the reset state of each part is in range
pub fresh_part-in_range : (d : Device) → part_in (fresh_part d) ≡ true
fresh_part-in_range d = of_in (fresh_part d) (fresh_in d)

-- ---- A STEP KEEPS THE NUMBER OF BYTES
wiped-length : length wiped ≡ memory_size
unfolding wiped
wiped-length = length-replicate {A = ℕ} memory_size 0

Same : List ℕ → List ℕ → Type 0
Same m l = length l ≡ length m

module _ (p : Part) (m : List ℕ) (w : Whole p m) where
  pub one-length : (c : ℕ) (op : Op) → c < 3 → length (one_served p m c op).bytes ≡ buffer_size
  one-length c op h = let a = chan_accepted p m c h w in served_length (chan p c) (window c m) c op a ∙ a.whole

  one_bytes-length : (c : ℕ) (op : Op) → c < 3 → length (one_bytes p m c op) ≡ length m
  unfolding one_bytes
  one_bytes-length c op h = length-put c _ m (one-length c op h) (fits c m h w.whole)

  all-length : (t : Wide) → length (all_stored p m t) ≡ length m
  unfolding all_stored ctrl_store Same
  all-length (CtrlWrite reg v) = pick_holds (Same m) (resets_of (ctrlpreset_of reg) v p.key) (λ _. wiped-length ∙ sym w.whole) (λ _. refl)
  all-length (CtrlRead reg) = refl
  all-length (AllTrigger edge) = refl
  all-length (AllReset d) = wiped-length ∙ sym w.whole
  all-length Beyond = refl

  target_length : (t : Target) → InPart t → Same m (target_stored p m t)
  unfolding target_stored Same
  target_length (One op c) h = one_bytes-length c op h
  target_length (All t) h = all-length t

stored-length : (p : Part) (m : List ℕ) → Whole p m → (t : Target) → InPart t → Same m (part_stored p m t)
unfolding part_stored
stored-length p m w t h = target_length (forgetting t p) m (left-whole p m t w) t h

pub part_length : (p : Part) (m : List ℕ) (s : Step) → length (part_bytes p m s) ≡ length m
unfolding part_bytes Same
part_length p m s =
    pick_holds (Same m) (accepts p (length m))
    (λ t. stored-length p m (accepts-whole p m t) (target_of s) (in_part s))
    (λ _. refl)

-- ---- what no. 9 does not refuse, it does not refuse after a step either
pub whole-kept : (p : Part) (m : List ℕ) (s : Step) → Whole p m → Whole (part_step p m s).part (part_bytes p m s)
whole-kept p m s w = record { ranged = part_stays_in_range p m s w.ranged; whole = part_length p m s ∙ w.whole }
