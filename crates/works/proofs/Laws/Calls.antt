-- The call of a work, on a single channel and on the part: what a function has to show.
use Rattle.std.specs.Prelude.{ℕ, zero, suc, ◌+◌, ◌-◌, ◌*◌, ◌<◌, ◌≤◌, Bool, List, ◌++◌, Result, Ok, Err, ◌≡◌, eqb, length, take, drop, if◌then◌else◌}
use Rattle.std.proofs.Math.Bool.{true, false}
use Rattle.std.proofs.Math.Path.{refl, sym, ap}
use Rattle.std.proofs.Common.{◌∙◌, arith, take-append-drop}
use Rattle.std.proofs.Math.Nat.{add-sub_cancel_left}
use borrow.Author.Tests.{eq-eqb, ne_eqb, eqb-true, ltb-true, ltb-false, lt-ltb, le-ltb}
use Rattle.std.proofs.Math.Dec.{ltb}
use Rattle.std.proofs.Math.ListN.{set}
use Rattle.std.proofs.Math.Seq.{drop-drop, set-get_or}
use Rattle.laws.specs.Cases.{pick_true, pick-false, not_refused, accepted}
use Rattle.rules.specs.declared.wires.Action.TheVariants.{Nothing}
use Rattle.rules.specs.declared.numbers.Refusal.{Refusal}
use Rattle.rules.specs.Numbers.{buffer_size, done, nowhere, out_of_range, past_buffer, refusal_number, number_of}
use Rattle.rules.proofs.Laws.Numbers.{refusal_positive, done_at_ok}
use Rattle.interrupt.specs.Interrupt.{be_after}
use Rattle.steps.specs.Answer.{quiet, only_at}
use Rattle.head.specs.State.{refused}
use Rattle.channel.specs.declared.state.Channel.{Channel}
use Rattle.channel.specs.declared.state.Stepped.{Stepped}
use Rattle.channel.specs.Facts.{Accepted}
use Rattle.channel.specs.Range.{in_range}
use Rattle.channel.specs.State.{on}
use Rattle.channel.specs.Step.{range_number}
use Rattle.part.specs.declared.state.Part.{Part}
use Rattle.part.specs.declared.state.PartStepped.{PartStepped}
use Rattle.part.specs.State.{blank, chan, window, put_window, refused_part}
use Rattle.part.specs.Step.{accepts}
use Rattle.part.proofs.Laws.Kept.{chan_accepted}
use Rattle.part.proofs.Laws.Memory as memory
use Rattle.part.proofs.Laws.Range.{accepts-whole}
use Rattle.works.specs.State.{State, Accepted as Accepts}
use Rattle.works.specs.Work.{Own, Work, Reply, own_of, work_after, work_gives, reply_by, refusal, work_done, work_reply}
use Rattle.works.specs.Facts.{Did, call_number}
use Rattle.works.proofs.IdleWork.{idle_work}
use Rattle.works.specs.Idle.{Deed, Alone, deed_number, numbered, own_by, alone_given, alone_by, state_of, call_step, call_bytes, call_out}

-- ---- on a single channel, from no. 9
module _ (w : Work) (c : Channel) (m : List ℕ) (r : Result (Unit {0}) Refusal) (e : number_of r ≡ range_number (length m) (in_range c)) where
  -- refused: the record, the bytes and the buffer are left
  module _ (x : Refusal) (z : r ≡ Err x) (s : Stepped) (h : s ≡ on c (refused c.head (refusal_number x))) where
    alone_out : record { stepped = s; bytes = m; out = w.lent } ≡ alone_by w c m
    unfolding alone_by
    alone_out = rw (← e, z, h) (pick-false _ _ _ _ (ne_eqb (refusal_number x) 0 (λ q. let p = refusal_positive x in omega (arith, p, q))) refl)

    pub alone_refused : (s ≡ (alone_by w c m).stepped) × (m ≡ (alone_by w c m).bytes) × (w.lent ≡ (alone_by w c m).out)
    alone_refused = (ap (λ (x : Alone). x.stepped) alone_out, ap (λ (x : Alone). x.bytes) alone_out, ap (λ (x : Alone). x.out) alone_out)

  module _ (t : Unit {0}) (z : r ≡ Ok t) where
    passed : range_number (length m) (in_range c) ≡ done
    passed = sym e ∙ done_at_ok r t z

    pub alone_accepts : Accepted c m
    unfolding range_number
    alone_accepts =
        let a = accepted (eqb (length m) buffer_size) _ out_of_range (omega arith) passed in
        record { ranged = (accepted (in_range c) done out_of_range (omega arith) a.1).0; whole = eqb-true (length m) buffer_size a.0 }

    alone_in : alone_given (w.after (own_by c m)) (w.gives (own_by c m)) ≡ alone_by w c m
    unfolding alone_by
    alone_in = pick_true _ _ _ _ (eq-eqb _ 0 passed) refl

-- and a deed, done or refused
module _ (d : Deed) (c : Channel) (m : List ℕ) (r : Result (Unit {0}) Refusal) (e : number_of r ≡ range_number (length m) (in_range c)) (t : Unit {0}) (z : r ≡ Ok t)
    (x : Result (Unit {0}) Refusal) (q : Own) (l : List ℕ) (k : Did d (own_by c m) x q l) (s : Stepped) (h : s ≡ on q.channel (refused q.channel.head (number_of x))) where
  alone_all : record { stepped = s; bytes = q.bytes; out = l } ≡ alone_by (idle_work d) c m
  alone_all = rw (h, k.number, k.own, k.out) (alone_in (idle_work d) c m r e t z)

  pub alone_did : (s ≡ (alone_by (idle_work d) c m).stepped) × (q.bytes ≡ (alone_by (idle_work d) c m).bytes) × (l ≡ (alone_by (idle_work d) c m).out)
  alone_did = (ap (λ (x : Alone). x.stepped) alone_all, ap (λ (x : Alone). x.bytes) alone_all, ap (λ (x : Alone). x.out) alone_all)

-- ---- on the part, from the test of no. 9 and the channel's number

-- a window that is put back
window_same : (c : ℕ) (m : List ℕ) → put_window c (window c m) m ≡ m
unfolding window put_window
window_same c m =
    let a = buffer_size * c in
    ap (λ (t : List ℕ). take a m ++ (take buffer_size (drop a m) ++ t)) (sym (drop-drop buffer_size a m))
    ∙ ap (λ (t : List ℕ). take a m ++ t) (take-append-drop buffer_size (drop a m))
    ∙ take-append-drop a m

module _ (w : Work) (p : Part) (m : List ℕ) (c : ℕ) where
  -- what is given back, and what is left, where the call does t and replies q
  module _ (t : State) (q : Reply) (d : work_done (state_of p m) c w ≡ t) (g : work_reply (state_of p m) c w ≡ q) where
    steps_are : record { part = t.part; answer = q.answer } ≡ call_step w p m c
    steps_are = λ i. record { part = (sym d i).part; answer = (sym g i).answer }

    bytes_are : t.memory ≡ call_bytes w p m c
    bytes_are = ap (λ (x : State). x.memory) (sym d)

    out_is : q.out ≡ call_out w p m c
    out_is = ap (λ (x : Reply). x.out) (sym g)

  -- before the work, from no. 9 and no. 1
  module _ (r : Result (Unit {0}) Refusal) (e : number_of r ≡ call_number p (length m) c) where
    abbrev Outside : ℕ → Type 0
    Outside k = (k ≡ 0 → ⊥) → (work_done (state_of p m) c w ≡ state_of p m) × (work_reply (state_of p m) c w ≡ refusal (state_of p m) w k)

    outside_by : (a b : Bool) → accepts p (length m) ≡ a → ltb 2 c ≡ b → Outside (if a then (if b then nowhere else done) else out_of_range)
    unfolding work_done work_reply
    outside_by true true t u z = let l = le-ltb c 3 (let k = ltb-true 2 c u in omega (arith, k)) in (rw (t, l), rw (t, l))
    outside_by true false t u z = absurd (z refl)
    outside_by false b t u z = (rw t, rw t)

    outside : Outside (number_of r)
    unfolding call_number
    outside = rw e (outside_by (accepts p (length m)) (ltb 2 c) refl refl)

    -- refused: the part, the memory and the buffer are left
    pub call_refused : (x : Refusal) → r ≡ Err x → (s : PartStepped) → s ≡ refused_part p (refusal_number x)
        → (s ≡ call_step w p m c) × (m ≡ call_bytes w p m c) × (w.lent ≡ call_out w p m c)
    call_refused x z s h =
        let n : number_of r ≡ refusal_number x = rw z in
        let o = outside (λ q. let p = refusal_positive x in omega (arith, n, p, q)) in
        let f = h ∙ (rw (← n)) in
        (f ∙ steps_are _ _ o.0 o.1, bytes_are _ _ o.0 o.1, out_is _ _ o.0 o.1)

    pub call_open : (t : Unit {0}) → r ≡ Ok t → (accepts p (length m) ≡ true) × (c ≤ 2)
    unfolding call_number
    call_open t z =
        let a = accepted (accepts p (length m)) _ out_of_range (omega arith) (sym e ∙ done_at_ok r t z) in
        (a.0, ltb-false 2 c (not_refused (ltb 2 c) nowhere done (omega arith) a.1).0)

  module _ (t : accepts p (length m) ≡ true) where
    module _ (low : c ≤ 2) where
      inside : ltb c 3 ≡ true
      inside = lt-ltb c 3 (omega arith)

      pub call_done : work_done (state_of p m) c w ≡ work_after (state_of p m) c w
      unfolding work_done
      call_done = rw (t, inside)

      pub call_replies : work_reply (state_of p m) c w ≡ reply_by c (work_gives (state_of p m) c w)
      unfolding work_reply
      call_replies = rw (t, inside)

      -- the window that is lent
      same_width : (buffer_size * c + buffer_size) - buffer_size * c ≡ buffer_size
      same_width = add-sub_cancel_left (buffer_size * c) buffer_size

      pub window-ends : buffer_size * c + buffer_size ≤ length m
      window-ends = memory.fits c m (omega arith) (accepts-whole p m t).whole

      pub window-lent : take ((buffer_size * c + buffer_size) - buffer_size * c) (drop (buffer_size * c) m) ≡ window c m
      unfolding window
      window-lent = rw same_width

      pub window_accepted : Accepted (chan p c) (take ((buffer_size * c + buffer_size) - buffer_size * c) (drop (buffer_size * c) m))
      window_accepted = rw window-lent (chan_accepted p m c (omega arith) (accepts-whole p m t))

      pub window-put : (l : List ℕ) → take (buffer_size * c) m ++ (l ++ drop ((buffer_size * c + buffer_size) - buffer_size * c) (drop (buffer_size * c) m)) ≡ put_window c l m
      unfolding put_window
      window-put l = rw (same_width, drop-drop buffer_size (buffer_size * c) m)

      -- a work that is no write, leaves the channel, and answers a number other than 5 and nothing else, leaves the part
      module _ (calm : w.writes ≡ false) (n : ℕ) (left : w.after (own_of (state_of p m) c) ≡ own_of (state_of p m) c) (says : (w.gives (own_of (state_of p m) c)).answer ≡ numbered n) (no-be : eqb n past_buffer ≡ false) where
        pub after_left : work_after (state_of p m) c w ≡ state_of p m
        unfolding work_after be_after
        after_left = rw (left, says, calm, no-be, set-get_or p.channels c blank, window_same c m)

quiet-left : (k : ℕ) → only_at k Nothing ≡ quiet
quiet-left zero = refl
quiet-left (suc zero) = refl
quiet-left (suc (suc zero)) = refl
quiet-left (suc (suc (suc k))) = refl

-- the call of a deed, done or refused: no number of it is 5, which sets BE
module _ (d : Deed) (p : Part) (m : List ℕ) (c : ℕ) (t : accepts p (length m) ≡ true) (low : c ≤ 2) (calm : eqb (deed_number d (own_of (state_of p m) c)) past_buffer ≡ false)
    (r : Result (Unit {0}) Refusal) (q : Own) (l : List ℕ) (k : Did d (own_of (state_of p m) c) r q l) where
  deed_left : record { part = record { channels = set p.channels c q.channel; be = p.be; mask = p.mask; key = p.key }; memory = put_window c q.bytes m } ≡ work_after (state_of p m) c (idle_work d)
  unfolding work_after be_after
  deed_left = rw (k.own, calm)

  deed_reply : record { answer = (refused_part p (number_of r)).answer; out = l } ≡ reply_by c (work_gives (state_of p m) c (idle_work d))
  unfolding work_gives
  deed_reply = rw (k.number, k.out, quiet-left c)

  pub call_did : (s : PartStepped) → s ≡ refused_part (record { channels = set p.channels c q.channel; be = p.be; mask = p.mask; key = p.key }) (number_of r)
      → (s ≡ call_step (idle_work d) p m c) × (put_window c q.bytes m ≡ call_bytes (idle_work d) p m c) × (l ≡ call_out (idle_work d) p m c)
  call_did s h =
      let w = idle_work d in
      let a = call_done w p m c t low ∙ sym deed_left in
      let g = call_replies w p m c t low ∙ sym deed_reply in
      (h ∙ steps_are w p m c _ _ a g, bytes_are w p m c _ _ a g, out_is w p m c _ _ a g)

-- ---- a call that is answered 0: no. 9 does not refuse the part, there is the channel, and the work is answered 0
module _ (w : Work) (s : State) (c : ℕ) where
  pub record Answered : Type 0 where
    pub accepted : Accepts s
    pub below : c < 3
    pub given : (w.gives (own_of s c)).answer.number ≡ 0
    pub out : (work_reply s c w).out ≡ (w.gives (own_of s c)).out

  answered_in : Accepts s → work_reply s c w ≡ (if ltb c 3 then reply_by c (work_gives s c w) else refusal s w 1) → (work_reply s c w).answer.number ≡ 0 → Answered
  unfolding work_gives
  answered_in g e z = go (ltb c 3) refl
    where
      go : (b : Bool) → ltb c 3 ≡ b → Answered
      go true t =
          let r : work_reply s c w ≡ reply_by c (work_gives s c w) = e ∙ (rw t) in
          record { accepted = g; below = ltb-true c 3 t; given = ap (λ (x : Reply). x.answer.number) (sym r) ∙ z; out = ap (λ (x : Reply). x.out) r }
      go false t = absurd (let q : work_reply s c w ≡ refusal s w 1 = e ∙ (rw t) in let r = ap (λ (x : Reply). x.answer.number) q in omega (arith, r, z))

  pub call_answered : (work_reply s c w).answer.number ≡ 0 → Answered
  unfolding work_reply
  call_answered z = go (accepts s.part (length s.memory)) refl
    where
      go : (b : Bool) → accepts s.part (length s.memory) ≡ b → Answered
      go true t = answered_in t (rw t) z
      go false t = absurd (let r : (work_reply s c w).answer.number ≡ 9 = rw t in omega (arith, r, z))
