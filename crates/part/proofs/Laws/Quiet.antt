-- AN EDGE THAT NO CHANNEL WAITS FOR DOES NOTHING, and where no key is pending none is forgotten.
use Rattle.std.specs.Prelude.{ℕ, Bool, true, false, List, [], ◌∷◌, map, ◌≡◌, refl, eqb, length, get_or, set, if◌then◌else◌}
use Rattle.std.proofs.Common.{sym, ◌∙◌, ap, subst, arith}
use Rattle.std.proofs.lemmas.Bool.{not-true}
use Rattle.std.proofs.lemmas.List.{set-get_or}
use Rattle.laws.specs.Cases.{past, pick_holds, false_not_true}
use Rattle.rules.specs.Numbers.{done}
use Rattle.rules.specs.declared.wires.Edge.{Edge}
use Rattle.interrupt.specs.Interrupt.{be_after}
use Rattle.sequence.specs.Wires.{edge_beat}
use Rattle.steps.specs.declared.map.Target.{Target}
use Rattle.steps.specs.declared.map.Target.TheVariants.{One, All}
use Rattle.steps.specs.Answer.{quiet}
use Rattle.steps.specs.Keys.{op_writes}
use Rattle.steps.proofs.Laws.Keys.{left_of_lem}
use Rattle.head.specs.State.{plain, with_key as head_keyed}
use Rattle.channel.specs.declared.state.Channel.{Channel}
use Rattle.channel.specs.State.{on, with_head}
use Rattle.channel.specs.Wires.{beaten, triggered}
use Rattle.part.specs.declared.state.Part.{Part}
use Rattle.part.specs.State.{blank, chan, told, all_but, keyless, forgotten}
use Rattle.part.specs.Step.{trigger_step, forgetting}
use Rattle.part.specs.Quiet.{unarmed_of, keyed_of, may_forget}

-- a list of three is its three elements
three_of : {A : Type 0} (d : A) (l : List A) → length l ≡ 3 → (get_or l 0 d ∷ get_or l 1 d ∷ get_or l 2 d ∷ []) ≡ l
three_of d [] h = absurd (let k : 0 ≡ 3 = h in omega (arith, k))
three_of d (a ∷ []) h = absurd (let k : 1 ≡ 3 = h in omega (arith, k))
three_of d (a ∷ b ∷ []) h = absurd (let k : 2 ≡ 3 = h in omega (arith, k))
three_of d (a ∷ b ∷ c ∷ []) h = refl
three_of d (a ∷ b ∷ c ∷ e ∷ l) h = absurd (let k : length (a ∷ b ∷ c ∷ e ∷ l) ≡ 3 = h in omega (arith, k))

-- an edge does nothing to a channel with TE 0
edge_unmoved : (c : Channel) (edge : Edge) → c.head.regs.te ≡ false → triggered c edge ≡ on c (plain c.head)
unfolding triggered edge_beat beaten
edge_unmoved c edge e = rw e

-- no key is pending
none : (b x : Bool) → (if b then true else x) ≡ false → (b ≡ false) × (x ≡ false)
none true x e = absurd (let z = false_not_true (sym e) in omega (arith, z))
none false x e = (refl, e)

keyless_same : (c : Channel) → c.head.key ≡ false → keyless c ≡ c
keyless_same c e = ap (λ (b : Bool). with_head c (head_keyed c.head b)) (sym e)

module _ (p : Part) (three : length p.channels ≡ 3) where
  -- nor to a part none of whose channels has TE 1
  pub unarmed_unmoved : (edge : Edge) → unarmed_of p ≡ true → trigger_step p edge ≡ told p done 0 quiet
  unfolding unarmed_of trigger_step be_after
  unarmed_unmoved edge e =
      let all = three_of blank p.channels three in
      let a = past (chan p 0).head.regs.te _ e in
      let b = past (chan p 1).head.regs.te _ a.1 in
      let x = edge_unmoved (chan p 0) edge a.0 in
      let y = edge_unmoved (chan p 1) edge b.0 in
      let z = edge_unmoved (chan p 2) edge (not-true (chan p 2).head.regs.te b.1) in
      let of : List Channel → Part = λ l. record { channels = l; be = p.be; mask = p.mask; key = p.key } in
      subst (λ (l : List Channel). trigger_step (of l) edge ≡ told (of l) done 0 quiet) all
      (λ i. record {
        part = record {
          channels = (x i).channel ∷ (y i).channel ∷ (z i).channel ∷ [];
          be = be_after (be_after (be_after p.be (x i).answer.number) (y i).answer.number) (z i).answer.number;
          mask = p.mask;
          key = p.key;
        };
        answer = record {
          number = done;
          value = 0;
          actions = (x i).answer.action ∷ (y i).answer.action ∷ (z i).answer.action ∷ [];
        };
      })

  but_same : (c : ℕ) → (chan p 0).head.key ≡ false → (chan p 1).head.key ≡ false → (chan p 2).head.key ≡ false → all_but keyless blank p.channels c ≡ p.channels
  but_same c a b d =
      let all : map keyless p.channels ≡ p.channels =
      subst (λ (l : List Channel). map keyless l ≡ l) (three_of blank p.channels three)
      (λ i. keyless_same (chan p 0) a i ∷ keyless_same (chan p 1) b i ∷ keyless_same (chan p 2) d i ∷ []) in
      ap (λ (l : List Channel). set l c (get_or p.channels c blank)) all ∙ set-get_or p.channels c blank

  forgotten_same : keyed_of p ≡ false → (c : ℕ) → forgotten p c ≡ p
  unfolding keyed_of
  forgotten_same e c =
      let a = none (chan p 0).head.key _ e in
      let b = none (chan p 1).head.key _ a.1 in
      let d = none (chan p 2).head.key _ b.1 in
      let key : (if eqb c 3 then p.key else false) ≡ p.key = pick_holds (λ (x : Bool). x ≡ p.key) (eqb c 3) (λ _. refl) (λ _. sym d.1) in
      rw (but_same c a.0 b.0 d.0, key)

  pub none_left : keyed_of p ≡ false → (t : Target) → forgetting t p ≡ p
  unfolding forgetting
  none_left e = left_of_lem (λ (x : Part). x ≡ p) forgotten p refl (forgotten_same e)

  -- a step forgets no key where it may forget none
  pub none_asked : (t : Target) → may_forget p t ≡ false → forgetting t p ≡ p
  unfolding forgetting
  none_asked (All t) e = none_left e (All t)
  none_asked (One op c) e = by_writing (op_writes op) refl e
    where
      by_writing : (b : Bool) → op_writes op ≡ b → (if b then keyed_of p else false) ≡ false → forgetting (One op c) p ≡ p
      by_writing true w k = none_left k (One op c)
      by_writing false w k = rw w
