-- A byte that is summed up of its bits, taken apart again.
use Rattle.std.specs.Prelude.{ℕ, ◌+◌, ◌*◌, ◌/◌, ◌%◌, ◌≤◌, Bool, true, false, ◌≡◌, refl, eqb}
use Rattle.std.proofs.Common.{◌∙◌, ap, arith, eq-eqb, ne_eqb, eqb-true}
use Rattle.std.proofs.lemmas.Bool.{eqb-false}
use Rattle.rules.specs.Registers.{weigh, bit_of}

-- ---- a bit as a number

ones : (b : Bool) (w : ℕ) → weigh b w ≡ weigh b 1 * w
unfolding weigh
ones true w = omega arith
ones false w = omega arith

at_most : (b : Bool) → weigh b 1 ≤ 1
unfolding weigh
at_most true = omega arith
at_most false = omega arith

pub no_bit : (w : ℕ) → weigh false w ≡ 0
unfolding weigh
no_bit w = refl

pub unset : (b : Bool) → weigh b 1 ≡ 0 → b ≡ false
unfolding weigh
unset true e = absurd (omega (arith, e))
unset false e = refl

bit_weighed : (b : Bool) (n : ℕ) → n ≡ weigh b 1 → eqb n 1 ≡ b
unfolding weigh
bit_weighed true n e = eq-eqb n 1 e
bit_weighed false n e = ne_eqb n 1 (λ k. omega (arith, e, k))

pub clear : (v w : ℕ) → v / w % 2 ≡ 0 → bit_of v w ≡ false
clear v w e = ne_eqb (v / w % 2) 1 (λ k. omega (arith, e, k))

pub same : (u v w : ℕ) → u / w % 2 ≡ v / w % 2 → bit_of u w ≡ bit_of v w
same u v w e = ap (λ (n : ℕ). eqb n 1) e

-- two numbers, each 0 where the other is
pub both_none : (m n : ℕ) → (m ≡ 0 → n ≡ 0) → (n ≡ 0 → m ≡ 0) → eqb m 0 ≡ eqb n 0
both_none m n f g = go (eqb m 0) refl
  where
    go : (a : Bool) → eqb m 0 ≡ a → eqb m 0 ≡ eqb n 0
    go true e = rw (e, eq-eqb n 0 (f (eqb-true m 0 e)))
    go false e = rw (e, ne_eqb n 0 (λ k. eqb-false m 0 e (g k)))

-- ---- eight bits

digits : (a b c d e f g h v : ℕ) → a ≤ 1 → b ≤ 1 → c ≤ 1 → d ≤ 1 → e ≤ 1 → f ≤ 1 → g ≤ 1 → h ≤ 1
    → v ≡ a * 0x80 + b * 0x40 + c * 0x20 + d * 0x10 + e * 0x08 + f * 0x04 + g * 0x02 + h
    → (v / 0x80 % 2 ≡ a) × (v / 0x40 % 2 ≡ b) × (v / 0x20 % 2 ≡ c) × (v / 0x10 % 2 ≡ d)
    × (v / 0x08 % 2 ≡ e) × (v / 0x04 % 2 ≡ f) × (v / 0x02 % 2 ≡ g) × (v / 0x01 % 2 ≡ h)
digits a b c d e f g h v a1 b1 c1 d1 e1 f1 g1 h1 s =
    (omega arith, omega arith, omega arith, omega arith, omega arith, omega arith, omega arith, omega arith)

module _ (a b c d e f g h : Bool) where
  -- the byte with these bits, 7 to 0
  abbrev pub byte_of : ℕ
  byte_of = weigh a 0x80 + weigh b 0x40 + weigh c 0x20 + weigh d 0x10 + weigh e 0x08 + weigh f 0x04 + weigh g 0x02 + weigh h 0x01

  by_ones : byte_of
      ≡ weigh a 1 * 0x80 + weigh b 1 * 0x40 + weigh c 1 * 0x20 + weigh d 1 * 0x10 + weigh e 1 * 0x08 + weigh f 1 * 0x04 + weigh g 1 * 0x02 + weigh h 1
  by_ones = rw (ones a 0x80, ones b 0x40, ones c 0x20, ones d 0x10, ones e 0x08, ones f 0x04, ones g 0x02)

  pub record Bits (v : ℕ) : Type 0 where
    pub seven : bit_of v 0x80 ≡ a
    pub six : bit_of v 0x40 ≡ b
    pub five : bit_of v 0x20 ≡ c
    pub four : bit_of v 0x10 ≡ d
    pub three : bit_of v 0x08 ≡ e
    pub two : bit_of v 0x04 ≡ f
    pub one : bit_of v 0x02 ≡ g
    pub zero : bit_of v 0x01 ≡ h

  pub bits : (v : ℕ) → v ≡ byte_of → Bits v
  bits v s =
      let n = digits _ _ _ _ _ _ _ _ _ (at_most a) (at_most b) (at_most c) (at_most d) (at_most e) (at_most f) (at_most g) (at_most h) (s ∙ by_ones) in
      record {
        seven = bit_weighed a _ n.0;
        six = bit_weighed b _ n.1;
        five = bit_weighed c _ n.2;
        four = bit_weighed d _ n.3;
        three = bit_weighed e _ n.4;
        two = bit_weighed f _ n.5;
        one = bit_weighed g _ n.6;
        zero = bit_weighed h _ n.7;
      }
