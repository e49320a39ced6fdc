-- What holds when a frame has just begun.
use Rattle.std.specs.Prelude.{ℕ, zero, suc, ◌<◌, ◌≤◌, true, List, [], ◌∷◌, ◌≡◌, refl, length, get_or, replicate}
use Rattle.std.proofs.Common.{ap, arith}
use Rattle.std.proofs.lemmas.List.{length-replicate}
use Rattle.rules.specs.declared.state.Phase.{Phase}
use Rattle.steps.specs.declared.map.Target.{Target}
use Rattle.steps.specs.declared.answer.PartAnswer.{PartAnswer}
use Rattle.channel.specs.declared.state.Channel.{Channel}
use Rattle.channel.specs.Wires.{bytes_of}
use Rattle.part.specs.State.{blank}
use Rattle.mixes.specs.Mix.{Machine}
use Rattle.independent.specs.Statement.{State}
use Rattle.independent.proofs.Laws.Keys.{no}
use Rattle.frames.specs.Deeds.{runs_of}
use Rattle.frames.specs.Statement.{channel_of, Begun, start_watch, bound_of}
use Rattle.frames.proofs.Laws.Behind.{left_of}
use Rattle.frames.proofs.Laws.Runs.{Follows, Holding, Tally, left_at}

-- a channel in a frame is one of the part's
runs_inside : (l : List Channel) (c : ℕ) → runs_of (get_or l c blank).head.walk.phase ≡ true → c < length l
runs_inside [] c e = no e
runs_inside (x ∷ l) zero e = omega arith
runs_inside (x ∷ l) (suc c) e = let h = runs_inside l c e in omega (arith, h)

zeros_at : (n k : ℕ) → ◌≡◌ {A = ℕ} (get_or (replicate n 0) k 0) 0
zeros_at zero k = refl
zeros_at (suc n) zero = refl
zeros_at (suc n) (suc k) = zeros_at n k

module _ (c : ℕ) (s : State) (b : Begun c s) where
  pub begun_runs : runs_of (channel_of c s).head.walk.phase ≡ true
  begun_runs = rw b.phase refl

  pub begun-zero : (k : ℕ) → bytes_of (channel_of c s) k ≡ 0
  begun-zero k = rw b.counts (zeros_at 64 k)

  pub begun-left : left_at c s ≤ bound_of (channel_of c s)
  begun-left = let e = ap (λ (p : Phase). left_of p (channel_of c s).tranconfig (channel_of c s).bytecount) b.phase in omega (arith, e)

  module _ {A : Type 0} (M : Machine State A PartAnswer) (aim : A → Target) (f : Follows M aim) where
    pub begun_holding : Holding M aim f c b.number s (start_watch (channel_of c s))
    begun_holding = record {
      accepted = b.accepted;
      inside = runs_inside s.part.channels c begun_runs;
      wide = rw b.counts (length-replicate {A = ℕ} 64 0);
      watching = rw b.phase (refl, refl, refl);
      given = omega arith;
      paced = λ _. let z = begun-zero (start_watch (channel_of c s)).at in (omega (arith, z), omega arith);
      clear = λ k _. begun-zero k;
    }

    -- nothing was sent yet
    pub begun_tally : (k : ℕ) → Tally M aim f c b.number k 0 s (start_watch (channel_of c s))
    begun_tally k = record {
      here = λ _. refl;
      ahead = λ _. refl;
      behind = λ _. let z = begun-zero k in (omega (arith, z), omega arith, omega arith);
    }
