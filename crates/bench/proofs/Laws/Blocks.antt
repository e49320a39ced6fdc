-- A block of bytes, behind the line that had begun.
use Rattle.std.specs.Prelude.{ℕ, ◌+◌, ◌-◌, ◌<◌, ◌≤◌, ◌≡◌, refl, ltb, length, take, drop}
use mathlib.Core.List.{List, [], ◌∷◌, ◌++◌}
use Rattle.std.proofs.Common.{sym, ◌∙◌, ap, arith, le-leb}
use Rattle.std.proofs.Math.Path.{subst}
use Rattle.std.proofs.lemmas.List.{length-replicate}
use Rattle.std.proofs.lemmas.List.Edits.{sets}
use Rattle.laws.specs.Cases.{pick_holds}
use Rattle.part.specs.declared.state.Part.{Part}
use Rattle.rules.specs.declared.parts.Device.TheVariants.{Pca9663}
use Rattle.part.specs.State.{fresh_part, wiped}
use Rattle.part.proofs.Laws.Kept.{fresh_part-in_range}
use Rattle.part.specs.Facts.{Whole}
use Rattle.script.specs.Grammar.{line_room}
use Rattle.answers.specs.Answer.{Put, text_if, answer_room, roomy, header}
use Rattle.runner.specs.declared.answering.Course.{Course}
use Rattle.runner.specs.declared.lines.Start.{Start}
use Rattle.runner.specs.Lines.{no_line, lengthened, kept_of, kept_bytes}
use Rattle.runner.specs.Text.{Desk, Sitting, rest_of, fed, said, opening}
use Rattle.runner.specs.Feeding.{desk_of, lines_from, shortened, Answered}
use Rattle.runner.proofs.Laws.Kept.{after_whole, rest_unended, take_unended, again_fed, again_said, end_said, none_said, put_text}
use Rattle.runner.proofs.Laws.Lines.{kept_few, kept_first, put_before, put_stays}
use Rattle.runner.proofs.Laws.Feeding.{put-length}
use Rattle.bench.specs.declared.Seat.{Seat}
use Rattle.bench.specs.declared.Bench.{Bench}
use Rattle.bench.specs.declared.Next.TheVariants.{On}
use Rattle.bench.specs.Talk.{sitting_of, bare_of, silenced, Sized, Ready, Heard, Closed, Written, Turned}
use Rattle.bench.specs.Talk.Turned.{read}

module _ (s : Seat) (m o block : List ℕ) (r : Course) (n o' : List ℕ) (line : Start) (ready : Ready s m)
    (w : Answered block (record { part = s.part; step = s.step; from = 0; at = 0 }) m o r n o')
    (kept : line ≡ lengthened no_line (drop r.from block)) where
  rest : kept_bytes line ≡ take line_room (rest_of [] block)
  rest = ap kept_bytes kept ∙ kept_first (drop r.from block) ∙ ap (take line_room) w.rest

  -- what `answer_lines` promises, with what is kept of the last line
  pub block-heard : Heard (bare_of s m) block (record { part = r.part; step = r.step; line = line; at = r.at }) n o'
  unfolding fed said
  block-heard =
      let d = desk_of s.part m s.step in
      record {
        stands = rw (w.desk, rest);
        text = put_text o _ r.at o' w.text w.fits;
        fits = w.fits;
        ready = record {
          whole = subst (λ (x : Desk). Whole x.state.part x.state.memory) (sym w.desk) (after_whole d (lines_from block 0) ready.whole);
          unended = rw rest (take_unended line_room (rest_of [] block) (rest_unended [] block (omega arith)));
        };
      }

-- bytes behind what was kept
pub heard_behind : (s : Seat) (m l : List ℕ) (r : Seat) (n o : List ℕ) → Ready s m → Heard (bare_of s m) (kept_bytes s.line ++ l) r n o → Heard (sitting_of s m) l r n o
heard_behind s m l r n o ready w =
    let d = desk_of s.part m s.step in
    record {
      stands = w.stands ∙ ap shortened (again_fed d (kept_bytes s.line) l ready.unended);
      text = w.text ∙ again_said d (kept_bytes s.line) l ready.unended;
      fits = w.fits;
      ready = w.ready;
    }

-- where they stand in the block: from place `line_room` on, with what was kept right before
pub from-heard : (s : Seat) (m block : List ℕ) (n at k : ℕ) (joined : List ℕ) (r : Seat) (m' o' : List ℕ) → Ready s m → at ≡ line_room - k
    → joined ≡ sets block at (take k s.line.bytes) → length (take k s.line.bytes) ≡ k → k ≡ kept_of s.line.len → k ≤ line_room → line_room + n ≤ length block
    → Heard (bare_of s m) (take (line_room + n - at) (drop at joined)) r m' o'
    → Heard (sitting_of s m) (take n (drop line_room block)) r m' o' × (drop line_room joined ≡ drop line_room block) × Sized s.line
from-heard s m block n at k joined r m' o' ready a b c d h i w =
    let l = take k s.line.bytes in
    let size : line_room + n - line_room ≡ n = omega arith in
    let e : take (line_room + n - at) (drop at joined) ≡ kept_bytes s.line ++ take n (drop line_room block) =
    rw (b, a) (put_before l block k (line_room + n) c h (omega arith) i)
    ∙ ap (λ (x : ℕ). l ++ take x (drop line_room block)) size
    ∙ ap (λ (x : ℕ). take x s.line.bytes ++ take n (drop line_room block)) d in (
      heard_behind s m (take n (drop line_room block)) r m' o' ready (subst (λ (x : List ℕ). Heard (bare_of s m) x r m' o') e w),
      rw (b, a) (put_stays l block k c h (omega (arith, i))),
      subst (λ (x : ℕ). length (take x s.line.bytes) ≡ x) d c,
    )

-- ---- the end of the input
kept-some : (line : Start) → Sized line → 0 < line.len → 0 < length (kept_bytes line)
unfolding line_room kept_of
kept-some line e h =
    let k : 0 < kept_of line.len = pick_holds (λ (x : ℕ). 0 < x) (ltb line.len line_room) (λ _. h) (λ _. omega arith) in
    omega (arith, e, k)

kept_none : (line : Start) → line.len ≤ 0 → length (kept_bytes line) ≡ 0
kept_none line h = let e : line.len ≡ 0 = omega (arith, h) in rw (e, kept_few 0 (omega arith))

pub last_heard : (s : Seat) (m l : List ℕ) (r : Seat) (n o : List ℕ) → l ≡ 10 ∷ [] → Sized s.line → 0 < s.line.len
    → Heard (sitting_of s m) l r n o → Closed (sitting_of s m) r n o
last_heard s m l r n o e f h w =
    let d = desk_of s.part m s.step in
    record {
      text = w.text ∙ ap (said (sitting_of s m)) e ∙ end_said d (kept_bytes s.line) (kept-some s.line f h);
      fits = w.fits;
      ready = w.ready;
    }

pub silenced-ready : (s : Seat) (m : List ℕ) → Ready s m → Ready (silenced s) m
silenced-ready s m w = record { whole = w.whole; unended = w.unended }

pub silent_closed : (s : Seat) (m : List ℕ) (r : Seat) (o : List ℕ) → r ≡ silenced s → s.line.len ≤ 0 → Ready s m → Closed (sitting_of s m) r m o
silent_closed s m r o e h w =
    let d = desk_of s.part m s.step in
    rw e (record {
      text = sym (none_said d (kept_bytes s.line) (kept_none s.line h));
      fits = omega arith;
      ready = silenced-ready s m w;
    })

-- ---- the header
pub header-put : (o : List ℕ) (at : ℕ) (o' : List ℕ) → answer_room ≤ length o → Put o 0 (text_if (roomy (length o) 0) header) at o' → (at ≤ length o') × (take at o' ≡ header)
unfolding text_if
header-put o at o' h w =
    let e = le-leb answer_room (length o) h in
    let new : Put o 0 header at o' = rw e at w in
    let n : length header ≡ 28 = refl in
    let z = put-length o 0 header at o' new in
    let i : at ≤ length o' = omega (arith, new.place, n, z, h) in
    (i, put_text o header at o' new i)

pub opens : (p : Part) (line : Start) (at : ℕ) → p ≡ fresh_part Pca9663 → line ≡ no_line → sitting_of (record { part = p; step = 0; line = line; at = at }) wiped ≡ opening
opens p line at e f = rw (e, f, kept_few 0 (omega arith))

pub opening-ready : (s : Seat) (m : List ℕ) → sitting_of s m ≡ opening → Ready s m
unfolding wiped
opening-ready s m e =
    record {
      whole = record {
        ranged = rw (ap (λ (x : Sitting). x.desk.state.part) e) (fresh_part-in_range Pca9663);
        whole = ap (λ (x : Sitting). length x.desk.state.memory) e ∙ length-replicate {A = ℕ} 13056 0;
      };
      unended = rw (ap (λ (x : Sitting). x.line) e) (omega arith);
    }

-- ---- a turn
pub heard-turned : (s : Seat) (m : List ℕ) (b : Bench) (n o l came : List ℕ) → came ≡ l → Written On b.how → Heard (sitting_of s m) l b.seat n o
    → Turned s m b n came (take b.seat.at o)
heard-turned s m b n o l came e g w =
    read g (w.stands ∙ ap (λ (x : List ℕ). shortened (fed (sitting_of s m) x)) (sym e)) (w.text ∙ ap (said (sitting_of s m)) (sym e))
