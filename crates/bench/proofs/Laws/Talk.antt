-- The pieces that the program reads and hands to `write` are a script and its output.
use Rattle.std.specs.Prelude.{ℕ, true, List, [], ◌++◌, ◌≡◌, refl, Result, Ok, Err}
use Rattle.std.proofs.Common.{append-nil, append_assoc, sym, ◌∙◌, ap}
use Rattle.std.proofs.Math.Seq.{take-nil}
use Rattle.script.specs.Grammar.{line_room}
use Rattle.answers.specs.Answer.{header}
use Rattle.runner.specs.Text.{Sitting, fed, said, last_said, opening, output_of, ended_lines, rest_of, after_all, replies_to}
use Rattle.runner.specs.Feeding.{shortened}
use Rattle.runner.proofs.Laws.Text.{fed-split, said-split, output_said}
use Rattle.runner.proofs.Laws.Kept.{shortened-said, shortened-fed, shortened_last}
use Rattle.bench.specs.declared.Seat.{Seat}
use Rattle.bench.specs.declared.Next.{Next}
use Rattle.bench.specs.declared.Next.TheVariants.{On, Ended}
use Rattle.bench.specs.declared.Failed.{Failed}
use Rattle.bench.specs.declared.Failed.TheVariants.{Unread, Unwritten}
use Rattle.bench.specs.Talk.{sitting_of, Written, going_on, Talk}
use Rattle.bench.specs.Talk.Written.{taken, lost}
use Rattle.bench.specs.Talk.Turned.{read, ended, unread}
use Rattle.bench.specs.Talk.Talk.{begun, more}

pub going_on_lem : (how : Result Next Failed) → going_on how ≡ true → how ≡ Ok On
going_on_lem (Ok On) e = refl
going_on_lem (Ok Ended) e = cc
going_on_lem (Err x) e = cc

-- a program that goes on as meant, unless a write failed, does not go on otherwise
no_other : {A : Type 0} (next : Next) (how want : Result Next Failed) → (Ok next ≡ want → ⊥) → (Err Unwritten ≡ want → ⊥) → Written next how → how ≡ want → A
no_other next how want f h (taken x) g = absurd (f (sym x ∙ g))
no_other next how want f h (lost x) g = absurd (h (sym x ∙ g))

-- ---- a script that goes on
abbrev Upto : Seat → List ℕ → List ℕ → List ℕ → Type 0
Upto s m input output = (sitting_of s m ≡ shortened (fed opening input)) × (output ≡ header ++ said opening input)

upto_none : (s : Seat) (m text : List ℕ) → sitting_of s m ≡ opening → text ≡ header → Upto s m [] text
unfolding fed said ended_lines rest_of after_all replies_to
upto_none s m text e h = (rw (take-nil {A = ℕ} line_room) e, h ∙ sym (append-nil header))

upto_more : (s : Seat) (m input output : List ℕ) (r : Seat) (n came text : List ℕ) → Upto s m input output
    → sitting_of r n ≡ shortened (fed (sitting_of s m) came) → text ≡ said (sitting_of s m) came → Upto r n (input ++ came) (output ++ text)
upto_more s m input output r n came text w e h = (
  e
      ∙ ap (λ (x : Sitting). shortened (fed x came)) w.0
      ∙ shortened-fed (fed opening input) came
      ∙ ap shortened (sym (fed-split opening input came)),
  ap (λ (x : List ℕ). x ++ text) w.1
      ∙ ap (λ (x : List ℕ). (header ++ said opening input) ++ x) (h ∙ ap (λ (x : Sitting). said x came) w.0 ∙ shortened-said (fed opening input) came)
      ∙ append_assoc header (said opening input) (said (fed opening input) came)
      ∙ ap (λ (x : List ℕ). header ++ x) (sym (said-split opening input came)),
)

talk_on : {s : Seat} {how : Result Next Failed} {m input output : List ℕ} → Talk s how m input output → how ≡ Ok On → Upto s m input output
talk_on (begun b m text w) g = upto_none b.seat m text w.stands w.said
talk_on (more s how m i o b n came text t go (read w e h)) g = upto_more s m i o b.seat n came text (talk_on t go) e h
talk_on (more s how m i o b n came text t go (ended (taken w) e h)) g = absurd (let x = sym w ∙ g in cc)
talk_on (more s how m i o b n came text t go (ended (lost w) e h)) g = absurd (let x = sym w ∙ g in cc)
talk_on (more s how m i o b n came text t go (unread w e h)) g = absurd (let x = sym w ∙ g in cc)

-- ---- THE OUTPUT: once the input has ended, what was handed to `write` is the output of what was read
pub talk_output : {s : Seat} {how : Result Next Failed} {m input output : List ℕ} → Talk s how m input output → how ≡ Ok Ended → output ≡ output_of input
talk_output (begun b m text w) g = no_other On b.how (Ok Ended) (λ x. cc) (λ x. cc) w.written g
talk_output (more s how m i o b n came text t go (read w e h)) g = no_other On b.how (Ok Ended) (λ x. cc) (λ x. cc) w g
talk_output (more s how m i o b n came text t go (unread w e h)) g = absurd (let x = sym w ∙ g in cc)
talk_output (more s how m i o b n came text t go (ended w e h)) g =
    let u = talk_on t go in
    ap (λ (x : List ℕ). x ++ text) u.1
    ∙ ap (λ (x : List ℕ). (header ++ said opening i) ++ x) (h ∙ ap last_said u.0 ∙ shortened_last (fed opening i))
    ∙ append_assoc header (said opening i) (last_said (fed opening i))
    ∙ sym (output_said i)
    ∙ ap output_of (sym (append-nil i) ∙ ap (λ (x : List ℕ). i ++ x) (sym e))

-- where a read failed, it is as much of the output as belongs to the lines that were read
pub talk_unread : {s : Seat} {how : Result Next Failed} {m input output : List ℕ} → Talk s how m input output → how ≡ Err Unread → output ≡ header ++ said opening input
talk_unread (begun b m text w) g = no_other On b.how (Err Unread) (λ x. cc) (λ x. cc) w.written g
talk_unread (more s how m i o b n came text t go (read w e h)) g = no_other On b.how (Err Unread) (λ x. cc) (λ x. cc) w g
talk_unread (more s how m i o b n came text t go (ended w e h)) g = no_other Ended b.how (Err Unread) (λ x. cc) (λ x. cc) w g
talk_unread (more s how m i o b n came text t go (unread w e h)) g =
    ap (λ (x : List ℕ). o ++ x) h ∙ append-nil o ∙ (talk_on t go).1
    ∙ ap (λ (x : List ℕ). header ++ said opening x) (sym (append-nil i) ∙ ap (λ (x : List ℕ). i ++ x) (sym e))
