-- `seq::commands::load_text` meets its contract: what the library read is a readable file.
use Rattle.std.proofs.Common.{◌≡◌, length, refl, arith, rules}
use Rattle.part.specs.State.{wiped}
use Rattle.files.proofs.Laws.Answered.{load-answered}
use Rattle.seq.specs.Typing.{script_of, typing_all}
use Rattle.seq.proofs.Laws.Commands.{sized_done, sized_refused, load_number}
use Rattle.seq.proofs.commands.load_text.Goals as goal

pub type_file-requires : goal.type_file-requires
unfolding wiped
type_file-requires c =
    let known = load-answered _ _ _ _ c.in-0.is _ c.load_into-r.ensures.0 in
    (known.0, known.1, search rules)

pub returns-in-0 : goal.returns-in-0
unfolding wiped
returns-in-0 c =
    let size = length (script_of (typing_all c.args.c c.args.file.now)) in
    let long : c.type_file.result ≡ size = omega (arith, c.type_file.ensures.0.place) in
    record {
      answer = sized_done _ _ size (load_number c.args.file.now _ _ c.args.c _ c.new.ensures refl c.load_into-r.ensures.0) _ c.in-0.is long;
      script = c.type_file.ensures.0;
      fits = search rules;
    }

pub returns-in_default : goal.returns-in_default
unfolding wiped
returns-in_default c = record {
  answer = sized_refused _ _ _ (load_number c.args.file.now _ _ c.args.c _ c.new.ensures refl c.load_into-r.ensures.0) (λ e. omega (arith, e));
  script = tt;
  fits = tt;
}
