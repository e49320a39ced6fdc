-- `script::reading::in_form` meets its contract: `all` runs over the pairs of a letter and the byte in its place.
use Rattle.std.proofs.Common.{ℕ, ◌∙◌, rules, tests, ne_eqb}
use Rattle.std.proofs.lemmas.Iterator.{YieldsList-from_slice, YieldsList-from_zip}
use Rattle.std.proofs.lemmas.Iterator.Search.{all_from_yields_List}
use Rattle.script.specs.Grammar.{suiting}
use Rattle.script.proofs.Laws.Grammar.{fit_length}
use Rattle.script.proofs.Laws.Reading.{all_fit}
use Rattle.script.proofs.reading.in_form.Goals as goal

pub returns-then-form-line : goal.returns-then-form-line
returns-then-form-line c =
    all_from_yields_List (λ (p : ℕ × ℕ). suiting p.0 p.1) c.all.new.self _ _ c.all.ensures.ran (YieldsList-from_zip (YieldsList-from_slice c.args.form.now cc) (YieldsList-from_slice c.args.line.now cc))
    (λ x b q k. search (rules, tests))
    ∙ all_fit _ _ c.if-form-line.true

pub returns-else-form-line : goal.returns-else-form-line
returns-else-form-line c = ne_eqb _ _ c.if-form-line.false ∙ fit_length _ _ c.if-form-line.false
