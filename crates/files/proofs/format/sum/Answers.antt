-- `files::format::sum` meets its contract: the library's sum, by the definition's rows.
use Rattle.std.proofs.Common.{◌≡◌, ◌∙◌, sym, refl, sum, rules}
use Rattle.std.proofs.iter.runs.Sources.{sums}
use Rattle.std.proofs.lemmas.List.Recursion.{is_sum_by}
use Rattle.files.specs.File.{total}
use Rattle.files.proofs.format.sum.Goals as goal

pub returns : goal.returns
unfolding total
returns c =
    let e : c.sum.result ≡ sum c.args.lengths.now = search (rules, sums) in
    e ∙ sym (is_sum_by total (λ x. x) refl (λ _ _. refl) c.args.lengths.now)
