-- `part::state::Part::channels_in` meets its contract: `all` runs over the channels.
use Rattle.std.proofs.Common.{◌∙◌, rules, tests}
use Rattle.std.proofs.lemmas.Iterator.{YieldsList-from_slice}
use Rattle.std.proofs.lemmas.Iterator.Search.{all_from_yields_List}
use Rattle.channel.specs.Range.{in_range}
use Rattle.part.proofs.Laws.Steps.{all_in}
use Rattle.part.proofs.state.Part.channels_in.Goals as goal

pub returns : goal.returns
returns c =
    all_from_yields_List in_range c.all.new.self _ _ c.all.ensures.ran (YieldsList-from_slice c.args.self.now.channels cc) (λ x b q k. search (rules, tests))
    ∙ all_in c.args.self.now.channels
