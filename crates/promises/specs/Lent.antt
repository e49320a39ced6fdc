-- No second outcome of crate lent: a statement for each public function.
use Rattle.std.specs.Prelude.{ℕ, List, ◌≡◌}
use Rattle.steps.specs.declared.map.Op.{Op}
use Rattle.head.specs.declared.state.Answer.{Answer}
use Rattle.channel.specs.declared.state.Channel.{Channel}
use Rattle.channel.specs.Step.{step_of, bytes_after}
use Rattle.promises.specs.Promise.{Once, no_second, three}

pub step_lent_once : (c : Channel) (number : ℕ) (mem : List ℕ) (op : Op)
    → Once (Answer × Channel × List ℕ)
    (λ (r, c', mem'). (r ≡ (step_of c mem number op).answer)
    × (c' ≡ (step_of c mem number op).channel)
    × (mem' ≡ bytes_after c mem number op))
step_lent_once c number mem op = no_second (λ o h. three h.0 h.1 h.2)
