-- An access or an event that does not write to PRESET is a work, by the channel's rules.
use Rattle.std.specs.Prelude.{ℕ, false, [], ◌≡◌}
use Rattle.std.proofs.Common.{ap}
use Rattle.steps.specs.declared.map.Op.{Op}
use Rattle.steps.specs.declared.map.Target.TheVariants.{One}
use Rattle.steps.specs.Keys.{op_writes}
use Rattle.channel.specs.declared.state.Channel.{Channel}
use Rattle.channel.specs.State.{Served}
use Rattle.channel.specs.Step.{served_by}
use Rattle.channel.proofs.Laws.Kept.{serves_in_range, served_length}
use Rattle.channel.proofs.Laws.Straps.{served_keeps}
use Rattle.part.specs.declared.state.Part.{Part}
use Rattle.part.specs.State.{chan, window}
use Rattle.part.specs.Step.{one_step, one_bytes, forgetting}
use Rattle.works.specs.Keys.{writes_preset}
use Rattle.works.specs.State.{State}
use Rattle.works.specs.Work.{Own, Given, Work, left_for, work_after, work_gives, reply_by}
use Rattle.works.proofs.Laws.Keys.{left_own, served_keyless}

-- what is made of a channel's own, and what is given
abbrev own_of : Served → Own
own_of d = record { channel = d.stepped.channel; bytes = d.bytes }

abbrev given_by : Served → Given
given_by d = record { answer = d.stepped.answer; out = [] }

abbrev pub op_work : (c : ℕ) (op : Op) → writes_preset c op ≡ false → Work
op_work c op calm = record {
  lent = [];
  after = λ o. own_of (served_by o.channel o.bytes c op);
  gives = λ o. given_by (served_by o.channel o.bytes c op);
  writes = op_writes op;
  keeps = λ o h. record {
    ranged = serves_in_range o.channel o.bytes c op h;
    whole = rw (served_length o.channel o.bytes c op h) h.whole;
  };
  stays = λ o. (served_keeps o.channel o.bytes c op).straps;
  unkeys = λ o. ap own_of (served_keyless o.channel o.bytes c op calm);
  blind = λ o. ap given_by (served_keyless o.channel o.bytes c op calm);
}

-- it does and answers what the part's step of that channel does
module _ (s : State) (c : ℕ) (op : Op) (calm : writes_preset c op ≡ false) where
  abbrev left : Part
  left = left_for s.part c (op_writes op)

  same : served_by (chan left c) (window c s.memory) c op ≡ served_by (chan s.part c) (window c s.memory) c op
  same = ap (λ (x : Channel). served_by x (window c s.memory) c op) (left_own s.part c (op_writes op))

  pub op_after : record { part = (one_step (forgetting (One op c) s.part) s.memory c op).part; memory = one_bytes (forgetting (One op c) s.part) s.memory c op }
      ≡ work_after s c (op_work c op calm)
  unfolding work_after one_step one_bytes forgetting
  op_after = rw same

  pub op_reply : record { answer = (one_step (forgetting (One op c) s.part) s.memory c op).answer; out = [] } ≡ reply_by c (work_gives s c (op_work c op calm))
  unfolding work_gives one_step forgetting
  op_reply = rw same
