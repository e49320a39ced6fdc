-- `channel::state::Channel::reset` meets its contract.
use Rattle.channel.specs.State.{zeros}
use Rattle.channel.proofs.state.Channel.reset.Goals as goal

pub returns : goal.returns
unfolding zeros
returns c = rw (c.done.ensures, c.new.ensures, c.wipe.ensures, c.requires)
