-- `replay_feed::take_tick` meets its contract. Assumes nothing.
use Rattle.replay_file.specs.Turns.{turned}
use Rattle.replay_feed.proofs.take_tick.Goals as goal

pub returns : goal.returns
unfolding turned
returns c = record { value = c.went.ensures; net_after = c.tick.ensures }
