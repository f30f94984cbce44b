-- `receive_feed::open` meets its contract.
use Rattle.receive_feed.specs.Feed.{opening}
use Rattle.receive_feed.proofs.open.Goals as goal

pub returns : goal.returns
unfolding opening
returns c = c.fresh.ensures
