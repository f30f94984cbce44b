-- `receive_feed::arrive` meets its contract.
use mathlib.Core.Path.{ap}
use Rattle.receive_feed.specs.Feed.{arrived, arrive_fed}
use Rattle.receive_feed.proofs.arrive.Goals as goal

pub returns-in-Ok : goal.returns-in-Ok
unfolding arrive_fed arrived
returns-in-Ok c = ap arrived c.in-Ok.ensures

pub returns-in-Err : goal.returns-in-Err
unfolding arrive_fed arrived
returns-in-Err c = rw c.number.ensures (ap arrived c.in-Err.ensures)
