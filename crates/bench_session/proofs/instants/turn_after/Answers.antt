-- `bench_session::instants::turn_after` meets its contract.
use borrow.Author.Tests.{lt-ltb, le-ltb}
use Rattle.bench_session.specs.Instants.{turn_after}
use Rattle.bench_session.proofs.instants.turn_after.Goals as goal

pub returns-then-k-last : goal.returns-then-k-last
unfolding turn_after
returns-then-k-last c = rw (lt-ltb _ _ c.if-k-last.true)

pub returns-else-k-last : goal.returns-else-k-last
unfolding turn_after
returns-else-k-last c = rw (le-ltb _ _ c.if-k-last.false)
