-- `rates::count_occurs` meets its contract: the rows' ends decide what occurs.
use mathlib.Core.Path.{refl}
use borrow.Author.Tests.{le-leb, lt-leb}
use Rattle.rates.proofs.Table.{between, occurs_between}
use Rattle.rates.proofs.count_occurs.Goals as goal

pub returns-then-fewest-count : goal.returns-then-fewest-count
unfolding between
returns-then-fewest-count c =
    let a = c.args in
    let e = c.ends-fewest.ensures in
    rw (occurs_between a.code a.count, ← e.0, ← e.1, le-leb _ _ c.if-fewest-count.true) refl

pub returns-else-fewest-count : goal.returns-else-fewest-count
unfolding between
returns-else-fewest-count c =
    let a = c.args in
    let e = c.ends-fewest.ensures in
    rw (occurs_between a.code a.count, ← e.0, ← e.1, lt-leb _ _ c.if-fewest-count.false) refl
