-- `transport::start_right` meets its contract.
use borrow.Author.Rules.{rules}
use Rattle.laws.proofs.Tests.{tests}
use Rattle.transport.specs.Reading.{start_right}
use Rattle.transport.proofs.start_right.Goals as goal

pub returns-in-0 : goal.returns-in-0
unfolding start_right
returns-in-0 c = search (rules, tests)

pub returns-in_default-2 : goal.returns-in_default-2
unfolding start_right
returns-in_default-2 c = search (rules, tests)

pub returns-in_default-3 : goal.returns-in_default-3
unfolding start_right
returns-in_default-3 c = search (rules, tests)

pub returns-in_default-4 : goal.returns-in_default-4
unfolding start_right
returns-in_default-4 c = search (rules, tests)

pub returns-in_default-5 : goal.returns-in_default-5
unfolding start_right
returns-in_default-5 c = search (rules, tests)
