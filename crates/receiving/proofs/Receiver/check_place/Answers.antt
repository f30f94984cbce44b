-- `Receiver::check_place` meets its contract.
use borrow.Author.Rules.{rules}
use Rattle.laws.proofs.Tests.{tests}
use Rattle.receiving.specs.Slots.{is_held}
use Rattle.receiving.specs.Numbers.{place_number}
use Rattle.receiving.specs.Receiver.{slot_at}
use Rattle.receiving.proofs.Receiver.check_place.Goals as goal

pub returns-then-d-ge128 : goal.returns-then-d-ge128
unfolding place_number
returns-then-d-ge128 c = search (rules, tests)

pub returns-then-d-ge8 : goal.returns-then-d-ge8
unfolding place_number
returns-then-d-ge8 c = search (rules, tests)

pub returns-then-is_some : goal.returns-then-is_some
unfolding place_number slot_at is_held
returns-then-is_some c = search (rules, tests)

pub returns : goal.returns
unfolding place_number slot_at is_held
returns c = search (rules, tests)
