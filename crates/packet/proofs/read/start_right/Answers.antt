-- `packet::read::start_right` meets its contract.
use borrow.Author.Rules.{rules}
use Rattle.laws.proofs.Tests.{tests}
use Rattle.packet.specs.Reading.{start_right}
use Rattle.packet.proofs.read.start_right.Goals as goal

pub returns-then-word_at-eq1023 : goal.returns-then-word_at-eq1023
unfolding start_right
returns-then-word_at-eq1023 c = search (rules, tests)

pub returns-else-word_at-eq1023 : goal.returns-else-word_at-eq1023
unfolding start_right
returns-else-word_at-eq1023 c = search (rules, tests)
