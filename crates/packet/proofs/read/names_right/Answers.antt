-- `packet::read::names_right` meets its contract.
use borrow.Author.Rules.{rules}
use Rattle.laws.proofs.Tests.{tests}
use Rattle.packet.specs.Reading.{names_right}
use Rattle.packet.proofs.read.names_right.Goals as goal

pub returns-then-word_at-eq577 : goal.returns-then-word_at-eq577
unfolding names_right
returns-then-word_at-eq577 c = search (rules, tests)

pub returns-else-word_at-eq577 : goal.returns-else-word_at-eq577
unfolding names_right
returns-else-word_at-eq577 c = search (rules, tests)
