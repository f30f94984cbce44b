-- `packet::read::parity_right` meets its contract.
use Rattle.packet.specs.Words.{low}
use Rattle.packet.proofs.read.parity_right.Goals as goal

pub returns : goal.returns
unfolding low
returns c = rw c.word_of.ensures
