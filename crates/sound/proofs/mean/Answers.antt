-- `sound::mean` meets its contract.
use Rattle.sound.specs.Filter.{filter_next}
use borrow.Author.Rules.{rules}
use Rattle.sound.proofs.mean.Goals as goal

pub returns : goal.returns
unfolding filter_next
returns c = search rules
