-- `packet::read::count_of` meets its contract.
use mathlib.Core.Path.{ap, ◌∙◌}
use Rattle.packet.specs.Words.{low}
use Rattle.packet.specs.Reading.{count_of}
use Rattle.packet.proofs.read.count_of.Goals as goal

pub returns : goal.returns
unfolding count_of low
returns c = c.from.ensures ∙ ap low c.word_at.ensures
