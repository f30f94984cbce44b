-- `text::glyph` meets its contract.
use Rattle.laws.proofs.Tests.{tests}
use Rattle.text.specs.Spelling.{glyph_of}
use Rattle.text.proofs.glyph.Goals as goal

pub returns-then-d-lt10 : goal.returns-then-d-lt10
unfolding glyph_of
returns-then-d-lt10 c = search tests

pub returns-else-d-lt10 : goal.returns-else-d-lt10
unfolding glyph_of
returns-else-d-lt10 c = search tests
