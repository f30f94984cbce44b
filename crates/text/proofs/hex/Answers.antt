-- `text::hex` meets its contract.
use Rattle.text.specs.Spelling.{hex_of}
use Rattle.text.proofs.hex.Goals as goal

pub returns : goal.returns
unfolding hex_of
returns c = cc
