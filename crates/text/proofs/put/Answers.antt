-- `text::put` meets its contract.
use mathlib.Core.Path.{◌∙◌}
use lib.ListN.{length}
use Rattle.text.proofs.Pieces.{place_stopped}
use Rattle.text.proofs.put.Goals as goal

pub returns : goal.returns
returns c = record { place = c.saturating_add.ensures ∙ place_stopped c.args.at (length c.args.piece.now); stands = c.copy_at.ensures }
