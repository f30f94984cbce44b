-- `text::put_item` meets its contract.
use native.Mathlib.Omega.{arith}
use Rattle.text.specs.Lines.{item}
use Rattle.text.proofs.Pieces.{put_then}
use Rattle.text.proofs.put_item.Goals as goal

pub returns : goal.returns
unfolding item
returns c = put_then c.put-p.ensures c.put_number.ensures (omega arith)
