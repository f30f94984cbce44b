-- `text::put_refused` meets its contract.
use native.Mathlib.Omega.{arith}
use Rattle.text.proofs.Pieces.{put_then}
use Rattle.text.specs.Lines.{refused_text}
use Rattle.text.proofs.put_refused.Goals as goal

pub returns : goal.returns
unfolding refused_text
returns c = put_then c.put_item-a.ensures c.put.ensures (omega arith)
