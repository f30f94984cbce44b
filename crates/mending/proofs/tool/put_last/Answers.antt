-- `mending::tool::put_last` meets its contract.
use native.Mathlib.Omega.{arith}
use Rattle.text.proofs.Pieces.{put_then}
use Rattle.mending.specs.Report.{kept_text}
use Rattle.mending.proofs.tool.put_last.Goals as goal

pub returns : goal.returns
unfolding kept_text
returns c = put_then c.put_item-p.ensures c.put.ensures (omega arith)
