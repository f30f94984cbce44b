-- `answers::fault::put_fault` meets its contract: one piece after the other.
use native.Mathlib.Omega.{arith}
use Rattle.text.proofs.Pieces.{put_then}
use Rattle.answers.specs.Faults.{fault_text}
use Rattle.answers.proofs.fault.put_fault.Goals as goal

pub returns : goal.returns
unfolding fault_text
returns c = put_then (put_then (put_then c.put_item-p.ensures c.put_item-q.ensures (omega arith)) c.put-e.ensures (omega arith)) c.put_cause.ensures (omega arith)
