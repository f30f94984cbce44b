-- `answers::fault::say_fault` meets its contract: one piece after the other.
use native.Mathlib.Omega.{arith}
use Rattle.text.proofs.Pieces.{put_then}
use Rattle.answers.specs.Faults.{fault_line}
use Rattle.answers.proofs.fault.say_fault.Goals as goal

pub returns : goal.returns
unfolding fault_line
returns c = put_then (put_then (put_then c.put-p.ensures c.put-q.ensures (omega arith)) c.put_fault-e.ensures (omega arith)) c.put.ensures (omega arith)
