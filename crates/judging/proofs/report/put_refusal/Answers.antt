-- `judging::report::put_refusal` meets its contract.
use native.Mathlib.Omega.{arith}
use Rattle.text.proofs.Pieces.{put_then}
use Rattle.judging.specs.Lines.{refusal_text}
use Rattle.judging.proofs.report.put_refusal.Goals as goal

pub returns : goal.returns
unfolding refusal_text
returns c =
    put_then (put_then c.put_item-p.ensures c.put_item-q.ensures (omega arith)) c.put.ensures (omega arith)
