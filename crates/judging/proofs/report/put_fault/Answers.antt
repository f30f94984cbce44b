-- `judging::report::put_fault` meets its contract.
use native.Mathlib.Omega.{arith}
use Rattle.text.proofs.Pieces.{put_none, put_then}
use Rattle.judging.specs.Lines.{fault_text}
use Rattle.judging.proofs.report.put_fault.Goals as goal

pub returns-then-not-holds : goal.returns-then-not-holds
unfolding fault_text
returns-then-not-holds c =
    let a = c.args in
    rw (c.if-not-holds.true) (put_none a.out.now a.at (omega arith))

pub returns : goal.returns
unfolding fault_text
returns c =
    rw (c.if-not-holds.false) (put_then c.put_item-p.ensures c.put.ensures (omega arith))
