-- `judging::report::put_faults` meets its contract.
use native.Mathlib.Omega.{arith}
use borrow.Author.Tests.{eq-eqb, ne_eqb}
use Rattle.text.proofs.Pieces.{put_then}
use Rattle.judging.specs.Lines.{faults_text}
use Rattle.judging.proofs.report.put_faults.Goals as goal

pub returns-then-faults-ne0 : goal.returns-then-faults-ne0
unfolding faults_text
returns-then-faults-ne0 c = rw (ne_eqb c.args.faults.refused 0 c.if-faults-ne0.true) c.put_refusal.ensures

pub returns : goal.returns
unfolding faults_text
returns c =
    let counted = put_then c.put_fault-p.ensures c.put_fault-q.ensures (omega arith) in
    let both = put_then counted c.put_fault-r.ensures (omega arith) in
    rw (eq-eqb c.args.faults.refused 0 c.if-faults-ne0.false) (put_then both c.put_fault.ensures (omega arith))
