-- `mending::tool::put_run` meets its contract.
use mathlib.Core.Path.{sym}
use native.Mathlib.Omega.{arith}
use Rattle.text.proofs.Pieces.{put_none, put_then, put_as}
use Rattle.mending.specs.Report.{run_text}
use Rattle.mending.proofs.Lines.{no_run, a_run}
use Rattle.mending.proofs.tool.put_run.Goals as goal

pub returns-then-end-start : goal.returns-then-end-start
returns-then-end-start c =
    let a = c.args in
    put_as (sym (no_run a.start a.end c.if-end-start.true)) (put_none a.out.now a.at (omega arith))

pub returns : goal.returns
unfolding run_text
returns c =
    let a = c.args in
    let h = c.if-end-start.false in
    let d = put_then c.put_item-p.ensures c.put_item-q.ensures (omega arith) in
    put_as (sym (a_run a.start a.end (omega (arith, h)))) (put_then d c.put.ensures (omega arith))
