-- `judging::report::close` meets its contract.
use Rattle.judging.proofs.Reports.{closed_refused, was_refused, was_empty, closed_clean, closed_lines}
use mathlib.Core.Path.{ap}
use native.Mathlib.Omega.{arith}
use Rattle.text.specs.Lines.{refused_text}
use Rattle.text.proofs.Pieces.{put_as}
use Rattle.judging.proofs.report.close.Goals as goal

pub returns-then-r-ne0-clause-value : goal.returns-then-r-ne0-clause-value
returns-then-r-ne0-clause-value c =
    let a = c.args in
    let f = c.if-r-ne0.true in
    (closed_refused a.r a.out.now a.r.number (was_refused a.r a.out.now f) f c.put_refused.ensures).0

pub returns-then-r-ne0-clause-upper_bound : goal.returns-then-r-ne0-clause-upper_bound
returns-then-r-ne0-clause-upper_bound c =
    let a = c.args in
    let f = c.if-r-ne0.true in
    (closed_refused a.r a.out.now a.r.number (was_refused a.r a.out.now f) f c.put_refused.ensures).1

pub returns-then-r-eq0-clause-value : goal.returns-then-r-eq0-clause-value
returns-then-r-eq0-clause-value c =
    let a = c.args in
    (closed_refused a.r a.out.now 80 (was_empty a.r a.out.now c.if-r-ne0.false c.if-r-eq0.true) (λ z. omega (arith, z)) (put_as (ap refused_text c.number.ensures) c.put_refused-then-r-eq0.ensures)).0

pub returns-then-r-eq0-clause-upper_bound : goal.returns-then-r-eq0-clause-upper_bound
returns-then-r-eq0-clause-upper_bound c =
    let a = c.args in
    (closed_refused a.r a.out.now 80 (was_empty a.r a.out.now c.if-r-ne0.false c.if-r-eq0.true) (λ z. omega (arith, z)) (put_as (ap refused_text c.number.ensures) c.put_refused-then-r-eq0.ensures)).1

pub returns-then-r-eq0-2-clause-value : goal.returns-then-r-eq0-2-clause-value
returns-then-r-eq0-2-clause-value c =
    let a = c.args in
    (closed_clean a.r a.out.now c.if-r-ne0.false c.if-r-eq0.false c.if-r-eq0-2.true c.put.ensures).0

pub returns-then-r-eq0-2-clause-upper_bound : goal.returns-then-r-eq0-2-clause-upper_bound
returns-then-r-eq0-2-clause-upper_bound c =
    let a = c.args in
    (closed_clean a.r a.out.now c.if-r-ne0.false c.if-r-eq0.false c.if-r-eq0-2.true c.put.ensures).1

pub returns-clause-value : goal.returns-clause-value
returns-clause-value c =
    let a = c.args in
    (closed_lines a.r a.out.now c.if-r-ne0.false c.if-r-eq0.false c.if-r-eq0-2.false).0
