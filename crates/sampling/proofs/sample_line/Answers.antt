-- `sampling::sample_line` meets its contract: the tests in 01's order, and the 60 bytes over the front of the room lent.
use mathlib.Core.Path.{◌≡◌, sym, ap, ◌∙◌}
use mathlib.Core.List.{◌++◌}
use lib.ListN.{drop}
use native.Mathlib.Omega.{arith}
use Rattle.laws.specs.Calls.{over}
use Rattle.sampling.specs.declared.Row.{Row}
use Rattle.sampling.specs.Formats.{row_of}
use Rattle.sampling.specs.Samples.{pixels, sample_number}
use Rattle.sampling.proofs.Table.{Right, listed}
use Rattle.sampling.proofs.Filled.{over_sixty}
use Rattle.sampling.proofs.Answers.{unlisted, mis_sized, accepted, sample_refused, sample_short, sample_ok}
use Rattle.sampling.proofs.sample_line.Goals as goal
use Rattle.sampling.proofs.sample_line.Goals.{After-fill_by_taps, After-row_of-r, Else-line-r}

-- the row in hand is one of the table's
right : (c : goal.After-row_of-r) → Right c.row_of-r.result
right c = rw c.row_of-r.ensures (listed _ c.if-format-ge8.false)

-- the tests passed
passed : (c : goal.Else-line-r) → let a = c.args in sample_number a.format a.line.now ≡ 0
passed c = accepted _ _ c.if-format-ge8.false (rw c.row_of-r.ensures at c.if-line-r.false)

-- the room as `fill_by_taps` left it
filled :
    (c : goal.After-fill_by_taps)
    → let a = c.args in
    c.fill_by_taps.new.out ≡ over (pixels (row_of a.format) a.line.now) a.out.now
unfolding pixels
filled c =
    let r = c in
    let a = r.args in
    let e : c.fill_by_taps.new.out ≡ pixels r.row_of-r.result a.line.now ++ drop 60 a.out.now = c.fill_by_taps.ensures in
    e
    ∙ (sym (over_sixty r.row_of-r.result a.line.now a.out.now)
    ∙ ap (λ (x : Row). over (pixels x a.line.now) a.out.now) r.row_of-r.ensures)

pub returns-then-format-ge8-clause-value : goal.returns-then-format-ge8-clause-value
returns-then-format-ge8-clause-value c =
    let a = c.args in
    (sample_refused _ _ _ 1 (unlisted a.format a.line.now c.if-format-ge8.true) (λ z. omega arith)).0

pub returns-then-format-ge8-clause-out_after : goal.returns-then-format-ge8-clause-out_after
returns-then-format-ge8-clause-out_after c =
    let a = c.args in
    (sample_refused _ _ _ 1 (unlisted a.format a.line.now c.if-format-ge8.true) (λ z. omega arith)).1

pub overflow_mul-r : goal.overflow_mul-r
overflow_mul-r c = omega (arith, (right (goal.at.overflow_mul-r c).After-row_of-r).wide)

pub returns-then-line-r-clause-value : goal.returns-then-line-r-clause-value
returns-then-line-r-clause-value c =
    let r = c in
    let a = r.args in
    (sample_refused _ _ _ 2 (mis_sized a.format a.line.now r.if-format-ge8.false (rw r.row_of-r.ensures at c.if-line-r.true)) (λ z. omega arith)).0

pub returns-then-line-r-clause-out_after : goal.returns-then-line-r-clause-out_after
returns-then-line-r-clause-out_after c =
    let r = c in
    let a = r.args in
    (sample_refused _ _ _ 2 (mis_sized a.format a.line.now r.if-format-ge8.false (rw r.row_of-r.ensures at c.if-line-r.true)) (λ z. omega arith)).1

pub returns-then-out-lt60-clause-value : goal.returns-then-out-lt60-clause-value
returns-then-out-lt60-clause-value c =
    (sample_short _ _ _ (passed (goal.at.returns-then-out-lt60-clause-value c).Else-line-r) c.if-out-lt60.true).0

pub returns-then-out-lt60-clause-out_after : goal.returns-then-out-lt60-clause-out_after
returns-then-out-lt60-clause-out_after c =
    (sample_short _ _ _ (passed (goal.at.returns-then-out-lt60-clause-out_after c).Else-line-r) c.if-out-lt60.true).1

pub overflow_add-r : goal.overflow_add-r
overflow_add-r c = omega (arith, (right (goal.at.overflow_add-r c).After-row_of-r).taps)

pub overflow_add-r-2 : goal.overflow_add-r-2
overflow_add-r-2 c = omega (arith, (right (goal.at.overflow_add-r-2 c).After-row_of-r).taps)

pub fill_by_taps-requires-clause-before_le_start : goal.fill_by_taps-requires-clause-before_le_start
fill_by_taps-requires-clause-before_le_start c =
    let r = right (goal.at.fill_by_taps-requires-clause-before_le_start c).After-row_of-r in
    omega (arith, r.first_tap, r.last_tap, r.spread, r.taps)

pub returns-clause-value : goal.returns-clause-value
returns-clause-value c =
    let f = c in
    let p = passed (goal.at.returns-clause-value c).Else-line-r in
    let o = sample_ok _ _ _ p f.if-out-lt60.false in
    o.0

pub returns-clause-out_after : goal.returns-clause-out_after
returns-clause-out_after c =
    let f = c in
    let p = passed (goal.at.returns-clause-out_after c).Else-line-r in
    let o = sample_ok _ _ _ p f.if-out-lt60.false in
    filled (goal.at.returns-clause-out_after c).After-fill_by_taps ∙ o.1
