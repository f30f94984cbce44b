-- `picture::order::check` meets its contract: the tests in 01's order.
use Prim.Native.Nat.{◌*◌}
use mathlib.Core.Path.{◌≡◌}
use mathlib.Core.Bool.{true}
use native.Mathlib.Omega.{arith}
use borrow.Author.Tests.{le-leb, lt-leb, lt-ltb, le-ltb, eq-eqb, ne_eqb}
use lib.Dec.{ltb, eqb}
use Rattle.sampling.specs.Formats.{row_of}
use Rattle.sampling.proofs.Table.{listed}
use Rattle.picture.specs.Lines.{line_number, judged_number}
use Rattle.picture.proofs.Judged.{Small, small}
use Rattle.picture.proofs.order.check.Goals as goal
use Rattle.picture.proofs.order.check.Goals.{After-row_of-r, Else-format-ge8, Else-len-r, Else-row-ge16, then-format-ge8-via-then-format-ge8, then-format-ge8-via-else-format-ge8+then-row-ge16, then-number-lt1-via-then-number-lt1, then-number-lt1-via-else-number-lt1+then-r-number}

listed_format : (c : goal.Else-format-ge8) → ltb c.args.format 8 ≡ true
listed_format c = lt-ltb _ _ c.if-format-ge8.false

row_small : (c : goal.After-row_of-r) → Small c.row_of-r.result
row_small c = rw c.row_of-r.ensures (small (listed _ c.if-format-ge8.false))

in_field : (c : goal.Else-row-ge16) → ltb c.args.row 16 ≡ true
in_field c = lt-ltb _ _ c.if-row-ge16.false

long : (c : goal.Else-len-r) → let a = c.args in eqb a.len (2 * (row_of a.format).width) ≡ true
long c = eq-eqb _ _ (rw c.row_of-r.ensures at c.if-len-r.false)

pub returns-then-format-ge8 : goal.returns-then-format-ge8
unfolding judged_number
returns-then-format-ge8 c =
    elim c.then-format-ge8.branch [
      | then-format-ge8-via-then-format-ge8 w ↦ simp (le-ltb _ _ w.if-format-ge8.true)
      | then-format-ge8-via-else-format-ge8+then-row-ge16 w ↦ simp (lt-ltb _ _ w.if-format-ge8.false, le-ltb _ _ w.if-row-ge16.true)
    ]

pub overflow_mul-r : goal.overflow_mul-r
overflow_mul-r c = omega (arith, (row_small (goal.at.overflow_mul-r c).After-row_of-r).wide)

pub returns-then-len-r : goal.returns-then-len-r
unfolding judged_number line_number
returns-then-len-r c =
    let b = c in
    simp (listed_format (goal.at.returns-then-len-r c).Else-format-ge8, in_field (goal.at.returns-then-len-r c).Else-row-ge16, ne_eqb _ _ (rw c.row_of-r.ensures at c.if-len-r.true))

pub returns-then-number-lt1 : goal.returns-then-number-lt1
unfolding judged_number line_number
returns-then-number-lt1 c =
    let p = goal.at.returns-then-number-lt1 c in
    elim c.then-number-lt1.branch [
      | then-number-lt1-via-then-number-lt1 w ↦ simp (listed_format p.Else-format-ge8, in_field p.Else-row-ge16, long p.Else-len-r, lt-leb _ _ w.if-number-lt1.true)
      | then-number-lt1-via-else-number-lt1+then-r-number w ↦
          simp (listed_format p.Else-format-ge8, in_field p.Else-row-ge16, long p.Else-len-r, le-leb _ _ w.if-number-lt1.false, lt-leb _ _ (rw c.row_of-r.ensures at w.if-r-number.true))
    ]

pub due_line-requires : goal.due_line-requires
due_line-requires c =
    let s = row_small (goal.at.due_line-requires c).After-row_of-r in
    omega (arith, s.first1, s.first2, s.step)

pub check_order-requires : goal.check_order-requires
check_order-requires c = (row_small (goal.at.check_order-requires c).After-row_of-r).apart

pub returns : goal.returns
unfolding judged_number line_number
returns c =
    let p = goal.at.returns c in
    let r = c.row_of-r.ensures in
    simp (listed_format p.Else-format-ge8, in_field p.Else-row-ge16, long p.Else-len-r, le-leb _ _ c.if-number-lt1.false, le-leb _ _ (rw r at c.if-r-number.false), c.check_order.ensures, c.due_line.ensures, r)
