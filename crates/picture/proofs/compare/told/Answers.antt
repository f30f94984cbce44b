-- `picture::compare::told` meets its contract.
use Prim.Native.Nat.{◌+◌, ◌≤◌}
use mathlib.Core.Path.{◌≡◌}
use native.Mathlib.Omega.{arith}
use borrow.Author.Rules.{rules}
use borrow.Author.Tests.{lt-ltb, le-ltb}
use lib.ListN.{length}
use Rattle.picture.specs.Fields.{fingerprint_of, compared, told_by}
use Rattle.picture.proofs.Compared.{sum_small}
use Rattle.picture.proofs.compare.told.Goals as goal
use Rattle.picture.proofs.compare.told.Goals.{After-counted-c}

-- both counts are of 960 places together
few : (c : goal.After-counted-c) → c.counted-c.result.brighter + c.counted-c.result.darker ≤ 960
few c =
    let a = c.args in
    let l : length a.field.now ≡ 960 = search rules in
    let e = c.counted-c.ensures in
    omega (arith, e.0, e.1, sum_small a.field.now a.older.now)

pub returns-then-held-lt2 : goal.returns-then-held-lt2
unfolding told_by
returns-then-held-lt2 c = simp (lt-ltb _ _ c.if-held-lt2.true)

pub overflow_add-result : goal.overflow_add-result
overflow_add-result c = record { fits = omega (arith, few (goal.at.overflow_add-result c).After-counted-c) }

pub overflow_cast-result : goal.overflow_cast-result
overflow_cast-result c = record { fits = omega (arith, few (goal.at.overflow_cast-result c).After-counted-c) }

pub returns : goal.returns
unfolding told_by compared fingerprint_of
returns c = simp (le-ltb _ _ c.if-held-lt2.false, c.counted-c.ensures.0, c.counted-c.ensures.1)
