-- `judging::last_count` meets its contract.
use native.Mathlib.Omega.{arith}
use mathlib.Core.Path.{◌≡◌}
use borrow.Author.Tests.{lt-ltb, le-ltb}
use Rattle.judging.specs.Judge.{last_count}
use Rattle.judging.proofs.last_count.Goals as goal

pub returns-then-count-eq0 : goal.returns-then-count-eq0
unfolding last_count
returns-then-count-eq0 c = rw (le-ltb 0 c.args.count (omega (arith, c.if-count-eq0.true)))

pub returns-else-count-eq0 : goal.returns-else-count-eq0
unfolding last_count
returns-else-count-eq0 c =
    let n = c.args.count in
    let f : (n ≡ 0 → ⊥) = c.if-count-eq0.false in
    rw (lt-ltb 0 n (omega arith))
