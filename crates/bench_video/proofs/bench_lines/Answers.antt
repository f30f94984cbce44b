use Prim.Native.Nat.{◌+◌, ◌-◌, ◌/◌, ◌%◌}
use mathlib.Core.Path.{◌≡◌, refl, ◌∙◌}
use mathlib.Core.Bool.{cond}
use native.Mathlib.Omega.{arith}
use native.Mathlib.Numerals.{add-one}
use borrow.Author.Tests.{lt-ltb, le-ltb}
use lib.Dec.{ltb}
use lib.ListN.{length}
use Rattle.bench_video.specs.Bench.{half_at, after_lines}
use Rattle.bench_video.proofs.bench_lines.Goals as goal
use Rattle.bench_video.proofs.bench_lines.Goals.{Joined-i-lt2, then-i-lt2, else-i-lt2}

from_is :
    (c : goal.Joined-i-lt2)
    → let n = length c.args.lines.now in
    c.if-i-lt2.from ≡ cond (ltb (c.loop-i.i / 16 % 4) 2) 0 (n / 2)
from_is c =
    elim c.if-i-lt2.branch [
      | then-i-lt2 w ↦ simp (lt-ltb _ _ w.if-i-lt2.true) w.from-is
      | else-i-lt2 w ↦ simp (le-ltb _ _ w.if-i-lt2.false) w.from-is
    ]

pub loop-i-init : goal.loop-i-init
unfolding after_lines
loop-i-init c = simp c.fresh.ensures

pub loop-i-preserved : goal.loop-i-preserved
unfolding after_lines half_at
loop-i-preserved c =
    let j = c in
    let l = j.loop-i in
    let n = length j.args.lines.now in
    let e : j.if-i-lt2.from + n / 2 - j.if-i-lt2.from ≡ n / 2 = omega arith in
    c.step.ensures ∙ rw (add-one, e, l.invariant, from_is (goal.at.loop-i-preserved c).Joined-i-lt2) refl
