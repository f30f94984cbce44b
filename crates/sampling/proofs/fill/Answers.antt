use mathlib.Core.Path.{refl}
use native.Mathlib.Omega.{arith}
use Rattle.sampling.specs.Samples.{pixel_by, firsts}
use Rattle.sampling.proofs.Filled.{firsts_more}
use Rattle.sampling.proofs.fill.Goals as goal

pub loop-k-init : goal.loop-k-init
unfolding firsts
loop-k-init c = refl

pub loop-k-preserved : goal.loop-k-preserved
unfolding pixel_by
loop-k-preserved c =
    let a = c.args in
    let l = c.loop-k in
    rw (l.invariant, c.mean.ensures) (firsts_more (pixel_by a.line.now a.start a.step a.before a.n) l.k a.out.now 0 (omega arith))
