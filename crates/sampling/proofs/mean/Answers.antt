-- `sampling::mean` meets its contract.
use native.Mathlib.Omega.{arith}
use Prim.Native.Nat.{◌/◌, ◌<◌}
use mathlib.Core.Path.{ap}
use Rattle.sampling.specs.Samples.{mean_of}
use Rattle.sampling.proofs.Means.{mean_small}
use Rattle.sampling.proofs.mean.Goals as goal

pub overflow_cast-result-2 : goal.overflow_cast-result-2
unfolding mean_of
overflow_cast-result-2 c =
    let a = c.args in
    let h : mean_of a.line.now a.s a.n < 256 = mean_small a.line.now a.s a.n (omega arith) in
    record { fits = rw (← c.tap_sum.ensures) at h }

pub returns : goal.returns
unfolding mean_of
returns c = ap (λ x. x / c.args.n) c.tap_sum.ensures
