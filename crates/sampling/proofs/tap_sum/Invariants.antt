-- `sampling::tap_sum` meets its contract. The loop's invariant: the two halves of `pairs` add up to the sum so far.
use mathlib.Core.Path.{◌≡◌}
use Prim.Native.Nat.{◌+◌, ◌*◌, ◌/◌, ◌%◌}
use Rattle.sampling.specs.Samples.{tap_sum}
use Rattle.sampling.proofs.tap_sum.Given as goal

abbrev pub invariant-loop-i : goal.invariant-loop-i
invariant-loop-i l = l.pairs % 65536 + l.pairs / 65536 ≡ tap_sum l.line l.s (2 * l.i)
