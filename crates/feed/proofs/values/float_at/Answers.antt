-- `feed::values::float_at` meets its contract: a NaN is made, since `from_bits` has none.
use mathlib.Core.Path.{◌≡◌, refl, ap, ◌∙◌}
use native.Mathlib.Omega.{arith}
use lib.Ieee.{nan, binary32, div, of_bits}
use Rattle.feed.specs.Values.{float_at}
use Rattle.feed.proofs.Instants.{nan_above, none_below}
use Rattle.feed.proofs.values.float_at.Goals as goal

-- 0.0 / 0.0 as MIR has it, with 0.0 by its bits
zero_by_zero : div binary32 (of_bits binary32 0) (of_bits binary32 0) ≡ nan
unfolding div of_bits
zero_by_zero = refl

pub returns-then-bits-gt2139095040 : goal.returns-then-bits-gt2139095040
unfolding float_at
returns-then-bits-gt2139095040 c = zero_by_zero ∙ nan_above c.bits_at-bits.result (omega (arith, c.if-bits-gt2139095040.true)) ∙ ap (of_bits binary32) c.bits_at-bits.ensures

pub float_from_bits-result : goal.float_from_bits-result
float_from_bits-result c = none_below c.bits_at-bits.result (omega (arith, c.if-bits-gt2139095040.false))
