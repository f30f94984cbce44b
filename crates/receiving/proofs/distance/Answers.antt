-- `receiving::distance` meets its contract.
use native.Mathlib.Omega.{arith}
use Rattle.receiving.specs.Numbers.{ahead}
use Rattle.receiving.proofs.distance.Goals as goal

pub returns : goal.returns
unfolding ahead
returns c = omega (arith, c.from.ensures)
