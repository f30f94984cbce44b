-- `sound::rounded` meets its contract.
use Prim.Native.Nat.{◌+◌, ◌-◌, ◌*◌, ◌/◌, ◌<◌}
use mathlib.Core.Path.{◌∙◌}
use native.Mathlib.Omega.{arith}
use Rattle.laws.proofs.Whole.{by_order}
use Rattle.sound.proofs.Rounding.{lowered_is, quotient_small, floor_lowered}
use borrow.Author.Rules.{rules}
use Rattle.sound.proofs.rounded.Goals as goal
use Rattle.sound.proofs.rounded.Goals.{After-lift}

-- the quotient of the lifted sum is that of 16 bits
small : (c : goal.After-lift) → (c.args.sum + c.lift.result + (32768 * c.args.d - c.args.bias)) / c.args.d < 65536
small c =
    let a = c.args in
    let u = c.lift.ensures in
    quotient_small (a.sum + c.lift.result) a.bias a.d (search rules) (search rules)
    (by_order a.sum a.bias (λ h. omega (arith, u.0)) (λ h. omega (arith, u.1 h)))

pub returns : goal.returns
returns c =
    let a = c.args in
    let sum = a.sum + c.lift.result in
    lowered_is ((sum + (32768 * a.d - a.bias)) / a.d) (small (goal.at.returns c).After-lift) ∙ (floor_lowered sum a.bias a.d (search rules) (search rules) ∙ c.lift.ensures.2)
