-- `picture::compare::difference` meets its contract: two bytes and their difference fit 16 signed bits.
use Prim.Native.Nat.{ℕ, ◌<◌}
use mathlib.Core.Path.{◌≡◌, sym, ap₂, ◌∙◌, subst}
use native.Mathlib.Omega.{arith}
use borrow.Author.Rules.{rules}
use lib.IntN.{◌-ℤ◌}
use mir.Syntax.{w16}
use mir.Val.{SFits, to_z}
use mir.ValLaws.{to_z_pos, to_z-of_z}
use Rattle.picture.specs.Fields as fields
use Rattle.picture.proofs.Compared.{few_bits}
use Rattle.picture.proofs.compare.difference.Goals as goal

module _ (x y : ℕ) (h : x < 256) (k : y < 256) where
  read : to_z w16 x -ℤ to_z w16 y ≡ fields.difference x y
  unfolding fields.difference
  read = ap₂ ◌-ℤ◌ (to_z_pos w16 x (omega arith)) (to_z_pos w16 y (omega arith))

  fits : SFits w16 (to_z w16 x -ℤ to_z w16 y)
  fits = subst (SFits w16) (sym read) (record { sfits = omega (arith, few_bits x y h k) })

pub returns : goal.returns
returns c =
    let h : c.args.current < 256 = search rules in
    let k : c.args.older < 256 = search rules in
    to_z-of_z w16 _ (fits c.args.current c.args.older h k) ∙ read c.args.current c.args.older h k
