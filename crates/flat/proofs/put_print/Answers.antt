-- `flat::put_print` meets its contract.
use mathlib.Core.Path.{◌≡◌, refl}
use mathlib.Core.List.{[], ◌∷◌}
use Prim.Native.Nat.{◌+◌}
use native.Mathlib.Omega.{arith}
use lib.ListN.{length}
use Rattle.laws.proofs.Lists.{sets_then}
use Rattle.flat.specs.Flat.{flat_print}
use borrow.Author.Rules.{rules}
use Rattle.flat.proofs.put_print.Goals as goal

pub returns : goal.returns
unfolding flat_print
returns c =
    let p = c.args.p in
    let five : length p.bytes ≡ 5 = search rules in
    (omega arith, sets_then c.args.out.now _ _ (p.id ∷ p.mix ∷ p.size ∷ []) p.bytes c.args.at (c.args.at + 3) c.copy_at.ensures refl c.copy_at-2.ensures)
