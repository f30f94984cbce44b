-- `sound::five_value` meets its contract.
use Prim.Native.Nat.{◌+◌, ◌*◌}
use mathlib.Core.Path.{◌≡◌, refl}
use mathlib.Core.List.{[], ◌∷◌, map}
use native.Mathlib.Omega.{arith}
use Rattle.sound.specs.Mix.{signed, weights, divisor}
use Rattle.sound.proofs.Rounding.{lowered}
use Rattle.sound.proofs.Instants.{value_raised}
use Rattle.sound.proofs.five_value.Goals as goal

pub returns : goal.returns
unfolding weights divisor
returns c =
    let a = c.args in
    let l = c.raised in
    let r = c.raised-2 in
    let m = c.raised-3 in
    let ls = c.raised-4 in
    let rs = c.raised-5 in
    let xs = l.result ∷ r.result ∷ m.result ∷ ls.result ∷ rs.result ∷ [] in
    let zs = signed a.l ∷ signed a.r ∷ signed a.c ∷ signed a.ls ∷ signed a.rs ∷ [] in
    let e : map lowered xs ≡ zs = cc (l.ensures.1, r.ensures.1, m.ensures.1, ls.ensures.1, rs.ensures.1) in
    value_raised a.rule 5 zs xs (7071 * l.result + 7071 * r.result + 10000 * m.result + 5000 * ls.result + 5000 * rs.result) 1118765056 _ _
    e (omega arith) refl c.rounded.ensures c.pseudo_absolute.ensures
