-- `sound::stereo_value` meets its contract.
use Prim.Native.Nat.{◌+◌, ◌*◌}
use mathlib.Core.Path.{refl, ap₂}
use mathlib.Core.List.{[], ◌∷◌}
use native.Mathlib.Omega.{arith}
use lib.IntN.{ℤ}
use Rattle.sound.specs.Mix.{signed, weights, divisor}
use Rattle.sound.proofs.Instants.{value_raised}
use Rattle.sound.proofs.stereo_value.Goals as goal

pub returns : goal.returns
unfolding weights divisor
returns c =
    let a = c.args in
    let l = c.raised in
    let r = c.raised-2 in
    value_raised a.rule 2 (signed a.l ∷ signed a.r ∷ []) (l.result ∷ r.result ∷ []) (7071 * l.result + 7071 * r.result) 463405056 _ _
    (ap₂ (λ (y z : ℤ). y ∷ z ∷ []) l.ensures.1 r.ensures.1) (omega arith) refl c.rounded.ensures c.pseudo_absolute.ensures
