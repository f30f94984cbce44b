-- A law of the mix types.
use Prim.Native.Nat.{ℕ, ◌<◌}
use mathlib.Core.Path.{◌≡◌, refl}
use mathlib.Core.Bool.{Bool, true, false, ◌||◌}
use native.Mathlib.Omega.{arith}
use lib.Dec.{eqb}
use borrow.Author.Tests.{eqb-true}
use Rattle.rates.specs.Mixes.{mix_listed}

one_of : (P : Type 0) (s t : Bool) → (s ≡ true → P) → (t ≡ true → P) → (s || t) ≡ true → P
one_of P true t f g e = f refl
one_of P false t f g e = g e

-- a listed mix type is below 8
pub mix_small : (m : ℕ) → mix_listed m ≡ true → m < 8
unfolding mix_listed
mix_small m e =
    one_of (m < 8) (eqb m 1) (eqb m 2 || eqb m 5) (λ q. omega (arith, eqb-true m 1 q))
    (one_of (m < 8) (eqb m 2) (eqb m 5) (λ q. omega (arith, eqb-true m 2 q)) (λ q. omega (arith, eqb-true m 5 q)))
    e
