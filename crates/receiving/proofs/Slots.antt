-- The eight places of a receiver, turned round by one.
use mathlib.Core.Path.{◌≡◌, refl}
use mathlib.Core.List.{List, [], ◌∷◌, ◌++◌}
use native.Mathlib.Omega.{arith}
use lib.ListN.{length, set, take, drop}
use Rattle.std.specs.Prelude.{Option}
use Rattle.receiving.specs.declared.Slot.{Slot}

-- all but the first, and one more behind them
pub shifted : (s : Option Slot) (xs : List (Option Slot)) → length xs ≡ 8 → set (drop 1 xs ++ take 1 xs) 7 s ≡ drop 1 xs ++ s ∷ []
shifted s (a ∷ b ∷ c ∷ d ∷ e ∷ f ∷ g ∷ h ∷ []) l = refl
shifted s [] l = absurd (let z : ⊥ = omega (arith, l) in z)
shifted s (a ∷ []) l = absurd (let z : ⊥ = omega (arith, l) in z)
shifted s (a ∷ b ∷ []) l = absurd (let z : ⊥ = omega (arith, l) in z)
shifted s (a ∷ b ∷ c ∷ []) l = absurd (let z : ⊥ = omega (arith, l) in z)
shifted s (a ∷ b ∷ c ∷ d ∷ []) l = absurd (let z : ⊥ = omega (arith, l) in z)
shifted s (a ∷ b ∷ c ∷ d ∷ e ∷ []) l = absurd (let z : ⊥ = omega (arith, l) in z)
shifted s (a ∷ b ∷ c ∷ d ∷ e ∷ f ∷ []) l = absurd (let z : ⊥ = omega (arith, l) in z)
shifted s (a ∷ b ∷ c ∷ d ∷ e ∷ f ∷ g ∷ []) l = absurd (let z : ⊥ = omega (arith, l) in z)
shifted s (a ∷ b ∷ c ∷ d ∷ e ∷ f ∷ g ∷ h ∷ i ∷ xs) l = absurd (let z : ⊥ = omega (arith, l) in z)
