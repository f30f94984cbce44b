-- The exact values of demand 3: the same recurrences over the same a(i), with v / k kept as an exact fraction (01, Audio).
use Rattle.std.specs.Prelude.{ℕ, ◌+◌, ◌-◌, ◌*◌, ◌≤◌, ◌<◌, List, [], ◌∷◌}

-- A whole number over a power of the filter's divisor (`proofs.Exact.den_power`)
pub record Fraction : Type 0 where
  pub num : ℕ
  pub den : ℕ

-- g a + x - x / k: with x = num / den, all of it over k den
unfoldable pub exact_next : ℕ → ℕ → Fraction → ℕ → Fraction
exact_next k g x a = record { num = g * a * (k * x.den) + (k * x.num - x.num); den = k * x.den }

unfoldable pub exact : ℕ → ℕ → List ℕ → Fraction
exact k g [] = record { num = 0; den = 1 }
exact k g (a ∷ []) = record { num = 0; den = 1 }
exact k g (a ∷ (b ∷ h)) = exact_next k g (exact k g (b ∷ h)) a

abbrev pub exact_envelope : List ℕ → Fraction
exact_envelope h = exact 1024 8 h

abbrev pub exact_mean : List ℕ → Fraction
exact_mean h = exact 8192 1 h

-- v "is never below its exact value" x "nor more than" n "above it": x ≤ v and v ≤ x + n, times the denominator
pub record Near (n v : ℕ) (x : Fraction) : Type 0 where
  pub below : x.num ≤ v * x.den
  pub above : v * x.den ≤ x.num + n * x.den

-- x is more than n above y, or n or more: y + n < x and y + n ≤ x, times both denominators
abbrev pub MoreAbove : ℕ → Fraction → Fraction → Type 0
MoreAbove n x y = (y.num + n * y.den) * x.den < x.num * y.den

abbrev pub AtLeastAbove : ℕ → Fraction → Fraction → Type 0
AtLeastAbove n x y = (y.num + n * y.den) * x.den ≤ x.num * y.den
