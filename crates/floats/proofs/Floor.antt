-- The floor of a negative fraction, from the fraction cut towards zero. Over any divisor.
--     n / d and p / c are one fraction: p * d ≡ n * c
--     below_cut    p / c has a fraction part, so the floor of -n / d lies one below the cut value
--     at_cut       it has none, so the two are equal
use Rattle.std.proofs.Common.{◌≡◌, ℕ, zero, suc, ◌+◌, ◌*◌, ◌/◌, ◌<◌, ◌≤◌, pos, negsuc, neg_ℤ, sym, refl, ap, ◌∙◌, subst, mul_comm, le_antisymm, lt_of_mul-lt-mul_right, mul-lt-mul_of_pos_right, mul-pos, zero-mul, mul_right_comm, div-mul-le_self, arith}
use native.Mathlib.Nat.{zero-div, eq_of_mul-eq-mul_right, div-eq_of_lt-le, lt-mul-div-succ}
use lib.Ieee.Nearest.{div_same}
use Rattle.sound.specs.Mix.{floor}
use Rattle.floats.specs.Values.{held}

module _ (n d p c : ℕ) (D : 0 < d) (C : 0 < c) (e : p * d ≡ n * c) where
  pub same : p / c ≡ n / d
  same = div_same p c n d C D e

  -- a * c < p → a * d < n
  above : (a : ℕ) → a * c < p → a * d < n
  above a h = lt_of_mul-lt-mul_right c (subst (λ (z : ℕ). a * d * c < z) e (subst (λ (z : ℕ). z < p * d) (mul_right_comm a c d) (mul-lt-mul_of_pos_right h D)))

  exactly : (a : ℕ) → p ≡ a * c → n ≡ a * d
  exactly a h = eq_of_mul-eq-mul_right c C n (a * d) (sym e ∙ ap (λ (z : ℕ). z * d) h ∙ mul_right_comm a c d)

upper : (n d a : ℕ) → 0 < d → n / d ≡ a → n < (a + 1) * d
upper n d a D e = subst (λ (z : ℕ). n < z) (mul_comm d (a + 1)) (subst (λ (z : ℕ). n < d * (z + 1)) e (lt-mul-div-succ n D))

-- a * d < n < (a + 1) * d
below_at : (n d a : ℕ) → a * d < n → n < (a + 1) * d → floor (neg_ℤ (pos n)) d ≡ negsuc a
unfolding floor
below_at zero d a h k = absurd (omega arith)
below_at (suc n) d a h k = ap negsuc (div-eq_of_lt-le d (omega arith) (omega arith))

pub exact_at : (n d a : ℕ) → 0 < d → n ≡ a * d → floor (neg_ℤ (pos n)) d ≡ neg_ℤ (pos a)
unfolding floor
exact_at zero d zero D e = ap pos (zero-div d)
exact_at zero d (suc a) D e = absurd (omega (arith, mul-pos {m = suc a} (omega arith) D))
exact_at (suc n) d zero D e = absurd (omega (arith, zero-mul d))
exact_at (suc n) d (suc a) D e = ap negsuc (div-eq_of_lt-le d (omega arith) (omega arith))

module _ (n d p c : ℕ) (D : 0 < d) (C : 0 < c) (e : p * d ≡ n * c) where
  pub below_cut : p / c * c < p → floor (neg_ℤ (pos n)) d ≡ negsuc (p / c)
  below_cut h = below_at n d (p / c) (above n d p c D C e (p / c) h) (upper n d (p / c) D (sym (same n d p c D C e)))

  pub at_cut : p ≤ p / c * c → floor (neg_ℤ (pos n)) d ≡ neg_ℤ (pos (p / c))
  at_cut h = exact_at n d (p / c) D (exactly n d p c D C e (p / c) (le_antisymm h (div-mul-le_self p c)))

-- ---- held
pub held_pos : (n : ℕ) → n ≤ 32767 → held (pos n) ≡ pos n
held_pos n h = ap pos (omega arith)

pub held_negsuc : (n : ℕ) → n ≤ 32767 → held (negsuc n) ≡ negsuc n
held_negsuc n h = ap negsuc (omega arith)

pub held_neg : (n : ℕ) → n ≤ 32768 → held (neg_ℤ (pos n)) ≡ neg_ℤ (pos n)
held_neg zero h = refl
held_neg (suc n) h = held_negsuc n (omega arith)
