-- Demand 3: stored values against exact ones, once over the filter's divisor and gain, and what follows for the bit.
use Prim.Native.Nat.{ℕ, suc, ◌+◌, ◌-◌, ◌*◌, ◌/◌, ◌%◌, ◌^◌, ◌≤◌, ◌<◌}
use mathlib.Core.Path.{◌≡◌, sym, ap, ◌∙◌}
use mathlib.Core.List.{List, [], ◌∷◌}
use native.Mathlib.Nat.{mul-le-mul_left, mul-le-mul_right, mod-lt, mul-sub, mul-pos, mul_comm, div-add-mod, div-le_self, lt_of_mul-lt-mul_right, le_of_mul-le-mul_right, pow-zero, pow-suc}
use native.Mathlib.Omega.{arith}
use lib.ListN.{length}
use borrow.Author.Tests.{lt-ltb, le-ltb}
use Rattle.sound.specs.Filter.{filter_next, filtered, envelope_after, mean_after, bit_of}
use Rattle.sound.specs.Exact.{Fraction, exact_next, exact, exact_envelope, exact_mean, Near, MoreAbove, AtLeastAbove}

-- "stated as whole numbers over a power of 1024 or of 8192": after sample i, the history's length less one, it is the i-th power
pub den_power : (k g a : ℕ) (h : List ℕ) → (exact k g (a ∷ h)).den ≡ k ^ length h
unfolding exact exact_next
den_power k g a [] = sym (pow-zero k)
den_power k g a (b ∷ h) = ap (◌*◌ k) (den_power k g b h) ∙ (mul_comm k (k ^ length h) ∙ sym (pow-suc k (length h)))

module _ (j g : ℕ) where
  -- k (v - v / k) = (k - 1) v + v % k, at k = j + 1, times p
  kept : (v p : ℕ) → (v - v / suc j) * (suc j * p) ≡ v * (j * p) + v % suc j * p
  kept v p =
      let h : suc j * (v - v / suc j) ≡ j * v + v % suc j
      = omega (arith, mul-sub (suc j) v (v / suc j), div-add-mod v (suc j), mul-le-mul_left (suc j) (div-le_self v (suc j))) in
      omega (arith, ap (λ (n : ℕ). n * p) h)

  near_next : (v : ℕ) (x : Fraction) (a : ℕ) → Near j v x → Near j (filter_next (suc j) g v a) (exact_next (suc j) g x a)
  unfolding filter_next exact_next
  near_next v x a n =
      let e = kept v x.den in
      let r = mul-le-mul_right x.den (mod-lt v {m = suc j} (omega arith)) in
      let b = mul-le-mul_left j n.below in
      let t = mul-le-mul_left j n.above in
      record { below = omega arith; above = omega arith }

  -- the stored value is never below the exact one, nor more than j above it, the divisor less one
  pub near : (h : List ℕ) → Near j (filtered (suc j) g h) (exact (suc j) g h)
  unfolding filtered exact
  near [] = omega arith
  near (a ∷ []) = omega arith
  near (a ∷ (b ∷ h)) = near_next (filtered (suc j) g (b ∷ h)) (exact (suc j) g (b ∷ h)) a (near (b ∷ h))

  den_pos : (h : List ℕ) → 0 < (exact (suc j) g h).den
  unfolding exact exact_next
  den_pos [] = omega arith
  den_pos (a ∷ []) = omega arith
  den_pos (a ∷ (b ∷ h)) = mul-pos {m = suc j} (omega arith) (den_pos (b ∷ h))

pub envelope_near : (h : List ℕ) → Near 1023 (envelope_after h) (exact_envelope h)
envelope_near h = near 1023 8 h

pub mean_near : (h : List ℕ) → Near 8191 (mean_after h) (exact_mean h)
mean_near h = near 8191 1 h

-- two stored values, from the exact ones
more : (i j e m : ℕ) (x y : Fraction) → Near i e x → Near j m y → MoreAbove j x y → m < e
more i j e m x y nx ny h =
    lt_of_mul-lt-mul_right (x.den * y.den)
    (omega (arith, mul-le-mul_right y.den nx.below, mul-le-mul_right x.den ny.above))

less : (i j e m : ℕ) (x y : Fraction) → 0 < x.den → 0 < y.den → Near i e x → Near j m y → AtLeastAbove i y x → e ≤ m
less i j e m x y px py nx ny h =
    le_of_mul-le-mul_right {k = x.den * y.den}
    (omega (arith, mul-le-mul_right y.den nx.above, mul-le-mul_right x.den ny.below)) (mul-pos px py)

-- the exact envelope more than 8,191 above the exact mean: the bit is 1
pub bit_one : (h : List ℕ) → MoreAbove 8191 (exact_envelope h) (exact_mean h) → bit_of h ≡ 1
unfolding bit_of
bit_one h a =
    let l : mean_after h < envelope_after h = more 1023 8191 (envelope_after h) (mean_after h) (exact_envelope h) (exact_mean h) (envelope_near h) (mean_near h) a in
    rw (lt-ltb (mean_after h) (envelope_after h) l)

-- the exact mean 1,023 or more above the exact envelope: the bit is 0
pub bit_zero : (h : List ℕ) → AtLeastAbove 1023 (exact_mean h) (exact_envelope h) → bit_of h ≡ 0
unfolding bit_of
bit_zero h a =
    let l : envelope_after h ≤ mean_after h =
    less 1023 8191 (envelope_after h) (mean_after h) (exact_envelope h) (exact_mean h) (den_pos 1023 8 h) (den_pos 8191 1 h) (envelope_near h) (mean_near h) a in
    rw (le-ltb (mean_after h) (envelope_after h) l)
