-- What a value's sample means: the product that the code makes is the definition's, and a whole number over 32,768 is its own sample.
--     exact_product   between -1 and 1 the f32 product by 32,768 is the exact one: nothing is rounded, in a subnormal neither
--     over_sample     the sample of z / 32,768, for z from -32,768 to 32,767, is z
--     over_number     and such a value is no NaN
-- Outside -1 to 1 the sample is held to an end, and no product is needed: `Scaled.at_top`, `Scaled.at_bottom`. That a finite f32 is a whole number over 2 ^ 149: `Scaled.whole_value`.
use Rattle.std.proofs.Common.{◌≡◌, ℕ, zero, suc, ◌*◌, ◌/◌, ◌^◌, ◌<◌, Bool, true, false, T, ℤ, pos, sym, refl, ap, ◌∙◌, subst, mul_assoc, mul_right_comm, mul-div_cancel, arith, lit<}
use native.Mathlib.Nat.{eq_of_mul-eq-mul_right}
use lib.Signed.{mag}
use lib.Ieee.{Float, nan, inf, fin, binary32, up, down, lt, mul, fits, is_nan}
use lib.Ieee.Fits.{down_pos}
use lib.Ieee.Exact.{HasValue}
use Rattle.sound.specs.Mix.{floor}
use Rattle.floats.specs.Values.{signed_by, over149, held, sample_of, Over32768}
use Rattle.floats.proofs.Floor.{exact_at, held_pos, held_neg}
use Rattle.floats.proofs.Scaled.{one, minus_one, scale, between, whole, scaled_value}

-- from one fraction to another of the same size
rescale : (x : Float) (s : Bool) (w l num den : ℕ) → 0 < l → num * l ≡ w * den → HasValue x s w l → HasValue x s num den
rescale nan s w l num den p h v = v
rescale (inf t) s w l num den p h v = v
rescale (fin t m e) s w l num den p h v = (
  v.0,
  eq_of_mul-eq-mul_right l p (m * up e * den) (num * down e)
      (mul_right_comm (m * up e) den l
      ∙ ap (λ (x : ℕ). x * den) v.1
      ∙ mul_right_comm w (down e) den
      ∙ ap (λ (x : ℕ). x * down e) (sym h)
      ∙ mul_right_comm num l (down e)),
)

pub exact_product : (s : Bool) (m : ℕ) (e : ℤ) → T (fits binary32 (fin s m e)) → T (lt minus_one (fin s m e)) → T (lt (fin s m e) one)
    → HasValue (mul binary32 (fin s m e) scale) s (over149 m e * 32768) (2 ^ 149)
exact_product s m e f a b =
    let h = between s m e a b in
    rescale (mul binary32 (fin s m e) scale) s (m * up e * 2 ^ 15) (down e) (over149 m e * 32768) (2 ^ 149) (down_pos e) (sym (whole s m e f h)) (scaled_value s m e f h)

-- ---- a whole number over 32,768

-- ±n / 32,768 as a whole number over 2 ^ 149, times 32,768
over_is : (m : ℕ) (e : ℤ) (n : ℕ) → m * up e * 32768 ≡ n * down e → over149 m e * 32768 ≡ n * 2 ^ 149
over_is m e n h =
    let cut : m * up e * 2 ^ 149 ≡ n * 2 ^ 134 * down e =
    sym (mul_assoc (m * up e) 32768 (2 ^ 134)) ∙ ap (λ (z : ℕ). z * 2 ^ 134) h ∙ mul_right_comm n (down e) (2 ^ 134) in
    ap (λ (z : ℕ). z / down e * 32768) cut ∙ ap (λ (z : ℕ). z * 32768) (mul-div_cancel (n * 2 ^ 134) (down_pos e)) ∙ mul_assoc n (2 ^ 134) 32768

floor_whole : (s : Bool) (n : ℕ) → floor (signed_by s (n * 2 ^ 149)) (2 ^ 149) ≡ signed_by s n
unfolding floor
floor_whole false n = ap pos (mul-div_cancel n (lit< tt))
floor_whole true n = exact_at (n * 2 ^ 149) (2 ^ 149) n (lit< tt) refl

held_within : (s : Bool) (n : ℕ) → mag (signed_by s n) < 2 ^ 15 → held (signed_by s n) ≡ signed_by s n
held_within false n h = held_pos n (omega arith)
held_within true zero h = refl
held_within true (suc n) h = held_neg (suc n) (omega arith)

pub over_sample : (x : Float) (z : ℤ) → Over32768 x z → mag z < 2 ^ 15 → sample_of x ≡ z
unfolding sample_of
over_sample nan z o h = absurd o.value
over_sample (inf t) z o h = absurd o.value
over_sample (fin t m e) z o h =
    let n = over_is m e o.size o.value.1 in
    ap (λ (k : ℕ). held (floor (signed_by t k) (2 ^ 149))) n
    ∙ ap (λ (b : Bool). held (floor (signed_by b (o.size * 2 ^ 149)) (2 ^ 149))) o.value.0
    ∙ ap held (floor_whole o.sign o.size)
    ∙ held_within o.sign o.size (subst (λ (w : ℤ). mag w < 2 ^ 15) (sym o.is) h)
    ∙ o.is

pub over_number : (x : Float) (z : ℤ) → Over32768 x z → is_nan x ≡ false
unfolding is_nan
over_number nan z o = absurd o.value
over_number (inf t) z o = refl
over_number (fin t m e) z o = refl
