-- The mean of n bytes is a byte: once, over the taps.
use Prim.Native.Nat.{ℕ, zero, suc, ◌+◌, ◌*◌, ◌/◌, ◌%◌, ◌≤◌, ◌<◌}
use mathlib.Core.Path.{◌≡◌, ap, ◌∙◌}
use mathlib.Core.List.{List}
use native.Mathlib.Omega.{arith}
use native.Mathlib.Numerals.{add-one}
use native.Mathlib.Nat.{div-lt_iff_lt-mul, div-add-mod, mod-lt, mul-add, add_assoc, add-zero, zero-add, div-one}
use Rattle.sampling.specs.Samples.{sample_at, tap_sum, mean_of}

pub sample_small : (line : List ℕ) (s : ℕ) → sample_at line s < 256
unfolding sample_at
sample_small line s = omega arith

pub sum_more : (line : List ℕ) (s n : ℕ) → tap_sum line s (n + 1) ≡ tap_sum line s n + sample_at line (s + n)
unfolding tap_sum
sum_more line s n = rw (add-one n)

pub sum_two : (line : List ℕ) (s n : ℕ) → tap_sum line s (n + 2) ≡ tap_sum line s n + (sample_at line (s + n) + sample_at line (s + n + 1))
sum_two line s n =
    let e : n + 2 ≡ n + 1 + 1 = omega arith in
    let f : s + (n + 1) ≡ s + n + 1 = omega arith in
    ap (tap_sum line s) e ∙ (sum_more line s (n + 1) ∙ rw (sum_more line s n, f) (add_assoc (tap_sum line s n) _ _))

pub sum_small : (line : List ℕ) (s n : ℕ) → tap_sum line s n ≤ 255 * n
unfolding tap_sum
sum_small line s zero = omega arith
sum_small line s (suc n) = omega (arith, sum_small line s n, sample_small line (s + n))

pub mean_small : (line : List ℕ) (s n : ℕ) → 0 < n → mean_of line s n < 256
unfolding mean_of
mean_small line s n p = (div-lt_iff_lt-mul p).1 (omega (arith, sum_small line s n))

-- it is the floor of the mean
pub mean_floor : (line : List ℕ) (s n : ℕ) → 0 < n → (n * mean_of line s n ≤ tap_sum line s n) × (tap_sum line s n < n * (mean_of line s n + 1))
unfolding mean_of
mean_floor line s n p =
    let t = tap_sum line s n in
    let e : n * (t / n) + t % n ≡ t = div-add-mod t n in
    let l : t % n < n = mod-lt t p in
    (omega arith, rw mul-add (omega arith))

-- the sum, and the mean, of one sample is the sample
pub one_tap : (line : List ℕ) (s : ℕ) → tap_sum line s 1 ≡ sample_at line s
unfolding tap_sum
one_tap line s = rw (zero-add (sample_at line (s + 0))) (ap (sample_at line) (add-zero s))

pub single : (line : List ℕ) (s : ℕ) → mean_of line s 1 ≡ sample_at line s
unfolding mean_of
single line s = div-one (tap_sum line s 1) ∙ one_tap line s
