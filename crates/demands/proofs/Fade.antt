-- A click and silence after it: the samples, and the exact values in closed form. 50 samples on, the envelope is far above the mean; 4,050 samples on, far below.
use Prim.Native.Nat.{ℕ, zero, suc, ◌+◌, ◌-◌, ◌*◌, ◌^◌, ◌≤◌, ◌<◌}
use mathlib.Core.Path.{◌≡◌, refl, sym, ap, ap₂, ◌∙◌}
use mathlib.Core.List.{List, [], ◌∷◌, ◌++◌}
use native.Mathlib.Omega.{arith}
use native.Mathlib.Nat.{sub-zero, pow-zero, pow-suc, suc-mul, le_of_suc-le-suc, not-suc-le-zero}
use lib.ListN.{length, drop, replicate, length-append, length-replicate}
use borrow.Author.Tests.{ltb-true, leb-true}
use Rattle.sound.specs.Mix.{signed, signed_at, instant_samples, weights, divisor, weighted, floor, quotient, mixed, pseudo_absolute, instant_bytes, instant_value}
use Rattle.sound.specs.Exact.{Fraction, exact_next, exact, exact_envelope, exact_mean, MoreAbove, AtLeastAbove}
use Rattle.laws.proofs.Lists.{get_d_zeros}
use Rattle.sound.proofs.Instants.{silent_value}
use Rattle.sound.proofs.Exact.{den_power}
use Rattle.fingerprint.specs.State.{values_at, instants, values_of, whole_instants}
use Rattle.fingerprint.specs.History.{up_to, kept_among, kept_bits}
use Rattle.fingerprint.specs.Paper.{sound_answer}
use Rattle.fingerprint.proofs.Counts.{kept_count}

-- sample 0 is 0 and sample 1 is 32767; then 5,998 samples of silence
unfoldable pub click : List ℕ
click = 0x00 ∷ 0x00 ∷ 0xFF ∷ 0x7F ∷ []

unfoldable pub silence : List ℕ
silence = replicate 11996 0

unfoldable pub faded : ℕ → List ℕ
faded n = replicate n 0 ++ (32767 ∷ 0 ∷ [])

-- ---- the samples

pub click_values : values_of 1 1 click ≡ 32767 ∷ 0 ∷ []
unfolding click values_of values_at instants instant_bytes instant_value mixed quotient floor weighted weights divisor instant_samples signed_at signed pseudo_absolute
click_values = refl

pub silent_values : (rule mix m at n : ℕ) → values_at rule mix (replicate m 0) at n ≡ replicate n 0
unfolding values_at
silent_values rule mix m at zero = refl
silent_values rule mix m at (suc n) =
    ap₂ ◌∷◌ (sym (silent_value rule mix (replicate m 0) (at + n * instant_bytes mix) (λ k l. get_d_zeros m k))) (silent_values rule mix m at n)

pub silence_values : values_of 1 1 silence ≡ replicate 5998 0
unfolding silence values_of instants instant_bytes weights
silence_values = silent_values 1 1 11996 0 5998

faded_length : (n : ℕ) → length (faded n) ≡ n + 2
unfolding faded
faded_length n = length-append {A = ℕ} (replicate n 0) (32767 ∷ 0 ∷ []) ∙ ap (λ (x : ℕ). x + 2) (length-replicate {A = ℕ} n 0)

-- ---- the bits that they give at D = 50

kept_6000 : kept_among 50 6000 ≡ 120
kept_6000 = kept_count 50 (omega arith) 6000 120 (omega arith, omega arith)

pub kept_120 : kept_bits 50 (faded 5998) ≡ 120
unfolding kept_bits
kept_120 = rw (faded_length 5998) kept_6000

pub click_taken : sound_answer 1 50 [] 0 click ≡ 0
unfolding click sound_answer whole_instants instant_bytes weights kept_among instants
click_taken = refl

silence_length : length silence ≡ 11996
unfolding silence
silence_length = length-replicate {A = ℕ} 11996 0

pub all_values : values_of 1 1 silence ++ (32767 ∷ 0 ∷ []) ≡ faded 5998
unfolding faded
all_values = ap (λ (x : List ℕ). x ++ (32767 ∷ 0 ∷ [])) silence_values

pub silence_taken : sound_answer 1 50 (32767 ∷ 0 ∷ []) 0 silence ≡ 0
unfolding sound_answer whole_instants instants instant_bytes weights
silence_taken = rw (silence_length, kept_6000) refl

-- ---- the exact values

drop_zeros : (n k : ℕ) (t : List ℕ) → k ≤ n → drop k (replicate n 0 ++ t) ≡ replicate (n - k) 0 ++ t
drop_zeros n zero t l = rw (sub-zero n) refl
drop_zeros zero (suc k) t l = absurd (not-suc-le-zero l)
drop_zeros (suc n) (suc k) t l =
    let e : suc n - suc k ≡ n - k = omega arith in
    rw e (drop_zeros n k t (le_of_suc-le-suc l))

up_to_lem : (n i : ℕ) → 1 ≤ i → i ≤ n + 1 → up_to (faded n) i ≡ faded (i - 1)
unfolding faded up_to
up_to_lem n i l h =
    let k : n - (n + 2 - suc i) ≡ i - 1 = omega arith in
    rw (faded_length n) (drop_zeros n (n + 2 - suc i) (32767 ∷ 0 ∷ []) (omega arith) ∙ ap faded k)

module _ (j g : ℕ) where
  fading : (n : ℕ) → exact (suc j) g (faded (suc n)) ≡ exact_next (suc j) g (exact (suc j) g (faded n)) 0
  unfolding faded exact
  fading zero = refl
  fading (suc n) = refl

  fade_num : (n : ℕ) → (exact (suc j) g (faded n)).num ≡ g * 32767 * suc j * j ^ n
  unfolding faded exact exact_next
  fade_num zero = rw (pow-zero j) (omega arith)
  fade_num (suc n) =
      let x : ℕ = (exact (suc j) g (faded n)).num in
      let s : suc j * x - x ≡ j * x = omega (arith, suc-mul j x) in
      let r : (exact (suc j) g (faded (suc n))).num ≡ suc j * x - x = ap (λ (y : Fraction). y.num) (fading n) ∙ omega arith in
      r ∙ (s ∙ (ap (◌*◌ j) (fade_num n) ∙ omega (arith, ap (λ (y : ℕ). g * 32767 * suc j * y) (pow-suc j n))))

  fade_den : (n : ℕ) → (exact (suc j) g (faded n)).den ≡ suc j ^ suc n
  unfolding faded
  fade_den zero = den_power (suc j) g 32767 (0 ∷ [])
  fade_den (suc n) =
      den_power (suc j) g 0 (faded n)
      ∙ ap (◌^◌ (suc j)) (faded_length n ∙ omega arith)

-- the same numbers with no fraction in them
above : (n : ℕ) → (1 * 32767 * 8192 * 8191 ^ n + 8191 * 8192 ^ suc n) * 1024 ^ suc n < 8 * 32767 * 1024 * 1023 ^ n * 8192 ^ suc n
    → MoreAbove 8191 (exact_envelope (faded n)) (exact_mean (faded n))
above n l = rw (fade_num 1023 8 n, fade_den 1023 8 n, fade_num 8191 1 n, fade_den 8191 1 n) l

below : (n : ℕ) → (8 * 32767 * 1024 * 1023 ^ n + 1023 * 1024 ^ suc n) * 8192 ^ suc n ≤ 1 * 32767 * 8192 * 8191 ^ n * 1024 ^ suc n
    → AtLeastAbove 1023 (exact_mean (faded n)) (exact_envelope (faded n))
below n l = rw (fade_num 1023 8 n, fade_den 1023 8 n, fade_num 8191 1 n, fade_den 8191 1 n) l

pub far_above : MoreAbove 8191 (exact_envelope (up_to (faded 5998) 50)) (exact_mean (up_to (faded 5998) 50))
far_above = rw (up_to_lem 5998 50 (omega arith) (omega arith)) (above 49 (ltb-true _ _ refl))

pub far_below : AtLeastAbove 1023 (exact_mean (up_to (faded 5998) 4050)) (exact_envelope (up_to (faded 5998) 4050))
far_below = rw (up_to_lem 5998 4050 (omega arith) (omega arith)) (below 4049 (leb-true _ _ refl))
