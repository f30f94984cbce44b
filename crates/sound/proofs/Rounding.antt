-- The rounding of a mix by either rule, and 16 bits as a signed number.
use Prim.Native.Nat.{ℕ, suc, ◌+◌, ◌-◌, ◌*◌, ◌/◌, ◌%◌, ◌<◌, ◌≤◌}
use mathlib.Core.Path.{◌≡◌, refl, sym, ap, ◌∙◌}
use mathlib.Core.Logic.{◌≢◌}
use mathlib.Core.Bool.{Bool, true, false, cond}
use native.Mathlib.Nat.{add-mul, add-mul-div_right, div-add-mod', div-eq_of_lt, div-eq_of_lt-le, div-lt_iff_lt-mul, mod-lt}
use native.Mathlib.Omega.{arith}
use lib.Dec.{eqb}
use lib.IntN.{ℤ, pos, negsuc, neg_ℤ, sub_ℕ}
use borrow.Author.Tests.{lt-ltb, le-ltb, eq-eqb, ne_eqb}
use Rattle.sound.specs.Mix.{signed, floor, towards_zero, quotient, pseudo_absolute}
use Rattle.laws.proofs.Whole.{by_order, sub_pos, sub_neg, sub_eq}

-- a number that is held 32,768 too high
abbrev pub lowered : ℕ → ℤ
lowered s = sub_ℕ s 32768

pub signed_low : (w : ℕ) → w < 32768 → signed w ≡ pos w
unfolding signed
signed_low w h = simp (lt-ltb w 32768 h)

pub signed_high : (w n : ℕ) → w + n ≡ 65535 → n < 32768 → signed w ≡ negsuc n
unfolding signed
signed_high w n e h = simp (le-ltb w 32768 (omega arith)) (sub_neg w 65536 n (omega arith))

pub raised_is : (w : ℕ) → w < 65536 → lowered ((w + 32768) % 65536) ≡ signed w
unfolding signed
raised_is w b =
    by_order w 32768
    (λ h. simp (lt-ltb w 32768 h) (sub_pos ((w + 32768) % 65536) 32768 w (omega arith)))
    (λ h. simp (le-ltb w 32768 h) (sub_eq ((w + 32768) % 65536) 32768 w 65536 (omega arith)))

pub lowered_is : (q : ℕ) → q < 65536 → signed ((q + 32768) % 65536) ≡ lowered q
lowered_is q h =
    let e : ((q + 32768) % 65536 + 32768) % 65536 ≡ q = omega arith in
    sym (raised_is ((q + 32768) % 65536) (omega arith)) ∙ ap lowered e

-- the quotient of a sum less its bias, 32,768 too high
module _ (s b d : ℕ) (p : 0 < d) (few : b ≤ 32768 * d) where
  quotient_up : b ≤ s → (s + (32768 * d - b)) / d ≡ (s - b) / d + 32768
  quotient_up h =
      let e : s + (32768 * d - b) ≡ s - b + 32768 * d = omega arith in
      ap (λ (n : ℕ). n / d) e ∙ add-mul-div_right (s - b) 32768 p

  quotient_down : s < b → (s + (32768 * d - b)) / d + suc ((b - s - 1) / d) ≡ 32768
  quotient_down h =
      let n : ℕ = b - s - 1 in
      let q : ℕ = n / d in
      let small : q < 32768 = (div-lt_iff_lt-mul p).1 (omega arith) in
      let k : ℕ = 32767 - q in
      let all : k * d + q * d ≡ 32767 * d = sym (add-mul k q d) ∙ ap (λ (m : ℕ). m * d) (omega arith) in
      let e = div-add-mod' n d in
      let l = mod-lt n p in
      omega (arith, div-eq_of_lt-le {k = k} d {m = s + (32768 * d - b)} (omega arith) (omega arith))

  pub quotient_small : s < b + 32768 * d → (s + (32768 * d - b)) / d < 65536
  quotient_small h = (div-lt_iff_lt-mul p).1 (omega arith)

  pub floor_lowered : lowered ((s + (32768 * d - b)) / d) ≡ floor (sub_ℕ s b) d
  unfolding floor
  floor_lowered =
      by_order s b
      (λ h. sub_neg ((s + (32768 * d - b)) / d) 32768 ((b - s - 1) / d) (omega (arith, quotient_down h)) ∙ ap (λ (z : ℤ). floor z d) (sym (sub_neg s b (b - s - 1) (omega arith))))
      (λ h. sub_pos ((s + (32768 * d - b)) / d) 32768 ((s - b) / d) (omega (arith, quotient_up h)) ∙ ap (λ (z : ℤ). floor z d) (sym (sub_pos s b (s - b) (omega arith))))

-- ---- the rules, each by a sum that is rounded down

-- any rule but 2 rounds down
pub rounds_down : (rule : ℕ) (z : ℤ) (d : ℕ) → rule ≢ 2 → floor z d ≡ quotient rule z d
unfolding quotient
rounds_down rule z d n = simp (ne_eqb rule 2 n)

pub rounds_to_zero : (rule : ℕ) (z : ℤ) (d : ℕ) → rule ≡ 2 → towards_zero z d ≡ quotient rule z d
unfolding quotient
rounds_to_zero rule z d e = simp (eq-eqb rule 2 e)

-- what is not negative is rounded alike, by any rule
pub rounds_alike : (rule n d : ℕ) → quotient rule (pos n) d ≡ pos (n / d)
unfolding quotient towards_zero floor
rounds_alike rule n d = same (eqb rule 2)
  where
    same : (b : Bool) → cond b (pos (n / d)) (pos (n / d)) ≡ pos (n / d)
    same true = refl
    same false = refl

pub not_lifted : (rule s b d : ℕ) → b ≤ s → floor (sub_ℕ s b) d ≡ quotient rule (sub_ℕ s b) d
unfolding floor
not_lifted rule s b d h = rw (sub_pos s b (s - b) (omega arith)) (sym (rounds_alike rule (s - b) d))

-- a negative number rounds towards zero as one d - 1 higher rounds down
pub lifted : (s b d : ℕ) → 0 < d → s < b → floor (sub_ℕ (s + (d - 1)) b) d ≡ towards_zero (sub_ℕ s b) d
unfolding floor towards_zero
lifted s b d p h =
    let n : ℕ = b - s - 1 in
    (by_order (suc n) d
    (λ l.
    let k : ℕ = d - 1 - suc n in
    ap (λ (z : ℤ). floor z d) (sub_pos (s + (d - 1)) b k (omega arith)) ∙ ap pos (div-eq_of_lt (omega arith)) ∙ sym (ap (λ (q : ℕ). neg_ℤ (pos q)) (div-eq_of_lt l)))
    (λ l.
    let k : ℕ = suc n - d in
    let e : suc n ≡ k + 1 * d = omega arith in
    let q : suc n / d ≡ suc (k / d) = ap (λ (m : ℕ). m / d) e ∙ (add-mul-div_right k 1 p ∙ omega arith) in
    ap (λ (z : ℤ). floor z d) (sub_neg (s + (d - 1)) b k (omega arith)) ∙ sym (ap (λ (m : ℕ). neg_ℤ (pos m)) q))
    ∙ ap (λ (z : ℤ). towards_zero z d) (sym (sub_neg s b n (omega arith))))

pub absolute_low : (m : ℕ) → m < 32768 → m ≡ pseudo_absolute (signed m)
unfolding pseudo_absolute
absolute_low m h = ap pseudo_absolute (sym (signed_low m h))

-- the number of `!`: all sixteen ones, less m
pub absolute_high : (m : ℕ) → 32768 ≤ m → m < 65536 → 65535 - m ≡ pseudo_absolute (signed m)
unfolding pseudo_absolute
absolute_high m h b = ap pseudo_absolute (sym (signed_high m (65535 - m) (omega arith) (omega arith)))
