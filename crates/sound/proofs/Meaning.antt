-- What the definitions of the mix, of 000, 5.3.2's inversion and of the filters mean.
use Prim.Native.Nat.{ℕ, zero, suc, ◌+◌, ◌-◌, ◌*◌, ◌/◌, ◌%◌, ◌^◌, ◌<◌}
use mathlib.Core.Path.{◌≡◌, refl, sym, ap, ap₂, ◌∙◌}
use native.Mathlib.Nat.{div-add-mod, div-add-mod', div-eq_of_lt-le, div-le_self, div-one, mod-lt, one-mul, pow-suc, zero-div}
use native.Mathlib.Omega.{arith}
use mathlib.Core.List.{[], ◌∷◌}
use mathlib.Core.Bool.{Bool, true, false, cond}
use lib.Dec.{eqb}
use lib.IntN.{ℤ, pos, negsuc, neg_ℤ, nat_abs, neg_ℤ-neg_ℤ, ◌+ℤ◌, ◌-ℤ◌, ◌*ℤ◌, sub_ℕ}
use mir.Syntax.{w16}
use mir.Val.{of_z}
use borrow.Author.Tests.{eq-eqb, ne_eqb}
use Rattle.sound.specs.Mix.{signed, weights, divisor, weighted, floor, towards_zero, quotient, mixed, pseudo_absolute}
use Rattle.sound.specs.Inversion.{inverted, pseudo_absolute_of_bits}
use Rattle.sound.specs.Filter.{filter_next}
use Rattle.laws.proofs.Whole.{by_order, sub_pos, sub_neg, sub_eq, sub_add, negated}
use Rattle.sound.proofs.Rounding.{signed_high, rounds_alike, absolute_low, absolute_high}

-- the quotient of n + 1, which is whole or not, and that of n
whole_up : (n d : ℕ) → 0 < d → suc n % d ≡ 0 → suc n / d ≡ suc (n / d)
whole_up n d h e = go (suc n / d) (omega (arith, div-add-mod' (suc n) d))
  where
    go : (q : ℕ) → q * d ≡ suc n → q ≡ suc (n / d)
    go zero f = absurd (omega arith)
    go (suc q) f = ap suc (sym (div-eq_of_lt-le {k = q} d {m = n} (omega arith) (omega arith)))

broken_same : (n d : ℕ) → 0 < d → 0 < suc n % d → suc n / d ≡ n / d
broken_same n d h e =
    let f = div-add-mod' (suc n) d in
    let l = mod-lt (suc n) h in
    sym (div-eq_of_lt-le {k = suc n / d} d {m = n} (omega arith) (omega arith))

-- rounding down towards minus infinity: z is d times the floor, and a remainder of at least 0 and less than d
pub floor_is : (z : ℤ) (d : ℕ) → 0 < d → (r : ℕ) × (r < d) × (z ≡ pos d *ℤ floor z d +ℤ pos r)
unfolding floor
floor_is (pos n) d h = (n % d, mod-lt n h, ap pos (sym (div-add-mod n d)))
floor_is (negsuc n) d h =
    let e = div-add-mod n d in
    let l = mod-lt n h in
    let r : ℕ = d - suc (n % d) in
    let s : sub_ℕ (0 + r) (d * suc (n / d) + 0) ≡ negsuc n = sub_neg (0 + r) (d * suc (n / d) + 0) n (omega arith) in
    (r, omega arith, sym (ap₂ ◌+ℤ◌ (negated (d * suc (n / d))) (sym (sub_pos r 0 r (omega arith))) ∙ (sub_add 0 (d * suc (n / d)) r 0 ∙ s)))

-- rounding towards zero (02, A9): the size of z is d times the quotient's, and a remainder of less than d; the quotient of -z is that of z, negated; and what is not
-- negative has the floor for its quotient (`Rounding.rounds_alike`)
pub towards_zero_is : (z : ℤ) (d : ℕ) → 0 < d → (r : ℕ) × (r < d) × (nat_abs z ≡ d * nat_abs (towards_zero z d) + r)
unfolding towards_zero
towards_zero_is (pos n) d h = (n % d, mod-lt n h, sym (div-add-mod n d))
towards_zero_is (negsuc n) d h = (suc n % d, mod-lt (suc n) h, sym (ap (λ (q : ℕ). d * q + suc n % d) (size_negated (suc n / d)) ∙ div-add-mod (suc n) d))
  where
    size_negated : (q : ℕ) → nat_abs (neg_ℤ (pos q)) ≡ q
    size_negated zero = refl
    size_negated (suc q) = refl

pub towards_zero_odd : (z : ℤ) (d : ℕ) → towards_zero (neg_ℤ z) d ≡ neg_ℤ (towards_zero z d)
unfolding towards_zero
towards_zero_odd (pos zero) d = rw (zero-div d) refl
towards_zero_odd (pos (suc n)) d = refl
towards_zero_odd (negsuc n) d = sym (neg_ℤ-neg_ℤ (pos (suc n / d)))

-- ---- The two rules beside each other, where they can part: below zero

-- a negative quotient that is whole, or not: the same mix, or that of rule 2 one higher
pub whole_alike : (n d : ℕ) → 0 < d → suc n % d ≡ 0 → quotient 2 (negsuc n) d ≡ quotient 1 (negsuc n) d
unfolding quotient towards_zero floor
whole_alike n d h e = ap (λ (q : ℕ). neg_ℤ (pos q)) (whole_up n d h e)

pub one_apart : (n d : ℕ) → 0 < d → 0 < suc n % d → quotient 2 (negsuc n) d ≡ quotient 1 (negsuc n) d +ℤ pos 1
unfolding quotient towards_zero floor
one_apart n d h e = ap (λ (q : ℕ). neg_ℤ (pos q)) (broken_same n d h e) ∙ (negated (n / d) ∙ sym (sub_eq 1 (suc (n / d)) 0 (n / d) (omega arith)))

-- and a(i): of a whole one the same, else one less by rule 2, but where there is none less, of a mix between -1 and 0, which gives 0 by both
pub value_alike : (n d : ℕ) → 0 < d → suc n % d ≡ 0 → pseudo_absolute (quotient 2 (negsuc n) d) ≡ pseudo_absolute (quotient 1 (negsuc n) d)
value_alike n d h e = ap pseudo_absolute (whole_alike n d h e)

pub value_less : (n d : ℕ) → 0 < d → 0 < suc n % d → pseudo_absolute (quotient 2 (negsuc n) d) ≡ pseudo_absolute (quotient 1 (negsuc n) d) - 1
unfolding quotient towards_zero floor pseudo_absolute
value_less n d h e = ap (λ (q : ℕ). pseudo_absolute (neg_ℤ (pos q))) (broken_same n d h e) ∙ go (n / d)
  where
    go : (q : ℕ) → pseudo_absolute (neg_ℤ (pos q)) ≡ q - 1
    go zero = refl
    go (suc q) = omega arith

-- "Mix type 1 is mono": it has no quotient, and is mixed to itself by any rule
pub mono_mixed : (rule : ℕ) (z : ℤ) → mixed rule 1 (z ∷ []) ≡ z
unfolding mixed quotient towards_zero floor weights divisor weighted
mono_mixed rule (pos n) = rounds_alike rule (1 * n + 0) 1 ∙ ap pos (div-one (1 * n + 0) ∙ omega arith)
mono_mixed rule (negsuc n) =
    let e : neg_ℤ (pos (1 * suc n)) +ℤ pos 0 ≡ negsuc n = rw (one-mul (suc n)) (sub_neg 0 (suc n) n (omega arith)) in
    ap (λ (z : ℤ). quotient rule z 1) e ∙ same (eqb rule 2)
  where
    same : (b : Bool) → cond b (neg_ℤ (pos (suc n / 1))) (negsuc (n / 1)) ≡ negsuc n
    same true = ap (λ (q : ℕ). neg_ℤ (pos q)) (div-one (suc n))
    same false = ap negsuc (div-one n)

-- "A negative mix m then becomes -m-1", any other stays
pub absolute_negative : (n : ℕ) → pos (pseudo_absolute (negsuc n)) ≡ neg_ℤ (negsuc n) -ℤ pos 1
unfolding pseudo_absolute
absolute_negative n = sym (sub_pos (suc n) 1 n (omega arith))

pub absolute_other : (n : ℕ) → pseudo_absolute (pos n) ≡ n
unfolding pseudo_absolute
absolute_other n = refl

-- 000, 5.3.2: n bits inverted are the number with all of them 1, less theirs
pub inverted_is : (n w : ℕ) → w < 2 ^ n → inverted n w ≡ 2 ^ n - 1 - w
unfolding inverted
inverted_is zero w h = omega arith
inverted_is (suc n) w h =
    let s : 2 ^ suc n ≡ 2 ^ n * 2 = pow-suc 2 n in
    let e = inverted_is n (w / 2) (omega arith) in
    omega arith

-- the toolchain's sixteen bits of a negative number, in two's complement, are what 01's samples are read from
pub bits_read : (n : ℕ) → n < 32768 → signed (of_z w16 (negsuc n)) ≡ negsuc n
bits_read n h = signed_high (of_z w16 (negsuc n)) n (omega arith) h

-- the inversion of the sixteen bits of m, in two's complement, is -m-1, for every m from -32,768 to -1, here -(n + 1)
pub inverted_negative : (n : ℕ) → n < 32768 → pos (inverted 16 (of_z w16 (negsuc n))) ≡ neg_ℤ (negsuc n) -ℤ pos 1
unfolding pseudo_absolute
inverted_negative n h =
    let e : inverted 16 (of_z w16 (negsuc n)) ≡ n = inverted_is 16 (of_z w16 (negsuc n)) (omega arith) ∙ omega arith in
    ap pos e ∙ absolute_negative n

-- so the clause, which speaks of the bits, and 01, which speaks of the number, say the same
pub clause_is : (w : ℕ) → w < 65536 → pseudo_absolute_of_bits w ≡ pseudo_absolute (signed w)
unfolding pseudo_absolute_of_bits
clause_is w b =
    by_order w 32768
    (λ h. simp (ne_eqb (w / 32768) 1 (λ e. omega arith)) (absolute_low w h))
    (λ h. simp (eq-eqb (w / 32768) 1 (omega arith)) (inverted_is 16 w b ∙ absolute_high w h b))

-- the filter in document 01's own order of terms
pub filter_is : (k g v a : ℕ) → filter_next k g v a ≡ g * a + v - v / k
unfolding filter_next
filter_is k g v a = omega (arith, div-le_self v k)
