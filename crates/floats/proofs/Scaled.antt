-- An f32 times 32,768, where it lies between -1 and 1: the product is exact, its cut towards zero is a whole number below 2 ^ 15, and comparing the product with
-- that number says whether the floor lies one below.
--     lt_values    the order of two finite floats by their fractions
--     scaled_value the product is exact
--     whole_value  a finite f32 is a whole number over 2 ^ 149
--     Middle       what `floored` needs of x;     middle   it holds
--     at_top, at_bottom    the sample of an x that is 1 or more, -1 or less
use Rattle.std.proofs.Common.{◌≡◌, ℕ, zero, suc, ◌+◌, ◌-◌, ◌*◌, ◌/◌, ◌%◌, ◌^◌, ◌<◌, ◌≤◌, min, Bool, true, false, not, ◌&&◌, ◌||◌, T, eqb, ltb, leb, ℤ, pos, negsuc, ◌-ℤ◌, neg_ℤ, sym, refl, ap, ◌∙◌, subst, true≢false, le_trans, le_of_eq, lt_of_lt_of_le, mul-le-mul_right, mul_assoc, mul_comm, div-lt_iff_lt-mul, lt_of_mul-lt-mul_right, mul-lt-mul_of_pos_right, mul-pos, one-mul, lt_of_not-le, le-div_iff_mul-le, zero-mul, mul-one, mul_right_comm, not-le_of_lt, div-mul-le_self, div-one, mul-div_cancel, mul_left_comm, arith, lit<, lit≤, eqb→eq, ltb→lt, lt→ltb, leb→le, nltb→le, T_not, pow_pos, pow-add, le-ltb}
use lib.Pow.{pow-lt}
use lib.Signed.{mag}
use lib.Ieee.{Float, nan, inf, fin, binary32, up, down, below, lt, le, eq, is_nan, mul, round, of_int, to_signed, fits}
use lib.Ieee.Fits.{up_pos, down_pos, and_l, and_r}
use lib.Ieee.Nearest.{div_same}
use lib.Ieee.Exact.{HasValue, round_exact}
use lib.Ieee.Back.{round_whole}
use Rattle.laws.proofs.Tests.{same_test}
use Rattle.sound.specs.Mix.{floor}
use Rattle.floats.specs.Values.{signed_by, over149, held, sample_of}
use Rattle.floats.proofs.Floor.{same, below_cut, at_cut, held_pos, held_negsuc, held_neg}

abbrev pub one : Float
one = fin false 1 (pos 0)

abbrev pub minus_one : Float
minus_one = fin true 1 (pos 0)

abbrev pub scale : Float
scale = fin false 1 (pos 15)

-- ---- tests
pub no_test : (p : Bool) → p ≡ false → T (not p)
no_test true e = absurd (true≢false e)
no_test false e = tt

ltb_same : (a b a' b' k l : ℕ) → 0 < k → 0 < l → a * k ≡ a' * l → b * k ≡ b' * l → ltb a b ≡ ltb a' b'
ltb_same a b a' b' k l K L p q = same_test (suc a) b (suc a') b'
    (λ h. lt_of_mul-lt-mul_right l (subst (λ (z : ℕ). a' * l < z) q (subst (λ (z : ℕ). z < b * k) p (mul-lt-mul_of_pos_right h K))))
    (λ h. lt_of_mul-lt-mul_right k (subst (λ (z : ℕ). a * k < z) (sym q) (subst (λ (z : ℕ). z < b' * l) (sym p) (mul-lt-mul_of_pos_right h L))))

below_same : (s t : Bool) (a b a' b' k l : ℕ) → 0 < k → 0 < l → a * k ≡ a' * l → b * k ≡ b' * l → below s a t b ≡ below s a' t b'
below_same false false a b a' b' k l K L p q = ltb_same a b a' b' k l K L p q
below_same false true a b a' b' k l K L p q = refl
below_same true false a b a' b' k l K L p q = ltb_same 0 (a + b) 0 (a' + b') k l K L (omega arith) (omega arith)
below_same true true a b a' b' k l K L p q = ltb_same b a b' a' k l K L q p

cross : (x c p de dd d : ℕ) → x * c ≡ p * de → x * dd * (c * d) ≡ p * d * (de * dd)
cross x c p de dd d h = simp (mul_assoc, mul_comm, mul_left_comm) (simp (mul_assoc, mul_comm, mul_left_comm) at (ap (λ (z : ℕ). z * (dd * d)) h))

pub lt_values : (y z : Float) (s t : Bool) (p c q d : ℕ) → 0 < c → 0 < d → HasValue y s p c → HasValue z t q d → lt y z ≡ below s (p * d) t (q * c)
unfolding lt
lt_values nan z s t p c q d C D h i = absurd h
lt_values (inf u) z s t p c q d C D h i = absurd h
lt_values (fin u m e) nan s t p c q d C D h i = absurd i
lt_values (fin u m e) (inf v) s t p c q d C D h i = absurd i
lt_values (fin u m e) (fin v n g) s t p c q d C D h i =
    below_same u v (m * up e * down g) (n * up g * down e) (p * d) (q * c) (c * d) (down e * down g) (mul-pos C D) (mul-pos (down_pos e) (down_pos g))
    (cross (m * up e) c p (down e) (down g) d h.1)
    (ap (λ (z : ℕ). n * up g * down e * z) (mul_comm c d) ∙ cross (n * up g) d q (down g) (down e) c i.1 ∙ ap (λ (z : ℕ). q * c * z) (mul_comm (down g) (down e)))
    ∙ ap (λ (w : Bool). below w (p * d) v (q * c)) h.0 ∙ ap (λ (w : Bool). below s (p * d) w (q * c)) i.0

-- ---- cut towards zero
capped_at : (w a b : ℕ) → w ≡ a → a < b → min w b ≡ a
capped_at w a b e h = omega arith

capped_below : (w a b : ℕ) → w ≡ a → a < b → min w (b - 1) ≡ a
capped_below w a b e h = omega arith

pub cut_value : (y : Float) (s : Bool) (p c : ℕ) → 0 < c → HasValue y s p c → p / c < 2 ^ 63 → to_signed 63 y ≡ signed_by s (p / c)
unfolding to_signed
cut_value nan s p c C h k = absurd h
cut_value (inf u) s p c C h k = absurd h
cut_value (fin true m e) true p c C h k = ap (λ (z : ℕ). neg_ℤ (pos z)) (capped_at (m * up e / down e) (p / c) (2 ^ 63) (div_same (m * up e) (down e) p c (down_pos e) C h.1) k)
cut_value (fin false m e) false p c C h k = ap pos (capped_below (m * up e / down e) (p / c) (2 ^ 63) (div_same (m * up e) (down e) p c (down_pos e) C h.1) k)
cut_value (fin true m e) false p c C h k = absurd (true≢false h.0)
cut_value (fin false m e) true p c C h k = absurd (true≢false (sym h.0))

-- ---- and back
abbrev nonzero : ℕ → Bool
nonzero zero = false
nonzero (suc n) = true

back_value : (s : Bool) (a : ℕ) → a ≤ 2 ^ 24 → HasValue (of_int binary32 (signed_by s a)) (s && nonzero a) a 1
unfolding of_int
back_value false a h = round_whole binary32 false a h
back_value true zero h = round_whole binary32 false 0 h
back_value true (suc a) h = round_whole binary32 true (suc a) h

-- the product against its cut
after : (s : Bool) (a c p : ℕ) → a * c ≤ p → below s (p * 1) (s && nonzero a) (a * c) ≡ (s && ltb (a * c) p)
after false a c p h = le-ltb (p * 1) (a * c) (omega arith)
after true zero c p h = same_test 1 (p * 1 + 0 * c) (suc (0 * c)) p (λ k. omega arith) (λ k. omega arith)
after true (suc a) c p h = ap (λ (z : ℕ). ltb (suc a * c) z) (mul-one p)

pub cut_above : (y : Float) (s : Bool) (p c : ℕ) → 0 < c → HasValue y s p c → p / c ≤ 2 ^ 24 → lt y (of_int binary32 (signed_by s (p / c))) ≡ (s && ltb (p / c * c) p)
cut_above y s p c C h k =
    lt_values y (of_int binary32 (signed_by s (p / c))) s (s && nonzero (p / c)) p c (p / c) 1 C (lit< tt) h (back_value s (p / c) k) ∙ after s (p / c) c p (div-mul-le_self p c)

-- ---- what a format holds
small : (s : Bool) (m : ℕ) (e : ℤ) → T (fits binary32 (fin s m e)) → m < 2 ^ 24
unfolding fits
small s zero e t = lit< tt
small s (suc m) e t =
    let a : Bool = eqb (suc m % 2) 1 in
    let b : Bool = ltb (suc m) (2 ^ 24) in
    let c : Bool = leb (down e) (2 ^ 149) in
    let d : Bool = ltb (suc m * up e) (2 ^ 128 * down e) in
    ltb→lt (suc m) (2 ^ 24) (and_r a b (and_l (a && b) c (and_l (a && b && c) d t)))

not_finer : (s : Bool) (m : ℕ) (e : ℤ) → T (fits binary32 (fin s m e)) → down e ≤ 2 ^ 149
unfolding fits
not_finer s zero e t = le_trans (le_trans (le_of_eq (sym (one-mul (down e)))) (mul-le-mul_right (down e) (up_pos e))) (le_trans (le_of_eq (eqb→eq (up e * down e) 1 t)) (lit≤ tt))
not_finer s (suc m) e t =
    let a : Bool = eqb (suc m % 2) 1 in
    let b : Bool = ltb (suc m) (2 ^ 24) in
    let c : Bool = leb (down e) (2 ^ 149) in
    let d : Bool = ltb (suc m * up e) (2 ^ 128 * down e) in
    leb→le (down e) (2 ^ 149) (and_r (a && b) c (and_l (a && b && c) d t))

power_le : (i j : ℕ) → 2 ^ i ≤ 2 ^ j → i ≤ j
power_le i j h = omega (arith, lt_of_not-le {n = suc j} {m = i} (λ g. not-le_of_lt (pow-lt g) h))

-- ---- the product is exact
finer_by : (k : ℕ) → suc k ≤ 149 → 2 ^ (164 - suc k) * 2 ^ suc k ≡ 2 ^ 164
finer_by k h = let e : 164 - suc k + suc k ≡ 164 = omega arith in sym (pow-add 2 (164 - suc k) (suc k)) ∙ ap (λ (z : ℕ). 2 ^ z) e

round_scaled : (s : Bool) (m : ℕ) (e : ℤ) → m < 2 ^ 24 → down e ≤ 2 ^ 149 → m * up e < down e → HasValue (round binary32 s (m * up e * 2 ^ 15) (down e * 1)) s (m * up e * 2 ^ 15) (down e * 1)
round_scaled s zero (pos k) a b h = round_exact binary32 s (0 * 2 ^ k * 2 ^ 15) 1 0 0 (lit< tt) (lit< tt) (lit< tt) (simp zero-mul)
round_scaled s (suc m) (pos k) a b h = absurd (omega (arith, mul-pos {m = suc m} {n = 2 ^ k} (omega arith) (pow_pos k)))
round_scaled s m (negsuc k) a b h =
    let j : ℕ = 164 - suc k in
    let far : 2 ^ j * 2 ^ suc k ≡ 2 ^ 164 = finer_by k (power_le (suc k) 149 b) in
    let under : m < 2 ^ suc k = subst (λ (z : ℕ). z < 2 ^ suc k) (mul-one m) h in
    round_exact binary32 s (m * 1 * 2 ^ 15) (2 ^ suc k * 1) m j (mul-pos (pow_pos (suc k)) (lit< tt)) a
    (lt_of_lt_of_le (mul-lt-mul_of_pos_right under (pow_pos j)) (le_trans (le_of_eq (mul_comm (2 ^ suc k) (2 ^ j) ∙ far)) (lit≤ tt)))
    (ap (λ (z : ℕ). z * 2 ^ 15 * 2 ^ 149) (mul-one m) ∙ mul_assoc m (2 ^ 15) (2 ^ 149) ∙ ap (λ (z : ℕ). m * z) (sym far) ∙ sym (mul_assoc m (2 ^ j) (2 ^ suc k)) ∙ ap (λ (z : ℕ). m * 2 ^ j * z) (sym (mul-one (2 ^ suc k))))

exact_at : (s : Bool) (m : ℕ) (e : ℤ) → T (fits binary32 (fin s m e)) → m * up e < down e → HasValue (mul binary32 (fin s m e) scale) s (m * up e * 2 ^ 15) (down e * 1)
unfolding mul
exact_at true m e f h = round_scaled true m e (small true m e f) (not_finer true m e f) h
exact_at false m e f h = round_scaled false m e (small false m e f) (not_finer false m e f) h

pub scaled_value : (s : Bool) (m : ℕ) (e : ℤ) → T (fits binary32 (fin s m e)) → m * up e < down e → HasValue (mul binary32 (fin s m e) scale) s (m * up e * 2 ^ 15) (down e)
scaled_value s m e f h = subst (λ (z : ℕ). HasValue (mul binary32 (fin s m e) scale) s (m * up e * 2 ^ 15) z) (mul-one (down e)) (exact_at s m e f h)

-- ---- a finite f32 is a whole number over 2 ^ 149
over_by : (k : ℕ) → suc k ≤ 149 → 2 ^ (149 - suc k) * 2 ^ suc k ≡ 2 ^ 149
over_by k h = let e : 149 - suc k + suc k ≡ 149 = omega arith in sym (pow-add 2 (149 - suc k) (suc k)) ∙ ap (λ (z : ℕ). 2 ^ z) e

over_exact : (m : ℕ) (e : ℤ) → down e ≤ 2 ^ 149 → over149 m e * down e ≡ m * up e * 2 ^ 149
over_exact m (pos k) b = mul-one (m * 2 ^ k * 2 ^ 149 / 1) ∙ div-one (m * 2 ^ k * 2 ^ 149)
over_exact m (negsuc k) b =
    let i : ℕ = 149 - suc k in
    let cut : m * 1 * 2 ^ 149 ≡ m * 1 * 2 ^ i * 2 ^ suc k = ap (λ (z : ℕ). m * 1 * z) (sym (over_by k (power_le (suc k) 149 b))) ∙ sym (mul_assoc (m * 1) (2 ^ i) (2 ^ suc k)) in
    ap (λ (z : ℕ). z / 2 ^ suc k * 2 ^ suc k) cut ∙ ap (λ (z : ℕ). z * 2 ^ suc k) (mul-div_cancel (m * 1 * 2 ^ i) (pow_pos (suc k))) ∙ sym cut

pub whole_value : (s : Bool) (m : ℕ) (e : ℤ) → T (fits binary32 (fin s m e)) → HasValue (fin s m e) s (over149 m e) (2 ^ 149)
whole_value s m e f = (refl, sym (over_exact m e (not_finer s m e f)))

-- ---- between -1 and 1
pub record Middle (x : Float) : Type 0 where
  pub above : T (le (fin true 1 (pos 63)) (mul binary32 x scale))
  pub under : T (lt (mul binary32 x scale) (fin false 1 (pos 63)))
  pub few : mag (to_signed 63 (mul binary32 x scale)) < 2 ^ 15
  pub few_below : lt (mul binary32 x scale) (of_int binary32 (to_signed 63 (mul binary32 x scale))) ≡ true → mag (to_signed 63 (mul binary32 x scale) -ℤ pos 1) < 2 ^ 15
  pub one_below : lt (mul binary32 x scale) (of_int binary32 (to_signed 63 (mul binary32 x scale))) ≡ true → to_signed 63 (mul binary32 x scale) -ℤ pos 1 ≡ sample_of x
  pub just : lt (mul binary32 x scale) (of_int binary32 (to_signed 63 (mul binary32 x scale))) ≡ false → to_signed 63 (mul binary32 x scale) ≡ sample_of x

or_left : (a b : Bool) → T a → T (a || b)
or_left true b t = tt
or_left false b t = absurd t

lt→le : (x y : Float) → T (lt x y) → T (le x y)
unfolding le
lt→le x y t = or_left (lt x y) (eq x y) t

end_below : (s : Bool) (P c : ℕ) → P < c → T (below true (2 ^ 63 * c) s (P * 2 ^ 15 * 1))
end_below false P c h = lt→ltb 0 (2 ^ 63 * c + P * 2 ^ 15 * 1) (omega arith)
end_below true P c h = lt→ltb (P * 2 ^ 15 * 1) (2 ^ 63 * c) (omega arith)

end_above : (s : Bool) (P c : ℕ) → P < c → T (below s (P * 2 ^ 15 * 1) false (2 ^ 63 * c))
end_above false P c h = lt→ltb (P * 2 ^ 15 * 1) (2 ^ 63 * c) (omega arith)
end_above true P c h = lt→ltb 0 (P * 2 ^ 15 * 1 + 2 ^ 63 * c) (omega arith)

mag_signed_by : (s : Bool) (a : ℕ) → a < 2 ^ 15 → mag (signed_by s a) < 2 ^ 15
mag_signed_by false a h = h
mag_signed_by true zero h = h
mag_signed_by true (suc a) h = omega arith

less_one : (a : ℕ) → neg_ℤ (pos a) -ℤ pos 1 ≡ negsuc a
less_one zero = refl
less_one (suc a) = let e : suc (a + 0) ≡ suc a = omega arith in ap negsuc e

mag_less : (s : Bool) (a : ℕ) (b : Bool) → a < 2 ^ 15 → (s && b) ≡ true → mag (signed_by s a -ℤ pos 1) < 2 ^ 15
mag_less true a b h t = subst (λ (z : ℤ). mag z < 2 ^ 15) (sym (less_one a)) h
mag_less false a b h t = absurd (true≢false (sym t))

-- the floor, from the cut, by the test's outcome
module _ (n d p c : ℕ) (D : 0 < d) (C : 0 < c) (e : p * d ≡ n * c) (l : p / c < 2 ^ 15) where
  down_one : (s : Bool) → (s && ltb (p / c * c) p) ≡ true → signed_by s (p / c) -ℤ pos 1 ≡ held (floor (signed_by s n) d)
  down_one true t =
      less_one (p / c) ∙ sym (held_negsuc (p / c) (omega arith)) ∙ ap held (sym (below_cut n d p c D C e (ltb→lt (p / c * c) p (subst T (sym t) tt))))
  down_one false t = absurd (true≢false (sym t))

  stays : (s : Bool) → (s && ltb (p / c * c) p) ≡ false → signed_by s (p / c) ≡ held (floor (signed_by s n) d)
  unfolding floor
  stays false t = sym (held_pos (p / c) (omega arith)) ∙ ap (λ (z : ℕ). held (pos z)) (same n d p c D C e)
  stays true t = sym (held_neg (p / c) (omega arith)) ∙ ap held (sym (at_cut n d p c D C e (nltb→le (p / c * c) p (no_test (ltb (p / c * c) p) t))))

module _ (s : Bool) (m : ℕ) (e : ℤ) (f : T (fits binary32 (fin s m e))) (h : m * up e < down e) where
  abbrev y : Float
  y = mul binary32 (fin s m e) scale

  abbrev p : ℕ
  p = m * up e * 2 ^ 15

  value : HasValue y s p (down e)
  value = scaled_value s m e f h

  little : p / down e < 2 ^ 15
  little = (div-lt_iff_lt-mul (down_pos e)).1 (omega arith)

  cut : to_signed 63 y ≡ signed_by s (p / down e)
  cut = cut_value y s p (down e) (down_pos e) value (omega (arith, little))

  test : lt y (of_int binary32 (to_signed 63 y)) ≡ (s && ltb (p / down e * down e) p)
  test = ap (λ (z : ℤ). lt y (of_int binary32 z)) cut ∙ cut_above y s p (down e) (down_pos e) value (omega (arith, little))

  -- the product is one fraction, over down e and over 2 ^ 149
  pub whole : p * 2 ^ 149 ≡ over149 m e * 32768 * down e
  whole =
      mul_right_comm (m * up e) (2 ^ 15) (2 ^ 149) ∙ ap (λ (z : ℕ). z * 2 ^ 15) (sym (over_exact m e (not_finer s m e f)))
      ∙ mul_right_comm (over149 m e) (down e) (2 ^ 15)

  middle_fin : Middle (fin s m e)
  unfolding sample_of
  middle_fin = record {
    above = lt→le (fin true 1 (pos 63)) y (subst T (sym (lt_values (fin true 1 (pos 63)) y true s (2 ^ 63) 1 p (down e) (lit< tt) (down_pos e) (refl, refl) value)) (end_below s (m * up e) (down e) h));
    under = subst T (sym (lt_values y (fin false 1 (pos 63)) s false p (down e) (2 ^ 63) 1 (down_pos e) (lit< tt) value (refl, refl))) (end_above s (m * up e) (down e) h);
    few = subst (λ (z : ℤ). mag z < 2 ^ 15) (sym cut) (mag_signed_by s (p / down e) little);
    few_below = λ t. subst (λ (z : ℤ). mag (z -ℤ pos 1) < 2 ^ 15) (sym cut) (mag_less s (p / down e) (ltb (p / down e * down e) p) little (sym test ∙ t));
    one_below = λ t. ap (λ (z : ℤ). z -ℤ pos 1) cut ∙ (down_one (over149 m e * 32768) (2 ^ 149) p (down e) (lit< tt) (down_pos e) whole little s (sym test ∙ t));
    just = λ t. cut ∙ (stays (over149 m e * 32768) (2 ^ 149) p (down e) (lit< tt) (down_pos e) whole little s (sym test ∙ t));
  }

near : (P c : ℕ) → T (ltb (P * 1) (1 * 1 * c)) → P < c
near P c t = omega (arith, ltb→lt (P * 1) (1 * 1 * c) t)

pub between : (s : Bool) (m : ℕ) (e : ℤ) → T (lt minus_one (fin s m e)) → T (lt (fin s m e) one) → m * up e < down e
unfolding lt
between true m e a b = near (m * up e) (down e) a
between false m e a b = near (m * up e) (down e) b

pub middle : (x : Float) → T (fits binary32 x) → T (lt minus_one x) → T (lt x one) → Middle x
unfolding lt
middle nan f a b = absurd a
middle (inf true) f a b = absurd a
middle (inf false) f a b = absurd b
middle (fin s m e) f a b = middle_fin s m e f (between s m e a b)

-- ---- at the ends
far : (P c : ℕ) → T (not (ltb (P * 1) (1 * 1 * c))) → c ≤ P
far P c t = omega (arith, nltb→le (P * 1) (1 * 1 * c) t)

large_over : (m : ℕ) (e : ℤ) → down e ≤ m * up e → 2 ^ 149 ≤ over149 m e
large_over m e h = (le-div_iff_mul-le (down_pos e)).1 (le_trans (le_of_eq (mul_comm (2 ^ 149) (down e))) (mul-le-mul_right (2 ^ 149) h))

large : (m : ℕ) (e : ℤ) → down e ≤ m * up e → 32768 * 2 ^ 149 ≤ over149 m e * 32768
large m e h = le_trans (le_of_eq (mul_comm 32768 (2 ^ 149))) (mul-le-mul_right 32768 (large_over m e h))

held_top : (n d : ℕ) → 0 < d → 32768 * d ≤ n → held (floor (pos n) d) ≡ pos 32767
unfolding floor
held_top n d D h = let k : 32768 ≤ n / d = (le-div_iff_mul-le D).1 h in let e : min (n / d) 32767 ≡ 32767 = omega arith in ap pos e

held_bottom : (n d : ℕ) → 0 < d → 32768 * d ≤ n → held (floor (neg_ℤ (pos n)) d) ≡ negsuc 32767
unfolding floor
held_bottom zero d D h = absurd (omega arith)
held_bottom (suc n) d D h =
    let g : 32767 * d ≤ n = omega arith in
    let k : 32767 ≤ n / d = (le-div_iff_mul-le D).1 g in
    let e : min (n / d) 32767 ≡ 32767 = omega arith in ap negsuc e

pub at_top : (x : Float) → is_nan x ≡ false → lt x one ≡ false → pos 32767 ≡ sample_of x
unfolding lt is_nan sample_of
at_top nan a b = absurd (true≢false a)
at_top (inf true) a b = absurd (true≢false b)
at_top (inf false) a b = refl
at_top (fin true m e) a b = absurd (T_not (ltb 0 (m * up e * 1 + 1 * 1 * down e)) (no_test _ b) (lt→ltb 0 (m * up e * 1 + 1 * 1 * down e) (omega (arith, down_pos e))))
at_top (fin false m e) a b = sym (held_top (over149 m e * 32768) (2 ^ 149) (lit< tt) (large m e (far (m * up e) (down e) (no_test _ b))))

pub at_bottom : (x : Float) → is_nan x ≡ false → lt minus_one x ≡ false → negsuc 32767 ≡ sample_of x
unfolding lt is_nan sample_of
at_bottom nan a b = absurd (true≢false a)
at_bottom (inf true) a b = refl
at_bottom (inf false) a b = absurd (true≢false b)
at_bottom (fin false m e) a b = absurd (T_not (ltb 0 (1 * 1 * down e + m * up e * 1)) (no_test _ b) (lt→ltb 0 (1 * 1 * down e + m * up e * 1) (omega (arith, down_pos e))))
at_bottom (fin true m e) a b = sym (held_bottom (over149 m e * 32768) (2 ^ 149) (lit< tt) (large m e (far (m * up e) (down e) (no_test _ b))))

-- ---- a sample has 16 bits
held_small : (z : ℤ) → mag (held z) < 2 ^ 15
held_small (pos n) = omega arith
held_small (negsuc n) = omega arith

pub sample_small : (x : Float) → mag (sample_of x) < 2 ^ 15
unfolding sample_of
sample_small nan = lit< tt
sample_small (inf true) = lit< tt
sample_small (inf false) = lit< tt
sample_small (fin s m e) = held_small (floor (signed_by s (over149 m e * 32768)) (2 ^ 149))
