-- The difference of two naturals as a whole number.
use Prim.Native.Nat.{ℕ, zero, suc, ◌+◌, ◌-◌, ◌*◌, ◌<◌, ◌≤◌}
use mathlib.Core.Path.{◌≡◌, refl, sym, ap, ap₂, ◌∙◌}
use native.Mathlib.Omega.{arith}
use native.Mathlib.Decide.{dec_lt}
use lib.IntN.{pos, negsuc, neg_ℤ, sub_ℕ, ◌+ℤ◌, ◌*ℤ◌}
use borrow.Author.Tests.{lt-ltb, le-ltb}

pub by_order {ℓ} : {G : Type ℓ} (a b : ℕ) → (a < b → G) → (b ≤ a → G) → G
by_order a b f g = elim (dec_lt a b) [ yes h ↦ f h | no n ↦ g (omega arith) ]

pub sub_pos : (a b n : ℕ) → a ≡ b + n → sub_ℕ a b ≡ pos n
sub_pos a b n e = simp (le-ltb a b (omega arith)) (ap pos (omega arith))

pub sub_neg : (a b n : ℕ) → b ≡ suc (a + n) → sub_ℕ a b ≡ negsuc n
sub_neg a b n e = simp (lt-ltb a b (omega arith)) (ap negsuc (omega arith))

-- one difference, stated two ways
pub sub_eq : (a b c d : ℕ) → a + d ≡ c + b → sub_ℕ a b ≡ sub_ℕ c d
sub_eq a b c d e =
    by_order a b
    (λ h. sub_neg a b (b - suc a) (omega arith) ∙ sym (sub_neg c d (b - suc a) (omega arith)))
    (λ h. sub_pos a b (a - b) (omega arith) ∙ sym (sub_pos c d (a - b) (omega arith)))

pub sub_add : (a b c d : ℕ) → sub_ℕ a b +ℤ sub_ℕ c d ≡ sub_ℕ (a + c) (b + d)
sub_add a b c d =
    by_order a b
    (λ h.
    let e = sub_neg a b (b - suc a) (omega arith) in
    by_order c d
    (λ k. ap₂ ◌+ℤ◌ e (sub_neg c d (d - suc c) (omega arith)) ∙ sym (sub_neg (a + c) (b + d) (suc (b - suc a + (d - suc c))) (omega arith)))
    (λ k. ap₂ ◌+ℤ◌ e (sub_pos c d (c - d) (omega arith)) ∙ sub_eq (c - d) (suc (b - suc a)) (a + c) (b + d) (omega arith)))
    (λ h.
    let e = sub_pos a b (a - b) (omega arith) in
    by_order c d
    (λ k. ap₂ ◌+ℤ◌ e (sub_neg c d (d - suc c) (omega arith)) ∙ sub_eq (a - b) (suc (d - suc c)) (a + c) (b + d) (omega arith))
    (λ k. ap₂ ◌+ℤ◌ e (sub_pos c d (c - d) (omega arith)) ∙ sym (sub_pos (a + c) (b + d) (a - b + (c - d)) (omega arith))))

pub negated : (m : ℕ) → neg_ℤ (pos m) ≡ sub_ℕ 0 m
negated zero = sym (sub_pos 0 0 0 refl)
negated (suc m) = sym (sub_neg 0 (suc m) m (omega arith))

pub sub_mul : (k a b : ℕ) → pos k *ℤ sub_ℕ a b ≡ sub_ℕ (k * a) (k * b)
sub_mul k a b =
    by_order a b
    (λ h.
    let n : ℕ = b - suc a in
    let e : b ≡ suc (a + n) = omega arith in
    ap (◌*ℤ◌ (pos k)) (sub_neg a b n e) ∙ (negated (k * suc n) ∙ sub_eq 0 (k * suc n) (k * a) (k * b) (omega (arith, ap (◌*◌ k) e))))
    (λ h.
    let n : ℕ = a - b in
    let e : a ≡ b + n = omega arith in
    ap (◌*ℤ◌ (pos k)) (sub_pos a b n e) ∙ sym (sub_pos (k * a) (k * b) (k * n) (omega (arith, ap (◌*◌ k) e))))
