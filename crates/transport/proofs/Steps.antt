-- The steps of the register are additive, keep to 32 bits, and lose nothing.
use Prim.Native.Nat.{ℕ, zero, suc, ◌*◌, ◌/◌, ◌%◌, ◌^◌, ◌<◌}
use mathlib.Core.Path.{◌≡◌, refl, sym, ap, ap₂, ◌∙◌}
use native.Mathlib.Nat.{mod-lt, zero-div, pow-suc, mul-one, mul_assoc, mul_comm, mul-le-mul_left, mod-eq_of_lt}
use native.Mathlib.Omega.{arith}
use lib.Pow.{pow_pos, shr_mod}
use lib.Bits.{bit_xor, xor_shr, xor_mod, xor_lt, xor_zero_r}
use Rattle.transport.specs.Register.{bit, polynomial, bit_step, bits_step}
use Rattle.transport.proofs.Xor.{of_bit, odd, xor_cross, xor_eq, xor_up}

-- ---- a sum of registers by a sum of bytes gives the sum

bit_add : (k a b : ℕ) → bit k (bit_xor a b) ≡ bit_xor (bit k a) (bit k b)
bit_add k a b = ap (λ (x : ℕ). x % 2) (xor_shr a b k) ∙ odd (a / 2 ^ k) (b / 2 ^ k)

bit_lt : (k n : ℕ) → bit k n < 2
bit_lt k n = mod-lt (n / 2 ^ k) (pow_pos 1)

moved_add : (a b : ℕ) → bit_xor a b * 2 % 2 ^ 32 ≡ bit_xor (a * 2 % 2 ^ 32) (b * 2 % 2 ^ 32)
moved_add a b = ap (λ (x : ℕ). x % 2 ^ 32) (sym (xor_up 1 a b)) ∙ xor_mod (a * 2) (b * 2) 32

polynomial_add : (u v : ℕ) → u < 2 → v < 2 → bit_xor u v * polynomial ≡ bit_xor (u * polynomial) (v * polynomial)
polynomial_add u v h l =
    of_bit (λ u. bit_xor u v * polynomial ≡ bit_xor (u * polynomial) (v * polynomial))
    refl
    (of_bit (λ v. bit_xor 1 v * polynomial ≡ bit_xor polynomial (v * polynomial)) refl refl v l)
    u h

bit_step_add : (r s b c k : ℕ) → bit_step (bit_xor r s) (bit k (bit_xor b c)) ≡ bit_xor (bit_step r (bit k b)) (bit_step s (bit k c))
unfolding bit_step
bit_step_add r s b c k =
    ap₂ bit_xor (moved_add r s)
    (ap (λ (x : ℕ). x * polynomial) (ap₂ bit_xor (bit_add 31 r s) (bit_add k b c) ∙ xor_cross (bit 31 r) (bit 31 s) (bit k b) (bit k c))
    ∙ polynomial_add (bit_xor (bit 31 r) (bit k b)) (bit_xor (bit 31 s) (bit k c))
    (xor_lt 1 _ _ (bit_lt 31 r) (bit_lt k b)) (xor_lt 1 _ _ (bit_lt 31 s) (bit_lt k c)))
    ∙ xor_cross (r * 2 % 2 ^ 32) (s * 2 % 2 ^ 32) (bit_xor (bit 31 r) (bit k b) * polynomial) (bit_xor (bit 31 s) (bit k c) * polynomial)

pub bits_add : (n r s b c : ℕ) → bits_step n (bit_xor r s) (bit_xor b c) ≡ bit_xor (bits_step n r b) (bits_step n s c)
unfolding bits_step
bits_add zero r s b c = refl
bits_add (suc n) r s b c =
    ap (λ (x : ℕ). bits_step n x (bit_xor b c)) (bit_step_add r s b c n) ∙ bits_add n (bit_step r (bit n b)) (bit_step s (bit n c)) b c

-- ---- 32 bits

bit_step_lt : (r k b : ℕ) → bit_step r (bit k b) < 2 ^ 32
unfolding bit_step
bit_step_lt r k b =
    let u : bit_xor (bit 31 r) (bit k b) < 2 = xor_lt 1 _ _ (bit_lt 31 r) (bit_lt k b) in
    xor_lt 32 _ _ (mod-lt (r * 2) (pow_pos 32)) (omega arith)

pub bits_lt : (n r b : ℕ) → r < 2 ^ 32 → bits_step n r b < 2 ^ 32
unfolding bits_step
bits_lt zero r b h = h
bits_lt (suc n) r b h = bits_lt n (bit_step r (bit n b)) b (bit_step_lt r n b)

-- ---- zeros that come in

bit_zero : (k : ℕ) → bit k 0 ≡ 0
bit_zero k = rw (zero-div (2 ^ k))

-- while nothing leaves at the top, the register only moves up
low_step : (r : ℕ) → r < 2 ^ 31 → bit_step r 0 ≡ r * 2
unfolding bit_step
low_step r h =
    let t : bit 31 r ≡ 0 = omega arith in
    ap (λ (x : ℕ). bit_xor (r * 2 % 2 ^ 32) (bit_xor x 0 * polynomial)) t ∙ xor_zero_r (r * 2 % 2 ^ 32) ∙ omega arith

pub low_bits : (n r : ℕ) → r * 2 ^ n < 2 ^ 32 → bits_step n r 0 ≡ r * 2 ^ n
unfolding bits_step
low_bits zero r h = sym (mul-one r)
low_bits (suc n) r h =
    let e : r * 2 ^ suc n ≡ r * 2 * 2 ^ n = ap (λ (x : ℕ). r * x) (pow-suc 2 n ∙ mul_comm (2 ^ n) 2) ∙ sym (mul_assoc r 2 (2 ^ n)) in
    ap (λ (x : ℕ). bits_step n x 0)
    (ap (bit_step r) (bit_zero n) ∙ low_step r (omega (arith, e, h, mul-le-mul_left (r * 2) (pow_pos n))))
    ∙ low_bits n (r * 2) (omega (arith, e, h)) ∙ sym e

-- a register that ends at zero was zero: the polynomial is odd, so it was not added
none_left : (r t : ℕ) → t < 2 → r < 2 ^ 32 → bit 31 r ≡ t → r * 2 % 2 ^ 32 ≡ t * polynomial → r ≡ 0
none_left r zero h l e d = let q : r / 2 ^ 31 ≡ 0 = sym (shr_mod 1 31 l) ∙ e in let w : r * 2 % 2 ^ 32 ≡ r * 2 = mod-eq_of_lt (omega arith) in omega arith
none_left r (suc zero) h l e d = omega arith
none_left r (suc (suc t)) h l e d = omega arith

zero_step : (r : ℕ) → r < 2 ^ 32 → bit_step r 0 ≡ 0 → r ≡ 0
unfolding bit_step
zero_step r h e =
    none_left r (bit 31 r) (bit_lt 31 r) h refl
    (xor_eq (r * 2 % 2 ^ 32) (bit_xor (bit 31 r) 0 * polynomial) e ∙ ap (λ (x : ℕ). x * polynomial) (xor_zero_r (bit 31 r)))

pub zero_bits : (n r : ℕ) → r < 2 ^ 32 → bits_step n r 0 ≡ 0 → r ≡ 0
unfolding bits_step
zero_bits zero r h e = e
zero_bits (suc n) r h e =
    zero_step r h (ap (bit_step r) (sym (bit_zero n)) ∙ zero_bits n (bit_step r (bit n 0)) (bit_step_lt r n 0) e)
