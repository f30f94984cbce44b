-- The language's count of ones, taken modulo 2, is the parity by the bits; and the word of a byte is what 01 says of it, and nothing else is.
use Prim.Native.Nat.{ℕ, zero, suc, ◌+◌, ◌-◌, ◌*◌, ◌/◌, ◌%◌, ◌^◌, ◌≤◌, ◌<◌}
use mathlib.Core.Path.{◌≡◌, sym, ap, ◌∙◌}
use native.Mathlib.Omega.{arith}
use native.Mathlib.Nat.{pow-suc, mul_assoc}
use lib.Arith.{lt-one}
use lib.Count.{ones, ones_step}
use Rattle.packet.specs.Words.{parity, with_bit9, word_of, low}

-- half of a number of d + 1 bits has d bits
half : (d n : ℕ) → n < 2 ^ suc d → n / 2 < 2 ^ d
half d n h = let e : 2 ^ suc d ≡ 2 ^ d * 2 = pow-suc 2 d in omega arith

pub ones_parity : (d n : ℕ) → n < 2 ^ d → ones n % 2 ≡ parity d n
unfolding parity ones
ones_parity zero n h = ap (λ (x : ℕ). ones x % 2) (lt-one h)
ones_parity (suc d) n h =
    let e : ones n ≡ n % 2 + ones (n / 2) = ones_step n in
    let ih : ones (n / 2) % 2 ≡ parity d (n / 2) = ones_parity d (n / 2) (half d n h) in
    omega arith

pub parity_bit : (d n : ℕ) → parity d n ≤ 1
unfolding parity
parity_bit zero n = omega arith
parity_bit (suc d) n = omega arith

-- a bit more, above n's d bits
parity_top : (d n bit : ℕ) → n < 2 ^ d → bit ≤ 1 → parity (suc d) (n + bit * 2 ^ d) ≡ (parity d n + bit) % 2
unfolding parity
parity_top zero n bit h k = let z : n ≡ 0 = lt-one h in omega arith
parity_top (suc d) n bit h k =
    let e : 2 ^ suc d ≡ 2 ^ d * 2 = pow-suc 2 d in
    let z : bit * (2 ^ d * 2) ≡ bit * 2 ^ d * 2 = sym (mul_assoc bit (2 ^ d) 2) in
    let lowest : (n + bit * 2 ^ suc d) % 2 ≡ n % 2 = rw e (omega arith) in
    let others : (n + bit * 2 ^ suc d) / 2 ≡ n / 2 + bit * 2 ^ d = rw e (omega arith) in
    let ih : parity (suc d) (n / 2 + bit * 2 ^ d) ≡ (parity d (n / 2) + bit) % 2 = parity_top d (n / 2) bit (half d n h) k in
    rw (lowest, others) (omega arith)

-- "Bits 7-0 carry the byte, bit 8 makes the number of ones in bits 8-0 even, bit 9 is the complement of bit 8", of a word of ten bits
pub record Carries (b w : ℕ) : Type 0 where
  pub ten : w < 1024
  pub byte : w % 256 ≡ b
  pub even : parity 9 (w % 512) ≡ 0
  pub complement : w / 512 + w / 256 % 2 ≡ 1

pub word_carries : (b : ℕ) → b < 256 → Carries b (word_of b)
unfolding word_of with_bit9
word_carries b h =
    let p : parity 8 b ≤ 1 = parity_bit 8 b in
    let nine : word_of b % 512 ≡ b + parity 8 b * 256 = omega arith in
    let t : parity 9 (b + parity 8 b * 256) ≡ (parity 8 b + parity 8 b) % 2 = parity_top 8 b (parity 8 b) h p in
    record { ten = omega arith; byte = omega arith; even = ap (parity 9) nine ∙ t ∙ omega arith; complement = omega arith }

whole : (b w : ℕ) → w < 1024 → w % 256 ≡ b → w / 512 + w / 256 % 2 ≡ 1
    → w ≡ b + 256 * (w / 256 % 2) + 512 * (1 - (b + 256 * (w / 256 % 2)) / 256)
whole b w h e k = omega arith

same_bit : (p q : ℕ) → p ≤ 1 → q ≤ 1 → (p + q) % 2 ≡ 0 → q ≡ p
same_bit p q h k e = omega arith

pub carries_only : (b w : ℕ) → Carries b w → w ≡ word_of b
unfolding word_of with_bit9
carries_only b w r =
    let p : parity 8 b ≤ 1 = parity_bit 8 b in
    let t : parity 9 (b + w / 256 % 2 * 256) ≡ (parity 8 b + w / 256 % 2) % 2 = parity_top 8 b (w / 256 % 2) (omega (arith, r.byte)) (omega arith) in
    let nine : b + w / 256 % 2 * 256 ≡ w % 512 = omega (arith, r.byte) in
    let bit : w / 256 % 2 ≡ parity 8 b = same_bit (parity 8 b) (w / 256 % 2) p (omega arith) (sym t ∙ ap (parity 9) nine ∙ r.even) in
    rw (← bit) (whole b w r.ten r.byte r.complement)

pub word_low : (b : ℕ) → b < 256 → low (word_of b) ≡ b
unfolding low
word_low b h = (word_carries b h).byte
