-- Two samples in the halves of one number: the mask over both, and what a sum of such pairs is.
use Prim.Native.Nat.{ℕ, ◌+◌, ◌-◌, ◌*◌, ◌/◌, ◌%◌, ◌<◌}
use mathlib.Core.Path.{◌≡◌, ap, ap₂, ◌∙◌}
use native.Mathlib.Omega.{arith}
use lib.Bits.{bit_and, and_block, and_mask}

-- the bits 9 to 2 of each half, once the whole is moved down by two: the upper half's lowest bits fall where the mask has none
pub masked : (a b : ℕ) → a < 65536 → b < 65536 → bit_and ((a + 65536 * b) / 4) 0x00ff_00ff ≡ a / 4 % 256 + 65536 * (b / 4 % 256)
masked a b g h =
    let x = (a + 65536 * b) / 4 in
    let l : x % 65536 < 65536 = omega arith in
    let e : x ≡ b / 4 * 65536 + x % 65536 = omega arith in
    let low : x % 65536 % 256 ≡ a / 4 % 256 = omega arith in
    ap (λ (n : ℕ). bit_and n 0x00ff_00ff) e
    ∙ (and_block 16 (b / 4) 255 (x % 65536) 255 l (omega arith)
    ∙ (ap₂ (λ (m n : ℕ). m * 65536 + n) (and_mask (b / 4) 8) (and_mask (x % 65536) 8 ∙ low)
    ∙ omega arith))

-- one pair more, while neither half overflows into the other
pub pair_more : (p a b : ℕ) → p % 65536 < 65280 → a < 256 → ((p + (a + 65536 * b)) % 65536 ≡ p % 65536 + a) × ((p + (a + 65536 * b)) / 65536 ≡ p / 65536 + b)
pair_more p a b l h = (omega arith, omega arith)

-- a pair of which the lower half is taken off again
pub last_more : (p l a b : ℕ) → l ≡ a + 65536 * b → a < 256 → (p + l - l % 65536) % 65536 + (p + l - l % 65536) / 65536 ≡ p % 65536 + p / 65536 + b
last_more p l a b e h =
    let m : l % 65536 ≡ a = omega arith in
    let q : p + l - l % 65536 ≡ p + 65536 * b = omega arith in
    rw q (omega arith)
