-- The register of CRC_32 (02, A5; Annex A of ISO/IEC 13818-1, as docs/READINGS.md takes it): 32 bits, all ones at the start, each byte's highest bit first.
use Rattle.std.specs.Prelude.{ℕ, zero, suc, ◌*◌, ◌/◌, ◌%◌, ◌^◌, List, [], ◌∷◌}
use Rattle.std.specs.Int.Bits.{bit_xor}

-- bit k of a number, the lowest being bit 0
abbrev pub bit : ℕ → ℕ → ℕ
bit k n = n / 2 ^ k % 2

-- the polynomial below its highest power, bit k standing for D to the k-th
abbrev pub polynomial : ℕ
polynomial = 0x04C1_1DB7

-- one bit goes in: all bits move up by one, and where the bit that leaves at the top is unlike the one that comes, the polynomial is added
unfoldable pub bit_step : ℕ → ℕ → ℕ
bit_step reg b = bit_xor (reg * 2 % 2 ^ 32) (bit_xor (bit 31 reg) b * polynomial)

-- the n lowest bits of a byte go in, the highest of them first
unfoldable pub bits_step : ℕ → ℕ → ℕ → ℕ
bits_step zero reg byte = reg
bits_step (suc n) reg byte = bits_step n (bit_step reg (bit n byte)) byte

unfoldable pub byte_step : ℕ → ℕ → ℕ
byte_step reg byte = bits_step 8 reg byte

unfoldable pub run : ℕ → List ℕ → ℕ
run reg [] = reg
run reg (byte ∷ bytes) = run (byte_step reg byte) bytes

-- what the bytes leave in the register
unfoldable pub register_of : List ℕ → ℕ
register_of bytes = run 0xFFFF_FFFF bytes

-- the register's four bytes, the highest first
unfoldable pub four_bytes : ℕ → List ℕ
four_bytes reg = reg / 2 ^ 24 ∷ reg / 2 ^ 16 % 256 ∷ reg / 2 ^ 8 % 256 ∷ reg % 256 ∷ []
