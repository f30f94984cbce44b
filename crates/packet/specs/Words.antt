-- Words of ten bits (01, The packet; ST 291-1): "Bits 7-0 carry the byte, bit 8 makes the number of ones in bits 8-0 even, bit 9 is the complement of bit 8".
use Rattle.std.specs.Prelude.{ℕ, zero, suc, ◌+◌, ◌-◌, ◌*◌, ◌/◌, ◌%◌, List, [], ◌∷◌}

-- 1 where the number of ones among the d lowest bits of n is odd, 0 where it is even
unfoldable pub parity : ℕ → ℕ → ℕ
parity zero n = 0
parity (suc d) n = (n % 2 + parity d (n / 2)) % 2

-- bits 8-0 with bit 9, "the complement of bit 8"
unfoldable pub with_bit9 : ℕ → ℕ
with_bit9 n = n + 512 * (1 - n / 256)

-- the word of a byte: bit 8 is 1 where the byte has an odd number of ones
unfoldable pub word_of : ℕ → ℕ
word_of b = with_bit9 (b + 256 * parity 8 b)

-- bits 7-0
unfoldable pub low : ℕ → ℕ
low w = w % 256

-- the sum of bits 8-0
unfoldable pub sum9 : List ℕ → ℕ
sum9 [] = 0
sum9 (w ∷ ws) = w % 512 + sum9 ws

-- "The checksum is the sum of bits 8-0 .., modulo 512, with bit 9 the complement of its bit 8"
unfoldable pub check_word : List ℕ → ℕ
check_word ws = with_bit9 (sum9 ws % 512)

-- "Words are lent as two bytes, low byte first"; a last byte with no second one is no word
unfoldable pub bytes_of : List ℕ → List ℕ
bytes_of [] = []
bytes_of (w ∷ ws) = w % 256 ∷ w / 256 ∷ bytes_of ws

unfoldable pub words_of : List ℕ → List ℕ
words_of [] = []
words_of (a ∷ []) = []
words_of (a ∷ b ∷ s) = (a + 256 * b) ∷ words_of s
