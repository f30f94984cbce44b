-- How numbers and bytes are spelled, in ASCII.
use Rattle.std.specs.Prelude.{ℕ, zero, suc, ◌+◌, ◌/◌, ◌%◌, List, [], ◌∷◌, ◌++◌, cond, ltb}

abbrev pub digit_of : ℕ → List ℕ
digit_of d = (48 + d) ∷ []

-- a number in at most so many digits, with no zero in front
unfoldable pub digits_of : ℕ → ℕ → List ℕ
digits_of zero n = []
digits_of (suc most) n = cond (ltb n 10) (digit_of n) (digits_of most (n / 10) ++ digit_of (n % 10))

-- a 64-bit number, which has at most 20
unfoldable pub decimal_text : ℕ → List ℕ
decimal_text n = digits_of 20 n

-- 0 to 9, then a to f
unfoldable pub glyph_of : ℕ → ℕ
glyph_of d = cond (ltb d 10) (48 + d) (87 + d)

-- two digits a byte
unfoldable pub hex_of : ℕ → List ℕ
hex_of b = glyph_of (b / 16) ∷ glyph_of (b % 16) ∷ []

unfoldable pub hex_text : List ℕ → List ℕ
hex_text [] = []
hex_text (b ∷ bs) = hex_of b ++ hex_text bs
