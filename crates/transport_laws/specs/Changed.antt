-- Which number a transport packet is refused with of which one byte was changed, by the place of the byte: that of the field that it stands in.
use Rattle.std.specs.Prelude.{ℕ, cond, ltb}

-- the start code has places 0 to 3, the length 4 and 5; what stands after them is held by CRC_32 alone
unfoldable pub number_at : ℕ → ℕ
number_at place = cond (ltb place 4) 41 (cond (ltb place 6) 42 43)
