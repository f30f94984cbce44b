-- Known answers, computed: the register's published one, and the packets of 01's containers.
use Prim.Native.Nat.{◌+◌, ◌^◌}
use mathlib.Core.Path.{◌≡◌, refl}
use mathlib.Core.List.{[], ◌∷◌}
use Rattle.transport.specs.Register.{polynomial, bit_step, bits_step, byte_step, run, register_of, four_bytes}
use Rattle.transport.specs.Writing.{head_bytes, front_bytes, transport_bytes}

-- D^26 + D^23 + D^22 + D^16 + D^12 + D^11 + D^10 + D^8 + D^7 + D^5 + D^4 + D^2 + D + 1
pub powers : 2 ^ 26 + 2 ^ 23 + 2 ^ 22 + 2 ^ 16 + 2 ^ 12 + 2 ^ 11 + 2 ^ 10 + 2 ^ 8 + 2 ^ 7 + 2 ^ 5 + 2 ^ 4 + 2 ^ 2 + 2 + 1 ≡ polynomial
powers = refl

-- "123456789"
pub check_value : register_of (49 ∷ 50 ∷ 51 ∷ 52 ∷ 53 ∷ 54 ∷ 55 ∷ 56 ∷ 57 ∷ []) ≡ 0x0376_E6E7
unfolding register_of run byte_step bits_step bit_step
check_value = refl

pub smallest : transport_bytes (0x00 ∷ 0x00 ∷ 0x02 ∷ 0x50 ∷ 0xAE ∷ [])
    ≡ 0x00 ∷ 0x00 ∷ 0x01 ∷ 0xBF ∷ 0x00 ∷ 0x09 ∷ 0x00 ∷ 0x00 ∷ 0x02 ∷ 0x50 ∷ 0xAE ∷ 0xBE ∷ 0x9D ∷ 0xFC ∷ 0x84 ∷ []
unfolding transport_bytes front_bytes head_bytes four_bytes register_of run byte_step bits_step bit_step
smallest = refl
