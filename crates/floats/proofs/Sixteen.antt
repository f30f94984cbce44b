-- A sample's 16 bits: a negative one stands 65,536 too high.
use Rattle.std.proofs.Common.{◌≡◌, suc, ◌-◌, ◌^◌, ◌<◌, ℤ, pos, negsuc, arith, w16, of_z}
use lib.Signed.{mag}
use Rattle.sound.specs.Mix.{signed}
use Rattle.sound.proofs.Rounding.{signed_low, signed_high}

pub bits_signed : (z : ℤ) → mag z < 2 ^ 15 → signed (of_z w16 z) ≡ z
bits_signed (pos n) h = signed_low n h
bits_signed (negsuc n) h = signed_high (65536 - suc n) n (omega arith) h
