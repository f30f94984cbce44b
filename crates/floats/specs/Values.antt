-- The sample of a floating-point value (02, A3). A value is a NaN, an infinity or `fin s m e`: m * 2 ^ e, negative where s is true.
use Rattle.std.specs.Prelude.{◌≡◌, ℕ, ◌*◌, ◌/◌, ◌^◌, min, Bool, true, false, ℤ, pos, negsuc, neg_ℤ, Float}
use Rattle.std.specs.Float.{nan, inf, fin}
use Rattle.std.specs.Float.Ieee.{up, down}
use Rattle.std.specs.Float.Ieee.Exact.{HasValue}
use Rattle.sound.specs.Mix.{floor}

-- ±n
abbrev pub signed_by : Bool → ℕ → ℤ
signed_by false n = pos n
signed_by true n = neg_ℤ (pos n)

-- "a finite one is a whole number over 2 to the 149th": the number whose 2 ^ 149th part is m * 2 ^ e, 2 ^ e being the fraction up e / down e.
-- `proofs.Scaled.whole_value`: nothing is lost
abbrev pub over149 : ℕ → ℤ → ℕ
over149 m e = m * up e * 2 ^ 149 / down e

-- "held to -32,768 to 32,767": -(n + 1) is at least -(32,767 + 1)
abbrev pub held : ℤ → ℤ
held (pos n) = pos (min n 32767)
held (negsuc n) = negsuc (min n 32767)

-- "Each value times 32,768 ..; the sample is the floor of that product"; "Infinities are held to the ends". A NaN has none: it is refused, and 0 stands here
unfoldable pub sample_of : Float → ℤ
sample_of nan = pos 0
sample_of (inf false) = pos 32767
sample_of (inf true) = negsuc 32767
sample_of (fin s m e) = held (floor (signed_by s (over149 m e * 32768)) (2 ^ 149))

-- a value that is the whole number z over 32,768: ±size / 32,768
pub record Over32768 (x : Float) (z : ℤ) : Type 0 where
  pub sign : Bool
  pub size : ℕ
  pub value : HasValue x sign size 32768
  pub is : signed_by sign size ≡ z
