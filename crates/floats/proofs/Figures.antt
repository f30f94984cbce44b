-- Document 02's figures for a floating-point value, and those at its edges, by the 32 bits of each value: one table.
use Rattle.std.proofs.Common.{◌≡◌, ℕ, true, pos, negsuc, refl}
use lib.Count.{count_trailing_zeros}
use lib.Ieee.{Float, binary32, odd, of_fields, of_bits, is_nan}
use Rattle.sound.specs.Mix.{weights, divisor, weighted, floor, towards_zero, quotient, mixed, pseudo_absolute}
use Rattle.floats.specs.declared.Instant.{Instant}
use Rattle.floats.specs.declared.Instant.TheVariants as instant
use Rattle.floats.specs.Values.{sample_of}
use Rattle.floats.specs.Instants.{has_nan, float_value}

abbrev value : ℕ → Float
value bits = of_bits binary32 bits

-- 0.5 in one channel of 5.1, and 0 in the others
abbrev five_of : ℕ → ℕ → ℕ → ℕ → ℕ → Instant
five_of l r c ls rs = instant.Five (record { L = value l; R = value r; C = value c; Ls = value ls; Rs = value rs })

pub record Figures : Type 0 where
  -- "1.0 gives 32,767 and -1.0 gives -32,768"; their neighbours towards 0
  pub one : (sample_of (value 0x3F800000) ≡ pos 32767) × (sample_of (value 0x3F7FFFFF) ≡ pos 32767)
  pub minus_one : (sample_of (value 0xBF800000) ≡ negsuc 32767) × (sample_of (value 0xBF7FFFFF) ≡ negsuc 32767)
  -- "Infinities are held to the ends", as the largest finite values are
  pub infinities : (sample_of (value 0x7F800000) ≡ pos 32767) × (sample_of (value 0xFF800000) ≡ negsuc 32767)
  pub largest : (sample_of (value 0x7F7FFFFF) ≡ pos 32767) × (sample_of (value 0xFF7FFFFF) ≡ negsuc 32767)
  -- "negative zero is zero"; the least subnormals
  pub zeros : (sample_of (value 0x00000000) ≡ pos 0) × (sample_of (value 0x80000000) ≡ pos 0)
  pub least : (sample_of (value 0x00000001) ≡ pos 0) × (sample_of (value 0x80000001) ≡ negsuc 0)
  -- 1 / 32,768 and its neighbour below; -0.5 / 32,768; -1 / 32,768 and its neighbour below
  pub step : (sample_of (value 0x38000000) ≡ pos 1) × (sample_of (value 0x37FFFFFF) ≡ pos 0)
  pub half : sample_of (value 0xB7800000) ≡ negsuc 0
  pub step_down : (sample_of (value 0xB8000000) ≡ negsuc 0) × (sample_of (value 0xB8000001) ≡ negsuc 1)
  -- NaNs: a quiet one, a signalling one, one with its sign set
  pub nans : (is_nan (value 0x7FC00000) ≡ true) × (is_nan (value 0x7F800001) ≡ true) × (is_nan (value 0xFFFFFFFF) ≡ true)
  -- "The mix follows on the integers": both -1.0 mix to -23,171, by rule 2 to -23,170
  pub stereo : (float_value 1 (instant.Stereo (value 0xBF800000) (value 0xBF800000)) ≡ 23170) × (float_value 2 (instant.Stereo (value 0xBF800000) (value 0xBF800000)) ≡ 23169)
  -- both -1.5 / 32,768: the samples are -2 by either rule, which mix to -2, by rule 2 to -1
  pub floored : (float_value 1 (instant.Stereo (value 0xB8400000) (value 0xB8400000)) ≡ 1) × (float_value 2 (instant.Stereo (value 0xB8400000) (value 0xB8400000)) ≡ 0)
  -- 0.5 in L or R, in C, in Ls or Rs
  pub front : (float_value 1 (five_of 0x3F000000 0 0 0 0) ≡ 2896) × (float_value 1 (five_of 0 0x3F000000 0 0 0) ≡ 2896)
  pub centre : float_value 1 (five_of 0 0 0x3F000000 0 0) ≡ 4096
  pub rear : (float_value 1 (five_of 0 0 0 0x3F000000 0) ≡ 2048) × (float_value 1 (five_of 0 0 0 0 0x3F000000) ≡ 2048)
  -- a NaN in the last place
  pub last_nan : has_nan (five_of 0 0 0 0 0x7FC00000) ≡ true

pub figures : Figures
unfolding of_bits of_fields odd count_trailing_zeros is_nan sample_of floor towards_zero quotient float_value mixed weights divisor weighted pseudo_absolute has_nan
figures = record {
  one = (refl, refl);
  minus_one = (refl, refl);
  infinities = (refl, refl);
  largest = (refl, refl);
  zeros = (refl, refl);
  least = (refl, refl);
  step = (refl, refl);
  half = refl;
  step_down = (refl, refl);
  nans = (refl, refl, refl);
  stereo = (refl, refl);
  floored = (refl, refl);
  front = (refl, refl);
  centre = refl;
  rear = (refl, refl);
  last_nan = refl;
}
