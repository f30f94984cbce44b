-- The instant in floating point that a record brings: what follows the fingerprint number in tag 16h (FEED's table).
use Rattle.std.specs.Prelude.{ℕ, ◌+◌, ◌*◌, List, cond, length, ltb, eqb, Float, Result, Ok, Err}
use Rattle.std.specs.Float.{binary32}
use Rattle.std.specs.Float.Ieee.{of_bits}
use Rattle.records.specs.Records.{byte_at}
use Rattle.rates.specs.Mixes.{mix_listed}
use Rattle.floats.specs.declared.Instant.{Instant}
use Rattle.floats.specs.declared.Instant.TheVariants as instant
use Rattle.answers.specs.declared.Cause.{Cause}
use Rattle.answers.specs.declared.Cause.TheVariants.{TooShort, TooLong, OtherKind}

-- "the four bytes of an IEEE 754 binary32, low byte first"
unfoldable pub bits_at : List ℕ → ℕ → ℕ
bits_at p at = byte_at p at + 256 * byte_at p (at + 1) + 65536 * byte_at p (at + 2) + 16777216 * byte_at p (at + 3)

-- their value; every NaN's bits are the one `nan`
unfoldable pub float_at : List ℕ → ℕ → Float
float_at p at = of_bits binary32 (bits_at p at)

-- "fingerprint number; kind (1, 2 or 5 ..); then that many values", in the order that 01 gives the channels of a mix type
unfoldable pub instant_at : List ℕ → Instant
instant_at p =
    cond (eqb (byte_at p 1) 1) (instant.Mono (float_at p 2))
    (cond (eqb (byte_at p 1) 2) (instant.Stereo (float_at p 2) (float_at p 6))
    (instant.Five (record { L = float_at p 2; R = float_at p 6; C = float_at p 10; Ls = float_at p 14; Rs = float_at p 18 })))

-- the number, the kind and the values, and "nothing more"
unfoldable pub instant_size : ℕ → ℕ
instant_size kind = 2 + 4 * kind

-- a payload that brings none is bad by its first fault from the left
unfoldable pub instant_in : List ℕ → Result Instant Cause
instant_in p =
    cond (ltb (length p) 2) (Err TooShort)
    (cond (mix_listed (byte_at p 1))
    (cond (ltb (length p) (instant_size (byte_at p 1))) (Err TooShort)
    (cond (ltb (instant_size (byte_at p 1)) (length p)) (Err TooLong)
    (Ok (instant_at p))))
    (Err OtherKind))
