-- An instant in floating point whose values are whole numbers over 32,768, and the block of bytes that is the same sound.
use Rattle.std.specs.Prelude.{ℕ, ◌/◌, ◌%◌, ◌<◌, List, [], ◌∷◌, Float}
use Rattle.sound.specs.Mix.{signed}
use Rattle.floats.specs.Values.{Over32768}

-- each value is a sample, given by its 16 bits, over 32,768: a whole number from -32,768 to 32,767
pub data AllOver : List Float → List ℕ → Type 0 where
  none : AllOver [] []
  more : {x : Float} {xs : List Float} {w : ℕ} {ws : List ℕ} → w < 65536 → Over32768 x (signed w) → AllOver xs ws → AllOver (x ∷ xs) (w ∷ ws)

-- the bytes of these samples: "signed 16-bit, low byte first, interleaved"
unfoldable pub block_of : List ℕ → List ℕ
block_of [] = []
block_of (w ∷ ws) = w % 256 ∷ w / 256 ∷ block_of ws
