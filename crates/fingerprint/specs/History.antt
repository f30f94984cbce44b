-- What a fingerprint's history says of it: h, its mixed samples since setup or audio restart, the newest first, and taken, how many of its bits
-- have left since then.
use Rattle.std.specs.Prelude.{ℕ, zero, suc, ◌+◌, ◌-◌, ◌*◌, ◌/◌, ◌%◌, ◌^◌, ◌<◌, ◌≤◌, ◌≡◌, List, [], ◌∷◌, ◌++◌, Bool, true, false, cond, eqb, length, get_or, drop}
use Rattle.sound.specs.Filter.{envelope_after, mean_after, bit_of}
use Rattle.fingerprint.specs.declared.Fingerprint.{Fingerprint}

-- the samples up to and including sample i, counted from 0
unfoldable pub up_to : List ℕ → ℕ → List ℕ
up_to h i = drop (length h - suc i) h

-- the bit of sample i
unfoldable pub bit_at : List ℕ → ℕ → ℕ
bit_at h i = bit_of (up_to h i)

-- how many bits the first n samples have kept: "at i = 0, D, 2D and so on", so that bit k is that of sample k times D
unfoldable pub kept_among : ℕ → ℕ → ℕ
kept_among d zero = 0
kept_among d (suc n) = cond (eqb (n % d) 0) (suc (kept_among d n)) (kept_among d n)

-- and all samples of a history
unfoldable pub kept_bits : ℕ → List ℕ → ℕ
kept_bits d h = kept_among d (length h)

-- bit i of those from bit k on
unfoldable pub bits_from : ℕ → List ℕ → ℕ → ℕ → ℕ
bits_from d h k i = bit_at h ((k + i) * d)

-- the number whose bit i is b i, for each i below n: "from bit 0, the lowest"
unfoldable pub from_bits : (ℕ → ℕ) → ℕ → ℕ
from_bits b zero = 0
from_bits b (suc n) = from_bits b n + 2 ^ n * b n

-- n bytes of the bits from bit k on
unfoldable pub bytes_from : ℕ → List ℕ → ℕ → ℕ → List ℕ
bytes_from d h k zero = []
bytes_from d h k (suc n) = bytes_from d h k n ++ (from_bits (bits_from d h (k + 8 * n)) 8 ∷ [])

-- bit k of bytes
unfoldable pub bit_in : List ℕ → ℕ → ℕ
bit_in bytes k = get_or bytes (k / 8) 0 / 2 ^ (k % 8) % 2

-- whether sample 0 has come
unfoldable pub some : List ℕ → Bool
some [] = false
some (a ∷ h) = true

-- The fingerprint is what its history says. The next kept sample is number (taken + held) times D, wait samples on; held bit k is that of
-- sample (taken + k) times D. `proofs.History.holds_once`: one history, one fingerprint
pub record Holds (mix d : ℕ) (h : List ℕ) (taken : ℕ) (f : Fingerprint) : Type 0 where
  pub mix_type : f.mix ≡ mix
  pub envelope : f.envelope ≡ envelope_after h
  pub mean : f.mean ≡ mean_after h
  pub started : f.started ≡ some h
  pub next : (taken + f.held) * d ≡ length h + f.wait
  pub soon : f.wait < d
  pub room : f.held ≤ 256
  pub size : length f.bytes ≡ 32
  pub small : (k : ℕ) → get_or f.bytes k 0 < 256
  pub bits : (k : ℕ) → k < f.held → bit_in f.bytes k ≡ bit_at h ((taken + k) * d)
  pub clean : (k : ℕ) → f.held ≤ k → bit_in f.bytes k ≡ 0
