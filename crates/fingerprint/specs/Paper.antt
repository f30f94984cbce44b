-- Document 01's answers and demand 3, after the samples h, of whose bits taken have left: no store of bits, no wait, no filter that is kept.
use Rattle.std.specs.Prelude.{ℕ, suc, ◌+◌, ◌-◌, ◌*◌, ◌<◌, ◌≡◌, List, ◌++◌, Bool, cond, ◌&&◌, ltb, leb, length, replicate}
use Rattle.sound.specs.Exact.{exact_envelope, exact_mean, MoreAbove, AtLeastAbove}
use Rattle.floats.specs.declared.Instant.{Instant}
use Rattle.floats.specs.Instants.{refused_by}
use Rattle.fingerprint.specs.State.{whole_instants, instants}
use Rattle.fingerprint.specs.History.{up_to, kept_among, kept_bits, bytes_from, bit_in}

-- "8 length no multiple of one instant; 9 held plus new bits above 256": the bits kept with the block's samples are those that have left, and above 256 more.
-- Only how many samples there are counts, so no rule is asked for
unfoldable pub sound_answer : ℕ → ℕ → List ℕ → ℕ → List ℕ → ℕ
sound_answer mix d h taken block =
    cond (whole_instants mix (length block)) (cond (ltb (256 + taken) (kept_among d (instants mix (length block) + length h))) 9 0) 8

-- "14 for an instant with a NaN, or whose kind differs from the fingerprint's mix type, after 7 and before 9"; its one sample is counted as a block's
unfoldable pub instant_answer : ℕ → ℕ → List ℕ → ℕ → Instant → ℕ
instant_answer mix d h taken i = cond (refused_by mix i) 14 (cond (ltb (256 + taken) (kept_among d (suc (length h)))) 9 0)

-- n whole bytes are held
unfoldable pub held_answer : ℕ → List ℕ → ℕ → ℕ → Bool
held_answer d h taken n = leb (taken + 8 * n) (kept_bits d h)

-- at most 5 are taken, and only those that are held: the next bits in their order, then zeros
unfoldable pub leave_answer : ℕ → List ℕ → ℕ → ℕ → Bool
leave_answer d h taken n = leb n 5 && held_answer d h taken n

unfoldable pub bytes_answer : ℕ → List ℕ → ℕ → ℕ → List ℕ
bytes_answer d h taken n = cond (leave_answer d h taken n) (bytes_from d h taken n ++ replicate (5 - n) 0) (replicate 5 0)

-- ---- demand 3

-- a bit of sample i is right wherever the exact values up to and including that sample are far enough apart
pub record Right (h : List ℕ) (i b : ℕ) : Type 0 where
  pub one : MoreAbove 8191 (exact_envelope (up_to h i)) (exact_mean (up_to h i)) → b ≡ 1
  pub zero : AtLeastAbove 1023 (exact_mean (up_to h i)) (exact_envelope (up_to h i)) → b ≡ 0

-- each bit of n bytes: the k-th is of sample k times D, k counted since setup or audio restart, and that sample has been heard
abbrev pub AllRight : ℕ → List ℕ → ℕ → List ℕ → ℕ → Type 0
AllRight d h t bytes n = (j : ℕ) → j < 8 * n → ((t + j) * d < length h) × Right h ((t + j) * d) (bit_in bytes j)
