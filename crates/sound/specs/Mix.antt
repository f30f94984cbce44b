-- The mix of one instant, over the whole numbers, and a(i), its pseudo-absolute value (01, Audio; 000, 5.3.1 and 5.3.2; 02, A9).
use Rattle.std.specs.Prelude.{ℕ, zero, suc, ◌+◌, ◌*◌, ◌/◌, List, [], ◌∷◌, cond, ℤ, pos, negsuc, neg_ℤ, ◌+ℤ◌, ◌-ℤ◌, ◌*ℤ◌, ltb, eqb, length, get_or}

-- 16 bits as a signed number
unfoldable pub signed : ℕ → ℤ
signed w = cond (ltb w 32768) (pos w) (pos w -ℤ pos 65536)

-- "Samples are signed 16-bit, low byte first": the one at a place of a block. Bytes beyond the block read as 0
unfoldable pub signed_at : List ℕ → ℕ → ℤ
signed_at block at = signed (get_or block at 0 + 256 * get_or block (at + 1) 0)

-- "interleaved": the n samples of the instant whose bytes start at a place of a block
unfoldable pub instant_samples : List ℕ → ℕ → ℕ → List ℤ
instant_samples block at zero = []
instant_samples block at (suc n) = signed_at block at ∷ instant_samples block (at + 2) n

-- "Mix type 1 is mono; type 2 is L, R; type 5 is L, R, C, Ls, Rs": the weight of each channel; no other type is listed
unfoldable pub weights : ℕ → List ℕ
weights mix =
    cond (eqb mix 1) (1 ∷ [])
    (cond (eqb mix 2) (7071 ∷ 7071 ∷ [])
    (cond (eqb mix 5) (7071 ∷ 7071 ∷ 10000 ∷ 5000 ∷ 5000 ∷ []) []))

-- and what their sum is divided by
unfoldable pub divisor : ℕ → ℕ
divisor mix = cond (eqb mix 1) 1 (cond (eqb mix 2) 20000 (cond (eqb mix 5) 40000 1))

-- each sample times its channel's weight, summed
unfoldable pub weighted : List ℕ → List ℤ → ℤ
weighted [] xs = pos 0
weighted (w ∷ ws) [] = pos 0
weighted (w ∷ ws) (x ∷ xs) = pos w *ℤ x +ℤ weighted ws xs

-- z / d, "rounded down towards minus infinity": -(n + 1) gives -(n / d + 1). `proofs.Meaning.floor_is` says what it is
unfoldable pub floor : ℤ → ℕ → ℤ
floor (pos n) d = pos (n / d)
floor (negsuc n) d = negsuc (n / d)

-- z / d, "rounded towards zero" (02, A9): -(n + 1) gives -((n + 1) / d). `proofs.Meaning.towards_zero_is` says what it is
unfoldable pub towards_zero : ℤ → ℕ → ℤ
towards_zero (pos n) d = pos (n / d)
towards_zero (negsuc n) d = neg_ℤ (pos (suc n / d))

-- z / d by a rule: "Setup takes rule 1 or 2" (02, A9), of which 01's is 1
unfoldable pub quotient : ℕ → ℤ → ℕ → ℤ
quotient rule z d = cond (eqb rule 2) (towards_zero z d) (floor z d)

-- the mix of an instant's samples, in the order of their channels, by a rule
unfoldable pub mixed : ℕ → ℕ → List ℤ → ℤ
mixed rule mix samples = quotient rule (weighted (weights mix) samples) (divisor mix)

-- "A negative mix m then becomes -m-1": m = -(n + 1) gives n
unfoldable pub pseudo_absolute : ℤ → ℕ
pseudo_absolute (pos n) = n
pseudo_absolute (negsuc n) = n

-- the bytes of one instant: 2, 4 or 10
unfoldable pub instant_bytes : ℕ → ℕ
instant_bytes mix = 2 * length (weights mix)

-- a(i), of the instant whose bytes start at a place of a block
unfoldable pub instant_value : ℕ → ℕ → List ℕ → ℕ → ℕ
instant_value rule mix block at = pseudo_absolute (mixed rule mix (instant_samples block at (length (weights mix))))
