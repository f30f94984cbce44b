-- Laws of lists of bytes.
use Prim.Native.Nat.{ℕ, zero, suc, ◌<◌, ◌+◌}
use mathlib.Core.List.{List, [], ◌∷◌, ◌++◌}
use native.Mathlib.Omega.{arith}
use lib.ListN.{take, drop, replicate}
use lib.Seq.{get_or-drop}
use Rattle.laws.specs.Bytes.{Bytes}

pub bytes_nil : Bytes []
bytes_nil k = omega arith

pub bytes_cons : (x : ℕ) (s : List ℕ) → x < 256 → Bytes s → Bytes (x ∷ s)
bytes_cons x s h b zero = h
bytes_cons x s h b (suc k) = b k

pub bytes_replicate : (n x : ℕ) → x < 256 → Bytes (replicate n x)
bytes_replicate zero x h = bytes_nil
bytes_replicate (suc n) x h = bytes_cons x (replicate n x) h (bytes_replicate n x h)

pub bytes_append : (s t : List ℕ) → Bytes s → Bytes t → Bytes (s ++ t)
bytes_append [] t b d k = d k
bytes_append (x ∷ s) t b d zero = b 0
bytes_append (x ∷ s) t b d (suc k) = bytes_append s t (λ j. b (suc j)) d k

pub bytes_take : (n : ℕ) (s : List ℕ) → Bytes s → Bytes (take n s)
bytes_take zero s b k = omega arith
bytes_take (suc n) [] b k = omega arith
bytes_take (suc n) (x ∷ s) b zero = b 0
bytes_take (suc n) (x ∷ s) b (suc k) = bytes_take n s (λ j. b (suc j)) k

pub bytes_drop : (n : ℕ) (s : List ℕ) → Bytes s → Bytes (drop n s)
bytes_drop n s b k = rw get_or-drop (b (n + k))
