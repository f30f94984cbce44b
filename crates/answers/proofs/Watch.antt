-- The watch over the bytes beyond those written: what it scans, and that a call which keeps them leaves nothing to report.
use Prim.Native.Nat.{ℕ, zero, suc, ◌+◌, ◌*◌, ◌≤◌}
use mathlib.Core.Path.{◌≡◌, refl, ap}
use mathlib.Core.List.{List, [], ◌∷◌, ◌++◌}
use mathlib.Core.Bool.{true, false}
use native.Mathlib.Omega.{arith}
use native.Mathlib.Nat.{le_of_suc-le-suc}
use lib.ListN.{length, take, drop, length-append, length-replicate, length-drop}
use lib.Dec.{eqb}
use borrow.Author.Tests.{eq-eqb, ne_eqb}
use Rattle.laws.specs.Calls.{over}
use Rattle.laws.proofs.Tests.{both, chosen}
use Rattle.text.specs.Spelling.{hex_text}
use Rattle.text.specs.Lines.{space}
use Rattle.text.proofs.Spelled.{hex_size}
use Rattle.answers.specs.Lines.{hex_part, untouched, fresh, is_untouched, spill_part}
use Rattle.answers.specs.Words.{spilled}

-- a buffer as it is lent is untouched, and so is what is left of one
pub untouched_is : (n : ℕ) → is_untouched (untouched n) ≡ true
unfolding is_untouched untouched
untouched_is zero = refl
untouched_is (suc n) = untouched_is n

pub untouched_size : (n : ℕ) → length (untouched n) ≡ n
unfolding untouched
untouched_size n = length-replicate n 0xA5

pub untouched_drop : (n : ℕ) (s : List ℕ) → is_untouched s ≡ true → is_untouched (drop n s) ≡ true
unfolding is_untouched
untouched_drop zero s e = e
untouched_drop (suc n) [] e = refl
untouched_drop (suc n) (b ∷ s) e = untouched_drop n s (both (eqb b 0xA5) (is_untouched s) e).1

-- the first bytes of a longer work buffer
pub untouched_take : (n m : ℕ) → n ≤ m → take n (untouched m) ≡ untouched n
unfolding untouched
untouched_take zero m h = refl
untouched_take (suc n) zero h = absurd (let z : ⊥ = omega arith in z)
untouched_take (suc n) (suc m) h = ap {B = List ℕ} (λ l. 0xA5 ∷ l) (untouched_take n m (le_of_suc-le-suc h))

-- a buffer whose bytes beyond a place are untouched, in front of an untouched one
untouched_append : (n : ℕ) (s t : List ℕ) → n ≤ length s → is_untouched (drop n s) ≡ true → is_untouched t ≡ true → is_untouched (drop n (s ++ t)) ≡ true
unfolding is_untouched
untouched_append zero [] t h e f = f
untouched_append zero (b ∷ s) t h e f =
    let g = both (eqb b 0xA5) (is_untouched s) e in
    rw g.0 (untouched_append zero s t (omega arith) g.1 f)
untouched_append (suc n) [] t h e f = absurd (let z : ⊥ = omega arith in z)
untouched_append (suc n) (b ∷ s) t h e f = untouched_append n s t (le_of_suc-le-suc h) e f

-- the same of a room that is the front of the work buffer
pub work_size : (left : List ℕ) → length left ≤ 4096 → length (over left fresh) ≡ 4096
unfolding over
work_size left h = omega (arith, length-append left (drop (length left) fresh), length-drop (length left) fresh, untouched_size 4096)

pub work_untouched : (n : ℕ) (left : List ℕ) → n ≤ length left → is_untouched (drop n left) ≡ true → is_untouched (drop n (over left fresh)) ≡ true
unfolding over
work_untouched n left h e = untouched_append n left (drop (length left) fresh) h e (untouched_drop (length left) fresh (untouched_is 4096))

-- ---- the parts that may be there

pub spill_none : (beyond : List ℕ) → is_untouched beyond ≡ true → spill_part beyond ≡ []
unfolding spill_part
spill_none beyond e = rw e

pub spill_some : (beyond : List ℕ) → is_untouched beyond ≡ false → spill_part beyond ≡ spilled
unfolding spill_part
spill_some beyond e = rw e

pub hex_none : (number : ℕ) (bytes : List ℕ) → (number ≡ 0 → ⊥) → hex_part number bytes ≡ []
unfolding hex_part
hex_none number bytes h = rw (ne_eqb number 0 h)

pub hex_some : (number : ℕ) (bytes : List ℕ) → number ≡ 0 → hex_part number bytes ≡ space ++ hex_text bytes
unfolding hex_part
hex_some number bytes h = rw (eq-eqb number 0 h)

pub hex_part_size : (number : ℕ) (bytes : List ℕ) → length (hex_part number bytes) ≤ 1 + 2 * length bytes
unfolding hex_part
hex_part_size number bytes =
    chosen (λ (l : List ℕ). length l ≤ 1 + 2 * length bytes) (eqb number 0) (space ++ hex_text bytes) [] (λ _. omega (arith, length-append space (hex_text bytes), hex_size bytes)) (λ _. omega arith)
