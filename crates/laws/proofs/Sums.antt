-- Laws of the sum of a list.
use Prim.Native.Nat.{ℕ, ◌+◌, ◌≤◌, ◌<◌}
use mathlib.Core.Path.{◌≡◌}
use mathlib.Core.List.{List, [], ◌∷◌, ◌++◌}
use native.Mathlib.Omega.{arith}
use native.Mathlib.Numerals.{add-one}
use lib.ListN.{length, get_or, drop, drop_of_length-le}
use lib.Seq.{drop-cons}
use Rattle.laws.specs.Sums.{sum}

-- one number more of a sum
pub sum_step : (s : List ℕ) (i : ℕ) → i < length s → sum (drop i s) ≡ get_or s i 0 + sum (drop (i + 1) s)
unfolding sum
sum_step s i h = rw (add-one, drop-cons s i 0)

pub sum_end : (s : List ℕ) (i : ℕ) → length s ≤ i → sum (drop i s) ≡ 0
unfolding sum
sum_end s i h = rw drop_of_length-le

pub sum_append : (xs ys : List ℕ) → sum (xs ++ ys) ≡ sum xs + sum ys
unfolding sum
sum_append [] ys = omega arith
sum_append (x ∷ xs) ys = omega (arith, sum_append xs ys)
