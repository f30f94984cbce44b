-- What the contracts of private functions speak of, going from field to field and not from place to place; no other definition names it. That it is the walk
-- all the same is proved (`Walks`, `Lines`).
use Rattle.std.specs.Prelude.{ℕ, suc, ◌-◌, ◌≤◌, ◌<◌, ◌≡◌, List, [], ◌∷◌, ◌++◌, cond, length, take, drop, ltb}
use Rattle.mending.specs.Fields.{acceptable}
use Rattle.mending.specs.Mending.{mended}
use Rattle.mending.specs.Report.{run_text}

-- how many places come before the first that starts an acceptable field; all, where none does
unfoldable pub gap : List ℕ → ℕ
gap [] = 0
gap (b ∷ s) = cond (acceptable (b ∷ s)) 0 (suc (gap s))

-- from a place up to another all bytes are kept, and what is kept from the one on is they and what is kept from the other on
pub record Stretch (s : List ℕ) (at end : ℕ) : Type 0 where
  pub goes_on : at < end
  pub within : end ≤ length s
  pub kept : mended (drop at s) ≡ take (end - at) (drop at s) ++ mended (drop end s)

-- a place that starts an acceptable field or is the end, and a number of bytes, no more than lie before it
pub record Before (s : List ℕ) (at size : ℕ) : Type 0 where
  pub within : at ≤ length s
  pub lands : gap (drop at s) ≡ 0
  pub fewer : size ≤ at

-- the line of the bytes dropped from a place up to another; none where there are none
unfoldable pub run_between : ℕ → ℕ → List ℕ
run_between start end = cond (ltb start end) (run_text start (end - start)) []
