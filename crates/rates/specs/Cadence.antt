-- The audio bytes of each frame (000, Table 13, in the words of 01's table), and what holds of every cadence.
use Rattle.std.specs.Prelude.{ℕ, zero, suc, ◌+◌, ◌-◌, ◌*◌, ◌≡◌, refl, Bool, true, cond, List, [], ◌∷◌, ◌++◌, map, ltb, eqb, length, get_or, replicate}
use Rattle.laws.specs.Lists.{is_one_of}
use Rattle.laws.specs.Sums.{sum}
use Rattle.rates.specs.Rates.{intervals}

-- count frames from frame k on: few bytes at the frames named, else many
unfoldable pub from : ℕ → ℕ → ℕ → List ℕ → ℕ → List ℕ
from k zero few named many = []
from k (suc count) few named many = cond (is_one_of k named) few many ∷ from (suc k) count few named many

-- "16 frames: 4 at frames 1, 6, 11, else 5": frames count from 1
unfoldable pub frames : ℕ → ℕ → List ℕ → ℕ → List ℕ
frames count few named many = from 1 count few named many

-- by the rate code
unfoldable pub cadences : List (List ℕ)
cadences =
    []
    ∷ []
    ∷ frames 16 4 (1 ∷ 6 ∷ 11 ∷ []) 5
    ∷ (5 ∷ [])
    ∷ frames 32 3 (3 ∷ 5 ∷ 8 ∷ 10 ∷ 13 ∷ 15 ∷ 18 ∷ 20 ∷ 23 ∷ 25 ∷ 28 ∷ 30 ∷ 32 ∷ []) 2
    ∷ (4 ∷ 5 ∷ 5 ∷ 5 ∷ 5 ∷ [])
    ∷ frames 20 3 (1 ∷ 7 ∷ 14 ∷ []) 4
    ∷ (4 ∷ [])
    ∷ (2 ∷ 3 ∷ [])
    ∷ (2 ∷ 2 ∷ 3 ∷ 2 ∷ 3 ∷ [])
    ∷ frames 40 1 (1 ∷ 14 ∷ 27 ∷ []) 2
    ∷ (2 ∷ [])
    ∷ []

unfoldable pub cadence : ℕ → List ℕ
cadence code = get_or cadences code []

-- which counts of bytes a rate allows: "that count occurs in the cadence of the container's rate" (02, A2)
unfoldable pub count_occurs : ℕ → ℕ → Bool
count_occurs code count = is_one_of count (cadence code)

-- "cyclic": the place after the last is the first, places counted from 0
unfoldable pub place_after : ℕ → ℕ → ℕ
place_after code place = cond (ltb (place + 1) (length (cadence code))) (place + 1) 0

-- ---- what holds of every row

-- the fewest and the most of each row's counts, by the rate code; where there is no row, the most is below the fewest
unfoldable pub fewest : List ℕ
fewest = 1 ∷ 1 ∷ 4 ∷ 5 ∷ 2 ∷ 4 ∷ 3 ∷ 4 ∷ 2 ∷ 2 ∷ 1 ∷ 2 ∷ []

unfoldable pub most : List ℕ
most = 0 ∷ 0 ∷ 5 ∷ 5 ∷ 3 ∷ 5 ∷ 4 ∷ 4 ∷ 3 ∷ 3 ∷ 2 ∷ 2 ∷ []

-- a row of 40 places, with zeros after the cadence
unfoldable pub held : List ℕ → List ℕ
held l = l ++ replicate (40 - length l) 0

-- each row's bytes in one cycle, by the rate code
unfoldable pub cycles : List ℕ
cycles = 0 ∷ 0 ∷ 77 ∷ 5 ∷ 77 ∷ 24 ∷ 77 ∷ 4 ∷ 5 ∷ 12 ∷ 77 ∷ 2 ∷ []

unfoldable pub cycle_bytes : ℕ → ℕ
cycle_bytes code = get_or cycles code 0

-- "each row's sum proved in one computed test": of the rows of 40 places, and of the rows as the code has them
pub sums : map sum (map held cadences) ≡ cycles
unfolding sum held cycles cadences frames from is_one_of
sums = refl

pub row_sums : map sum cadences ≡ cycles
unfolding sum cycles cadences frames from is_one_of
row_sums = refl

-- frames a second, as a fraction: 23.98 is 24,000/1,001, and so its kin
pub record Rate : Type 0 where
  pub num : ℕ
  pub den : ℕ

abbrev per : ℕ → ℕ → Rate
per num den = record { num = num; den = den }

abbrev pub rates : List Rate
rates =
    per 0 1
    ∷ per 0 1
    ∷ per 24000 1001
    ∷ per 24 1
    ∷ per 48000 1001
    ∷ per 25 1
    ∷ per 30000 1001
    ∷ per 30 1
    ∷ per 48 1
    ∷ per 50 1
    ∷ per 60000 1001
    ∷ per 60 1
    ∷ []

-- 8 x D x sum x rate = 48,000 x frames, at each row
unfoldable pub balanced : List (List ℕ) → List ℕ → List Rate → List Bool
balanced [] ds rs = []
balanced (l ∷ ls) [] rs = []
balanced (l ∷ ls) (d ∷ ds) [] = []
balanced (l ∷ ls) (d ∷ ds) (r ∷ rs) = eqb (8 * d * sum l * r.num) (48000 * length l * r.den) ∷ balanced ls ds rs

-- over a cycle no sample is lost and none made
pub all_balanced : balanced cadences intervals rates ≡ replicate 12 true
unfolding balanced sum cadences frames from is_one_of
all_balanced = refl
