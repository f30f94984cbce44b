-- What the exports for measuring give: a picture taken through many lines, and what they tell added up.
use Rattle.std.specs.Prelude.{ℕ, zero, suc, ◌+◌, ◌*◌, ◌/◌, ◌%◌, cond, List, ltb, length, get_or, take, drop}
use Rattle.picture.specs.declared.Told.{Told}
use Rattle.picture.specs.declared.Told.TheVariants.{Open, Nothing, Value}
use Rattle.picture.specs.Pictures.{fresh_picture, handed_out, line_of}
use Rattle.bench_video.specs.declared.After.{After}

-- a fingerprint, the brighter pixels and twice the darker ones, or 0
unfoldable pub value_of : Told → ℕ
value_of Open = 0
value_of Nothing = 0
value_of (Value v b k) = v + b + 2 * k

-- one line; a frame that is ready is handed out
unfoldable pub step_of : After → ℕ → ℕ → List ℕ → After
step_of a f n line = record {
  picture = (handed_out (line_of a.picture f n line).picture).picture;
  sum = a.sum % 1000000 + value_of (line_of a.picture f n line).told;
}

-- two lines are lent, one after the other: two fields in four take the first, the others the second
unfoldable pub half_at : List ℕ → ℕ → List ℕ
half_at lines i = take (length lines / 2) (drop (cond (ltb (i / 16 % 4) 2) 0 (length lines / 2)) lines)

-- the first k of the lines of these numbers
unfoldable pub after_lines : ℕ → List ℕ → List ℕ → ℕ → After
after_lines f numbers lines zero = record { picture = fresh_picture; sum = 0 }
after_lines f numbers lines (suc k) = step_of (after_lines f numbers lines k) f (get_or numbers k 0) (half_at lines k)
