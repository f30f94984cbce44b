-- What 02's A1 keeps: the count of old, a yes or no for each pixel in 01's words, to which the two counts sum (`Compared.sum_is`).
use Rattle.std.specs.Prelude.{ℕ, ◌+◌, ◌/◌, ◌≤◌, ◌≡◌, Bool, cond, ◌||◌, List, [], ◌∷◌, leb}
use Rattle.picture.specs.declared.Told.{Told}
use Rattle.picture.specs.declared.Told.TheVariants.{Open, Nothing, Value}

-- "A pixel is changed if the two differ by 32 or more, either way"
unfoldable pub changed_by : ℕ → ℕ → Bool
changed_by x y = leb (y + 32) x || leb (x + 32) y

-- the count of changed pixels
unfoldable pub changes_in : List ℕ → List ℕ → ℕ
changes_in [] g = 0
changes_in (x ∷ f) [] = 0
changes_in (x ∷ f) (y ∷ g) = cond (changed_by x y) 1 0 + changes_in f g

-- where a line tells a fingerprint, it is a quarter of the two counts beside it, rounded down, and they are of a field's 960 pixels
abbrev pub Sums : Told → Type 0
Sums Open = Unit {0}
Sums Nothing = Unit {0}
Sums (Value fingerprint brighter darker) = (fingerprint ≡ (brighter + darker) / 4) × (brighter + darker ≤ 960)
