-- Whether a number stands in a list, and the front of a list made anew.
use Rattle.std.specs.Prelude.{ℕ, zero, suc, ◌<◌, ◌≡◌, Bool, false, ◌||◌, List, [], ◌∷◌, eqb, length, get_or}

unfoldable pub is_one_of : ℕ → List ℕ → Bool
is_one_of n [] = false
is_one_of n (x ∷ xs) = eqb n x || is_one_of n xs

-- the same by its place
pub record StandsIn (n : ℕ) (l : List ℕ) : Type 0 where
  pub place : ℕ
  pub within : place < length l
  pub there : get_or l place 0 ≡ n

-- the first n of a list, each as g makes it
unfoldable pub each : {A : Type 0} → (A → A) → ℕ → List A → List A
each g zero l = l
each g (suc n) [] = []
each g (suc n) (x ∷ l) = g x ∷ each g n l
