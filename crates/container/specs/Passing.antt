-- What is asked of a fingerprint that is only passed over, after a right one: for a private function, and no other definition names it. That it is what is left
-- of `print_part` and `same_count` there is proved (`Passing.alike_right`, `unlike_size`).
use Rattle.std.specs.Prelude.{ℕ, ◌+◌, ◌/◌, ◌%◌, List, Bool, ◌&&◌, length, get_or, leb, eqb}
use Rattle.rates.specs.Mixes.{mix_listed}

-- it has the right one's byte with the count, a listed mix type and all of its bytes
unfoldable pub is_alike : ℕ → List ℕ → Bool
is_alike counted b = leb (counted / 8 + 2) (length b) && (eqb (get_or b 1 0) counted && mix_listed (get_or b 0 0 % 8))
