-- Rate codes (01, Audio, its table; ST 352): which are listed, the interval D, and which format takes which rate.
use Rattle.std.specs.Prelude.{ℕ, Bool, cond, ◌&&◌, List, [], ◌∷◌, leb, ltb, eqb, get_or}

-- codes 2 to 11
unfoldable pub rate_listed : ℕ → Bool
rate_listed code = leb 2 code && leb code 11

-- D by the code, as the table has it: 23.98, 24, 47.95, 25, 29.97, 30, 48, 50, 59.94, 60 from code 2 on
abbrev pub intervals : List ℕ
intervals = 0 ∷ 0 ∷ 52 ∷ 50 ∷ 52 ∷ 50 ∷ 52 ∷ 50 ∷ 50 ∷ 50 ∷ 52 ∷ 50 ∷ []

unfoldable pub interval_of : ℕ → ℕ
interval_of code = get_or intervals code 0

-- "25, 29.97 or 30" (01, What a caller is told, 26): codes 5, 6 and 7
unfoldable pub two_fields : ℕ → Bool
two_fields code = leb 5 code && leb code 7

-- "485i takes code 6 only, 576i code 5 only, 1080i codes 5, 6, 7; a progressive format takes any": formats 0, 1, 3, and 2, 4 to 7
unfoldable pub pairs_with : ℕ → ℕ → Bool
pairs_with format code =
    cond (eqb format 0) (eqb code 6)
    (cond (eqb format 1) (eqb code 5)
    (cond (eqb format 3) (two_fields code)
    (ltb format 8 && rate_listed code)))
