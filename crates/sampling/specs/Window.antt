-- The columns of 000's Tables 1 and 2 that 01's table leaves out come out of it.
use Rattle.std.specs.Prelude.{ℕ, ◌+◌, ◌*◌, ◌≡◌, refl, cond, List, [], ◌∷◌, eqb}
use Rattle.sampling.specs.Formats.{table, named, row_of}
use Rattle.sampling.specs.Samples.{firsts}

-- the prefilter's divisor, HStop (the 60th pixel), VStop (f1) and VStop (f2) (the 16th line of each field; 0: none)
unfoldable pub stops_of : ℕ → List ℕ
stops_of f =
    ((row_of f).before + 1 + (row_of f).after)
    ∷ ((row_of f).hstart + (row_of f).hstep * 59)
    ∷ ((row_of f).vstart1 + (row_of f).vstep * 15)
    ∷ cond (eqb (row_of f).vstart2 0) 0 ((row_of f).vstart2 + (row_of f).vstep * 15)
    ∷ []

pub stops :
    firsts stops_of 8
    ≡ (1 ∷ 595 ∷ 210 ∷ 473 ∷ [])
    ∷ (1 ∷ 595 ∷ 248 ∷ 561 ∷ [])
    ∷ (2 ∷ 1023 ∷ 597 ∷ 0 ∷ [])
    ∷ (3 ∷ 1520 ∷ 449 ∷ 1012 ∷ [])
    ∷ (3 ∷ 1520 ∷ 898 ∷ 0 ∷ [])
    ∷ (3 ∷ 1584 ∷ 896 ∷ 0 ∷ [])
    ∷ (6 ∷ 3040 ∷ 1792 ∷ 0 ∷ [])
    ∷ (6 ∷ 3168 ∷ 1792 ∷ 0 ∷ [])
    ∷ []
unfolding firsts stops_of row_of named table
stops = refl
