-- The eight formats (01, "Video"; 000, Tables 1 and 2).
use Rattle.std.specs.Prelude.{ℕ, List, [], ◌∷◌, get_or}
use Rattle.sampling.specs.declared.Row.{Row}

-- width, lines, HStart, HStep, VStart f1, VStart f2 (0: none), VStep, and the taps: how many samples before the pixel's own, how many after it
unfoldable pub table : List (List ℕ)
table =
    (720 ∷ 525 ∷ 123 ∷ 8 ∷ 60 ∷ 323 ∷ 10 ∷ 0 ∷ 0 ∷ [])
    ∷ (720 ∷ 625 ∷ 123 ∷ 8 ∷ 68 ∷ 381 ∷ 12 ∷ 0 ∷ 0 ∷ [])
    ∷ (1280 ∷ 750 ∷ 256 ∷ 13 ∷ 117 ∷ 0 ∷ 32 ∷ 1 ∷ 0 ∷ [])
    ∷ (1920 ∷ 1125 ∷ 399 ∷ 19 ∷ 89 ∷ 652 ∷ 24 ∷ 1 ∷ 1 ∷ [])
    ∷ (1920 ∷ 1125 ∷ 399 ∷ 19 ∷ 178 ∷ 0 ∷ 48 ∷ 1 ∷ 1 ∷ [])
    ∷ (2048 ∷ 1125 ∷ 463 ∷ 19 ∷ 206 ∷ 0 ∷ 46 ∷ 1 ∷ 1 ∷ [])
    ∷ (3840 ∷ 2250 ∷ 798 ∷ 38 ∷ 412 ∷ 0 ∷ 92 ∷ 3 ∷ 2 ∷ [])
    ∷ (4096 ∷ 2250 ∷ 926 ∷ 38 ∷ 412 ∷ 0 ∷ 92 ∷ 3 ∷ 2 ∷ [])
    ∷ []

-- a row's columns by their names; 0 where there is none
unfoldable pub named : List ℕ → Row
named t = record {
  width = get_or t 0 0;
  lines = get_or t 1 0;
  hstart = get_or t 2 0;
  hstep = get_or t 3 0;
  vstart1 = get_or t 4 0;
  vstart2 = get_or t 5 0;
  vstep = get_or t 6 0;
  before = get_or t 7 0;
  after = get_or t 8 0;
}

-- the row of a format; all zero where the format is not listed
unfoldable pub row_of : ℕ → Row
row_of f = named (get_or table f [])
