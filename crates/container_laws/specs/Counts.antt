-- What a container's counts are, fingerprint by fingerprint and without a test; and pairs of counts, for one computed test (02, A2).
use Rattle.std.specs.Prelude.{ℕ, ◌<◌, ◌≡◌, List, [], ◌∷◌, false, ◌&&◌, eqb, get_or, replicate}
use Rattle.laws.specs.Calls.{unless}
use Rattle.laws.specs.Lists.{is_one_of, StandsIn}
use Rattle.laws.specs.declared.Video.TheVariants.{Absent}
use Rattle.rates.specs.Cadence.{cadence}
use Rattle.container.specs.declared.Print.{Print}
use Rattle.container.specs.declared.Contents.{Contents}
use Rattle.container.specs.Contents.{blank_print}
use Rattle.container.specs.Bytes.{encode}
use Rattle.container.specs.Reading.{reading}
use Rattle.container.specs.Writing.{write_done}

-- how many bytes fingerprint k carries
abbrev pub count_of : List Print → ℕ → ℕ
count_of ps k = (get_or ps k blank_print).size

-- "every fingerprint of a container carries the same count": the first n of ps
pub record OneCount (n : ℕ) (ps : List Print) : Type 0 where
  pub same : (j k : ℕ) → j < n → k < n → count_of ps j ≡ count_of ps k

pub record Counted (c : Contents) : Type 0 where
  pub one : OneCount c.count c.prints
  -- "and that count occurs in the cadence of the container's rate"
  pub occurs : (k : ℕ) → k < c.count → StandsIn (count_of c.prints k) (cadence c.rate)

-- ---- pairs of counts

-- the counts of each rate's cadence, by the rate code, transcribed once more from Table 13

abbrev pub counts : List (List ℕ)
counts =
    []
    ∷ []
    ∷ (4 ∷ 5 ∷ [])
    ∷ (5 ∷ [])
    ∷ (2 ∷ 3 ∷ [])
    ∷ (4 ∷ 5 ∷ [])
    ∷ (3 ∷ 4 ∷ [])
    ∷ (4 ∷ [])
    ∷ (2 ∷ 3 ∷ [])
    ∷ (2 ∷ 3 ∷ [])
    ∷ (1 ∷ 2 ∷ [])
    ∷ (2 ∷ [])
    ∷ []

-- two fingerprints of m and n bytes
abbrev pub pair_of : ℕ → ℕ → ℕ → Contents
pair_of rate m n =
    record {
      counter = 0;
      rate = rate;
      hasid = false;
      id = replicate 20 0;
      video = Absent;
      count = 2;
      prints = record { id = 0; mix = 1; size = m; bytes = replicate 5 0 } ∷ record { id = 1; mix = 1; size = n; bytes = replicate 5 0 } ∷ replicate 30 blank_print;
    }

-- 0 where both carry one count of the rate's cadence, else a number
abbrev pub unless_counted : ℕ → ℕ → ℕ → ℕ → ℕ
unless_counted rate m n number = unless (eqb m n && is_one_of m (get_or counts rate [])) number 0

pub record PairTold (rate m n : ℕ) : Type 0 where
  pub read : (reading (encode (pair_of rate m n))).number ≡ unless_counted rate m n 27
  pub written : (write_done (pair_of rate m n) 254).number ≡ unless_counted rate m n 29
