-- The largest container of each rate: each part is as long as the rate lets it be (02, A7 and A2).
use Rattle.std.specs.Prelude.{ℕ, ◌+◌, ◌-◌, ◌*◌, true, cond, List, [], ◌∷◌, ◌++◌, ◌≡◌, leb, length, replicate}
use Rattle.laws.specs.declared.Video.{Video}
use Rattle.laws.specs.declared.Video.TheVariants.{One, Two}
use Rattle.rates.specs.Rates.{two_fields}
use Rattle.rates.specs.Cadence.{cadence}
use Rattle.container.specs.declared.Print.{Print}
use Rattle.container.specs.declared.Contents.{Contents}
use Rattle.container.specs.Bytes.{id_bytes, video_bytes, audio_bytes, encode}
use Rattle.container.specs.Reading.{reading}
use Rattle.container.specs.Writing.{write_done}
use Rattle.container_laws.specs.Typed.{Typed}

unfoldable pub greatest : List ℕ → ℕ
greatest [] = 0
greatest (n ∷ ns) = cond (leb (greatest ns) n) n (greatest ns)

-- the largest count that a rate allows
abbrev pub most_bytes : ℕ → ℕ
most_bytes rate = greatest (cadence rate)

-- two values where the rate has two fields, else one
abbrev pub video_most : ℕ → ℕ
video_most rate = cond (two_fields rate) 3 2

-- one byte, then for each of 32 fingerprints two bytes and its count
abbrev pub audio_most : ℕ → ℕ
audio_most rate = 1 + 32 * (2 + most_bytes rate)

-- 4: version, sequence counter, Length, the rate code with the flags; 1: the checksum
unfoldable pub largest_at : ℕ → ℕ
largest_at rate = 4 + 21 + video_most rate + audio_most rate + 1

abbrev pub full_print : ℕ → Print
full_print n = record { id = 31; mix = 5; size = n; bytes = replicate n 255 ++ replicate (5 - n) 0 }

abbrev pub full_video : ℕ → Video
full_video rate = cond (two_fields rate) (Two 240 240) (One 240)

abbrev pub full_contents : ℕ → Contents
full_contents rate =
    record { counter = 255; rate = rate; hasid = true; id = replicate 20 255; video = full_video rate; count = 32; prints = replicate 32 (full_print (most_bytes rate)) }

pub record Largest (rate : ℕ) (c : Contents) : Type 0 where
  pub typed : Typed c
  pub id : length (id_bytes c.hasid c.id) ≡ 21
  pub video : length (video_bytes c.video) ≡ video_most rate
  pub audio : length (audio_bytes c.count c.prints) ≡ audio_most rate
  -- written into so many bytes, and refused where there is one less
  pub written : write_done c (largest_at rate) ≡ record { number = 0; written = largest_at rate }
  pub short : write_done c (largest_at rate - 1) ≡ record { number = 12; written = 0 }
  pub read : reading (encode c) ≡ record { number = 0; contents = c }
