-- Read container (01, What a caller is told): the first refusal in the paper's order, or what the container says.
use Rattle.std.specs.Prelude.{ℕ, ◌+◌, ◌-◌, ◌/◌, ◌%◌, List, Option, Result, Ok, Err, cond, length, get_or, take, drop, leb, ltb, eqb}
use Rattle.laws.specs.Calls.{unless}
use Rattle.laws.specs.Sums.{sum}
use Rattle.laws.specs.declared.Refusal.{Refusal}
use Rattle.laws.specs.Refusals.{number_of}
use Rattle.rates.specs.Rates.{rate_listed}
use Rattle.container.specs.declared.IdPart.{IdPart}
use Rattle.container.specs.declared.VideoPart.{VideoPart}
use Rattle.container.specs.declared.AudioPart.{AudioPart}
use Rattle.container.specs.declared.Contents.{Contents}
use Rattle.container.specs.Contents.{empty_contents}
use Rattle.container.specs.Parts.{with_part, id_part, video_part, audio_part}

-- "20 under 5 bytes; 21 version; 22 size not Length + 3; 23 checksum; 24 rate code or bit 3", or 0
unfoldable pub header_number : List ℕ → ℕ
header_number s =
    unless (leb 5 (length s)) 20
    (unless (eqb (get_or s 0 0) 0) 21
    (unless (eqb (length s) (get_or s 2 0 + 3)) 22
    (unless (eqb (sum s % 256) 0) 23
    (unless (rate_listed (get_or s 3 0 / 16)) 24
    (unless (ltb (get_or s 3 0 % 16) 8) 24
    0)))))

-- what a reading tells: 0 and what the container says, or the refusal's number
pub record Reading : Type 0 where
  pub number : ℕ
  pub contents : Contents

-- "a refused reading's contents are all zero, with no video"
abbrev pub refusal : ℕ → Reading
refusal n = record { number = n; contents = empty_contents }

-- the same of an answer
abbrev pub reading_of : Result Contents Refusal → Reading
reading_of (Ok contents) = record { number = 0; contents = contents }
reading_of (Err why) = refusal (number_of why)

-- what the parts say, under the counter and the byte with the rate code and the flags
abbrev pub parts_say : ℕ → ℕ → IdPart → VideoPart → AudioPart → Reading
parts_say counter flags i v a =
    record {
      number = 0;
      contents = record {
        counter = counter;
        rate = flags / 16;
        hasid = eqb (flags / 4 % 2) 1;
        id = i.id;
        video = v.video;
        count = a.count;
        prints = a.prints;
      };
    }

-- each part at the start of what the parts before it left: their bytes, used
abbrev pub id_in : ℕ → List ℕ → Option IdPart
id_in flags b = id_part (flags / 4 % 2) b

abbrev pub video_in : ℕ → ℕ → List ℕ → Option VideoPart
video_in flags used b = video_part (flags / 2 % 2) (flags / 16) (drop used b)

abbrev pub audio_in : ℕ → ℕ → List ℕ → Option AudioPart
audio_in flags used b = audio_part (flags % 2) (flags / 16) (drop used b)

-- "25 ID part; 26 video part; 27 audio part; 28 bytes left over"
unfoldable pub parts_reading : ℕ → ℕ → List ℕ → Reading
parts_reading counter flags b =
    with_part (id_in flags b) (refusal 25) (λ i.
    with_part (video_in flags i.used b) (refusal 26) (λ v.
    with_part (audio_in flags (i.used + v.used) b) (refusal 27) (λ a.
    cond (eqb (i.used + v.used + a.used) (length b))
    (parts_say counter flags i v a)
    (refusal 28))))

-- the bytes between the flags and the checksum
unfoldable pub middle : List ℕ → List ℕ
middle s = take (length s - 5) (drop 4 s)

unfoldable pub reading : List ℕ → Reading
reading s = cond (eqb (header_number s) 0) (parts_reading (get_or s 1 0) (get_or s 3 0) (middle s)) (refusal (header_number s))
