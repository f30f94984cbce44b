-- The contents that 283 bytes are the flat form of. Bytes are no contents where there are not 283, where ID present is above 1, where there are more than two
-- video values, or where an unused place of theirs is not zero.
use Rattle.std.specs.Prelude.{ℕ, zero, suc, List, [], ◌∷◌, Option, Some, None, cond, length, get_or, take, drop, leb, eqb}
use Rattle.std.specs.Option.{option_map}
use Rattle.laws.specs.declared.Video.{Video}
use Rattle.laws.specs.declared.Video.TheVariants.{Absent, One, Two}
use Rattle.container.specs.declared.Print.{Print}
use Rattle.container.specs.declared.Contents.{Contents}

-- n values in the places a and b
unfoldable pub video_of : ℕ → ℕ → ℕ → Option Video
video_of n a b =
    cond (eqb n 2) (Some (Two a b))
    (cond (eqb b 0)
    (cond (eqb n 1) (Some (One a))
    (cond (eqb a 0)
    (cond (eqb n 0) (Some Absent)
    None) None)) None)

unfoldable pub video_at : List ℕ → Option Video
video_at s = video_of (get_or s 23 0) (get_or s 24 0) (get_or s 25 0)

unfoldable pub print_of : List ℕ → Print
print_of b = record { id = get_or b 0 0; mix = get_or b 1 0; size = get_or b 2 0; bytes = take 5 (drop 3 b) }

-- n fingerprints, eight bytes each
unfoldable pub prints_of : ℕ → List ℕ → List Print
prints_of zero b = []
prints_of (suc n) b = print_of b ∷ prints_of n (drop 8 b)

-- the contents, beside the video that the bytes say
unfoldable pub contents_of : List ℕ → Video → Contents
contents_of s video =
    record {
      counter = get_or s 0 0;
      rate = get_or s 1 0;
      hasid = eqb (get_or s 2 0) 1;
      id = take 20 (drop 3 s);
      video = video;
      count = get_or s 26 0;
      prints = prints_of 32 (drop 27 s);
    }

unfoldable pub unflat : List ℕ → Option Contents
unflat s =
    cond (eqb (length s) 283)
    (cond (leb (get_or s 2 0) 1)
    (option_map (contents_of s) (video_at s))
    None) None
