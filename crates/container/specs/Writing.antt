-- Write (01, What a caller is told, as 02's A7 leaves it): 29 contents that no reading gives, 12 output too short.
use Rattle.std.specs.Prelude.{ℕ, zero, suc, ◌≤◌, ◌<◌, List, [], ◌∷◌, Bool, true, cond, ◌&&◌, length, get_or, take, drop, leb, eqb}
use Rattle.laws.specs.Calls.{unless, room_number, done_with, out_with}
use Rattle.laws.specs.declared.Done.{Done}
use Rattle.rates.specs.Rates.{rate_listed, two_fields}
use Rattle.rates.specs.Cadence.{count_occurs}
use Rattle.rates.specs.Mixes.{mix_listed}
use Rattle.laws.specs.declared.Video.{Video}
use Rattle.laws.specs.declared.Video.TheVariants.{Absent, One, Two}
use Rattle.container.specs.declared.Print.{Print}
use Rattle.container.specs.declared.Contents.{Contents}
use Rattle.container.specs.Contents.{blank_print, same_count}
use Rattle.container.specs.Bytes.{encode}

unfoldable pub all_zero : List ℕ → Bool
all_zero [] = true
all_zero (x ∷ xs) = eqb x 0 && all_zero xs

-- ID bytes only where the part is present
unfoldable pub id_readable : Bool → List ℕ → Bool
id_readable present id = cond present true (all_zero id)

-- no value above 240, and two only at 25, 29.97 or 30
unfoldable pub video_readable : ℕ → Video → Bool
video_readable rate Absent = true
video_readable rate (One a) = leb a 240
video_readable rate (Two a b) = leb a 240 && (leb b 240 && two_fields rate)

-- an ID of five bits, a listed mix type, a count that occurs in the rate's cadence, zeros after that many bytes
unfoldable pub print_readable : ℕ → Print → Bool
print_readable rate p =
    leb p.id 31
    && (mix_listed p.mix
    && (count_occurs rate p.size
    && all_zero (drop p.size p.bytes)))

unfoldable pub print_blank : Print → Bool
print_blank p = eqb p.id 0 && (eqb p.mix 0 && (eqb p.size 0 && all_zero p.bytes))

-- n fingerprints, and blank places after them
unfoldable pub prints_readable : ℕ → ℕ → List Print → Bool
prints_readable rate n [] = true
prints_readable rate zero (p ∷ ps) = print_blank p && prints_readable rate zero ps
prints_readable rate (suc n) (p ∷ ps) = print_readable rate p && prints_readable rate n ps

-- contents that some reading gives
unfoldable pub readable : Contents → Bool
readable c =
    rate_listed c.rate
    && (id_readable c.hasid c.id
    && (video_readable c.rate c.video
    && (leb c.count 32
    && (prints_readable c.rate c.count c.prints
    && same_count (take c.count c.prints)))))

-- "29 contents that no reading gives"
unfoldable pub contents_number : Contents → ℕ
contents_number c = unless (readable c) 29 0

-- "12 output too short"
unfoldable pub write_number : Contents → ℕ → ℕ
write_number c room = room_number (contents_number c) (encode c) room

unfoldable pub write_done : Contents → ℕ → Done
write_done c room = done_with (write_number c room) (encode c)

unfoldable pub write_out : Contents → List ℕ → List ℕ
write_out c out = out_with (write_number c (length out)) (encode c) out

-- ---- what the writers ask of contents; readable ones have it

pub record PrintFits (p : Print) : Type 0 where
  pub id : p.id ≤ 31
  pub mix : p.mix < 8
  pub some : 1 ≤ p.size
  pub five : p.size ≤ 5

pub record RunFits (n : ℕ) (ps : List Print) : Type 0 where
  pub many : n ≤ 32
  pub each : (k : ℕ) → k < n → PrintFits (get_or ps k blank_print)

pub record Fits (c : Contents) : Type 0 where
  pub rate : c.rate ≤ 11
  pub run : RunFits c.count c.prints
