-- The parts of a container, each read at the start of the bytes that are left before the checksum (01, The container; What a caller is told, 25 to 27).
-- A part that is right takes some bytes (used) and says something; where its flag is 0 it takes none and says nothing.
use Rattle.std.specs.Prelude.{ℕ, zero, suc, ◌+◌, ◌/◌, ◌%◌, List, [], ◌∷◌, ◌++◌, Option, None, Some, cond, length, get_or, take, drop, replicate, leb, eqb}
use Rattle.std.specs.Option.{option_map}
use Rattle.laws.specs.Calls.{over}
use Rattle.rates.specs.Rates.{two_fields}
use Rattle.rates.specs.Cadence.{count_occurs}
use Rattle.rates.specs.Mixes.{mix_listed}
use Rattle.laws.specs.declared.Video.{Video}
use Rattle.laws.specs.declared.Video.TheVariants.{Absent, One, Two}
use Rattle.container.specs.declared.Print.{Print}
use Rattle.container.specs.declared.IdPart.{IdPart}
use Rattle.container.specs.declared.VideoPart.{VideoPart}
use Rattle.container.specs.declared.PrintPart.{PrintPart}
use Rattle.container.specs.declared.AudioPart.{AudioPart}
use Rattle.container.specs.Contents.{blank_print, blanks, same_count}

-- what follows of a part that is right, and wrong where it is not
abbrev pub with_part : {A B : Type 0} → Option A → B → (A → B) → B
with_part None wrong f = wrong
with_part (Some part) wrong f = f part

-- ---- ID: byte 00h, then 20 bytes

unfoldable pub id_part : ℕ → List ℕ → Option IdPart
id_part flag b =
    cond (eqb flag 0) (Some (record { used = 0; id = replicate 20 0 }))
    (cond (leb 21 (length b))
    (cond (eqb (get_or b 0 0) 0)
    (Some (record { used = 21; id = take 20 (drop 1 b) }))
    None) None)

-- ---- Video: 09h and one byte, or 11h and two; 26 also covers a value above 240, and 11h at a rate other than 25, 29.97 or 30

abbrev pub some_video : ℕ → Video → Option VideoPart
some_video n v = Some (record { used = n; video = v })

unfoldable pub one_field : List ℕ → Option VideoPart
one_field b = cond (leb (get_or b 1 0) 240) (some_video 2 (One (get_or b 1 0))) None

unfoldable pub both_fields : ℕ → List ℕ → Option VideoPart
both_fields rate b =
    cond (two_fields rate)
    (cond (leb 3 (length b))
    (cond (leb (get_or b 1 0) 240)
    (cond (leb (get_or b 2 0) 240)
    (some_video 3 (Two (get_or b 1 0) (get_or b 2 0)))
    None) None) None) None

unfoldable pub video_part : ℕ → ℕ → List ℕ → Option VideoPart
video_part flag rate b =
    cond (eqb flag 0) (some_video 0 Absent)
    (cond (leb 2 (length b))
    (cond (eqb (get_or b 0 0) 0x09) (one_field b)
    (cond (eqb (get_or b 0 0) 0x11) (both_fields rate b)
    None)) None)

-- ---- Audio: (count - 1) x 8 + 2; then for each fingerprint ID x 8 + mix type, AFDataCount x 8, and that many bytes; 27 also covers a mix type other than 1, 2, 5
-- and, in place of 01's "(1 to 5)": "every fingerprint of a container carries the same count, and that count occurs in the cadence of the container's rate" (02, A2)

-- the fingerprint at the start of b, where it is right; "unused places are zero"
unfoldable pub print_at : List ℕ → PrintPart
print_at b =
    record {
      used = get_or b 1 0 / 8 + 2;
      print = record {
        id = get_or b 0 0 / 8;
        mix = get_or b 0 0 % 8;
        size = get_or b 1 0 / 8;
        bytes = over (take (get_or b 1 0 / 8) (drop 2 b)) (replicate 5 0);
      };
    }

unfoldable pub print_part : ℕ → List ℕ → Option PrintPart
print_part rate b =
    cond (leb 2 (length b))
    (cond (mix_listed (get_or b 0 0 % 8))
    (cond (eqb (get_or b 1 0 % 8) 0)
    (cond (count_occurs rate (get_or b 1 0 / 8))
    (cond (leb (get_or b 1 0 / 8 + 2) (length b))
    (Some (print_at b))
    None) None) None) None) None

-- fingerprints one after the other
pub record Run : Type 0 where
  pub used : ℕ
  pub list : List Print

-- the run that starts with one fingerprint and goes on with another run
abbrev pub then : PrintPart → Run → Run
then p r = record { used = p.used + r.used; list = p.print ∷ r.list }

unfoldable pub run_of : ℕ → ℕ → List ℕ → Option Run
run_of rate zero b = Some (record { used = 0; list = [] })
run_of rate (suc n) b = with_part (print_part rate b) None (λ p. option_map (then p) (run_of rate n (drop p.used b)))

-- the part of which a run of n fingerprints was read, after the part's first byte
unfoldable pub audio_of : ℕ → Option Run → Option AudioPart
audio_of n run =
    with_part run None (λ r.
    cond (same_count r.list)
    (Some (record { used = r.used + 1; count = n; prints = r.list ++ blanks n }))
    None)

unfoldable pub audio_part : ℕ → ℕ → List ℕ → Option AudioPart
audio_part flag rate b =
    cond (eqb flag 0) (Some (record { used = 0; count = 0; prints = replicate 32 blank_print }))
    (cond (leb 1 (length b))
    (cond (eqb (get_or b 0 0 % 8) 2)
    (audio_of (get_or b 0 0 / 8 + 1) (run_of rate (get_or b 0 0 / 8 + 1) (drop 1 b)))
    None) None)
