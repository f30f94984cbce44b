-- Document 01's starred figures ("Figures to check against"), with 02's for the second mixing rule (A9) beside them, as one table.
use Prim.Native.Nat.{ℕ, ◌+◌, ◌<◌}
use mathlib.Core.Path.{◌≡◌, refl, ◌∙◌}
use mathlib.Core.Bool.{true, false}
use mathlib.Core.List.{List, [], ◌∷◌}
use native.Mathlib.Omega.{arith}
use lib.IntN.{negsuc}
use lib.ListN.{replicate}
use borrow.Author.Tests.{le-leb, lt-leb}
use Rattle.laws.specs.Calls.{over}
use Rattle.laws.specs.Lists.{is_one_of}
use Rattle.laws.specs.Sums.{sum}
use Rattle.rates.specs.Rates.{rate_listed}
use Rattle.rates.specs.Mixes.{mix_listed}
use Rattle.rates.specs.Cadence.{cadences, cadence, count_occurs, frames, from}
use Rattle.picture.specs.Fields.{difference, is_brighter, is_darker, brighter_in, darker_in, fingerprint_of}
use Rattle.picture.proofs.Compared.{brighter_is, darker_is}
use Rattle.sound.specs.Mix.{signed, signed_at, instant_samples, weights, divisor, weighted, floor, towards_zero, quotient, mixed, pseudo_absolute}
use Rattle.sound.specs.Filter.{filter_next, filtered, envelope_after, mean_after}
use Rattle.laws.specs.declared.Video.{Video}
use Rattle.laws.specs.declared.Video.TheVariants.{Absent, One}
use Rattle.container.specs.declared.Print.{Print}
use Rattle.container.specs.Reading.{Reading}
use Rattle.container.specs.Contents.{blank_print, all_carry, same_count}
use Rattle.container.specs.Parts.{id_part, one_field, video_part, print_part, print_at, run_of, audio_of, audio_part}
use Rattle.container.specs.Reading.{header_number, parts_reading, middle, reading}
use Rattle.packet.specs.Words.{parity, with_bit9, word_of, sum9, check_word}
use Rattle.packet.specs.Writing.{head_words, front_words, packet_words}

-- a container that is accepted, with no ID, and says this
abbrev reads : ℕ → ℕ → Video → ℕ → List Print → Reading
reads counter rate video count prints =
    record {
      number = 0;
      contents = record {
        counter = counter;
        rate = rate;
        hasid = false;
        id = replicate 20 0;
        video = video;
        count = count;
        prints = prints;
      };
    }

-- an audio fingerprint of ID 0, mono, with the bytes FF 01
abbrev bytes_fF01 : Print
bytes_fF01 = record { id = 0; mix = 1; size = 2; bytes = 0xFF ∷ 0x01 ∷ 0 ∷ 0 ∷ 0 ∷ [] }

abbrev Unchanged : ℕ → ℕ → Type 0
Unchanged x y = (is_brighter (difference x y) ≡ false) × (is_darker (difference x y) ≡ false)

pub record Figures : Type 0 where
  -- Difference 31 is unchanged, 32 changed, either way
  pub unchanged_31 : (x : ℕ) → Unchanged x (x + 31) × Unchanged (x + 31) x
  pub changed_32 : (x : ℕ) → (is_darker (difference x (x + 32)) ≡ true) × (is_brighter (difference (x + 32) x) ≡ true)
  -- 3 changed give 0, 4 give 1, 960 give 240
  pub three : (f g : List ℕ) → brighter_in f g + darker_in f g ≡ 3 → fingerprint_of f g ≡ 0
  pub four : (f g : List ℕ) → brighter_in f g + darker_in f g ≡ 4 → fingerprint_of f g ≡ 1
  pub all : (f g : List ℕ) → brighter_in f g + darker_in f g ≡ 960 → fingerprint_of f g ≡ 240
  -- -1000 becomes 999; -32768 becomes 32767
  pub thousand : pseudo_absolute (negsuc 999) ≡ 999
  pub lowest : pseudo_absolute (negsuc 32767) ≡ 32767
  -- L = R = -2 mixes to -2; both -32768 mix to -23171; these are the samples in the bytes FE FF FE FF and 00 80 00 80
  pub two : mixed 1 2 (negsuc 1 ∷ negsuc 1 ∷ []) ≡ negsuc 1
  pub both : mixed 1 2 (negsuc 32767 ∷ negsuc 32767 ∷ []) ≡ negsuc 23170
  -- and by rule 2 to -1 and -23170
  pub two_to_zero : mixed 2 2 (negsuc 1 ∷ negsuc 1 ∷ []) ≡ negsuc 0
  pub both_to_zero : mixed 2 2 (negsuc 32767 ∷ negsuc 32767 ∷ []) ≡ negsuc 23169
  pub two_read : instant_samples (0xFE ∷ 0xFF ∷ 0xFE ∷ 0xFF ∷ []) 0 2 ≡ negsuc 1 ∷ negsuc 1 ∷ []
  pub both_read : instant_samples (0x00 ∷ 0x80 ∷ 0x00 ∷ 0x80 ∷ []) 0 2 ≡ negsuc 32767 ∷ negsuc 32767 ∷ []
  -- a(1) = 1000, a(2) = 0: E = 8000 then 7993, M = 1000 then 1000, whatever a(0) was
  pub envelope_1 : (a : ℕ) → envelope_after (1000 ∷ a ∷ []) ≡ 8000
  pub envelope_2 : (a : ℕ) → envelope_after (0 ∷ 1000 ∷ a ∷ []) ≡ 7993
  pub mean_1 : (a : ℕ) → mean_after (1000 ∷ a ∷ []) ≡ 1000
  pub mean_2 : (a : ℕ) → mean_after (0 ∷ 1000 ∷ a ∷ []) ≡ 1000
  -- 00 00 02 50 AE reads: 25 Hz, no part; its packet has count word 205h, user words 200h 200h 102h 250h 1AEh, checksum 251h
  pub smallest : reading (0x00 ∷ 0x00 ∷ 0x02 ∷ 0x50 ∷ 0xAE ∷ []) ≡ reads 0 5 Absent 0 (replicate 32 blank_print)
  pub packet :
      packet_words (0x00 ∷ 0x00 ∷ 0x02 ∷ 0x50 ∷ 0xAE ∷ [])
      ≡ 0x000 ∷ 0x3FF ∷ 0x3FF ∷ 0x241 ∷ 0x10B ∷ 0x205 ∷ 0x200 ∷ 0x200 ∷ 0x102 ∷ 0x250 ∷ 0x1AE ∷ 0x251 ∷ []
  -- 00 07 04 52 09 F0 AA reads: 25 Hz, video 240
  pub video : reading (0x00 ∷ 0x07 ∷ 0x04 ∷ 0x52 ∷ 0x09 ∷ 0xF0 ∷ 0xAA ∷ []) ≡ reads 7 5 (One 240) 0 (replicate 32 blank_print)
  -- 00 00 07 B1 02 01 10 FF 01 35 reads: 60 Hz, bytes FF 01. With 36h last: 23
  pub audio : reading (0x00 ∷ 0x00 ∷ 0x07 ∷ 0xB1 ∷ 0x02 ∷ 0x01 ∷ 0x10 ∷ 0xFF ∷ 0x01 ∷ 0x35 ∷ []) ≡ reads 0 11 Absent 1 (bytes_fF01 ∷ replicate 31 blank_print)
  pub checksum : (reading (0x00 ∷ 0x00 ∷ 0x07 ∷ 0xB1 ∷ 0x02 ∷ 0x01 ∷ 0x10 ∷ 0xFF ∷ 0x01 ∷ 0x36 ∷ [])).number ≡ 23

unchanged : (x y : ℕ) → x < y + 32 → y < x + 32 → Unchanged x y
unchanged x y h k = (brighter_is x y ∙ lt-leb (y + 32) x h, darker_is x y ∙ lt-leb (x + 32) y k)

pub figures : Figures
unfolding fingerprint_of pseudo_absolute mixed quotient towards_zero floor weighted weights divisor instant_samples signed_at signed filtered filter_next reading header_number parts_reading middle id_part video_part one_field audio_part audio_of run_of print_part print_at count_occurs cadence cadences frames from is_one_of same_count all_carry over sum rate_listed mix_listed packet_words front_words head_words word_of with_bit9 parity sum9 check_word
figures = record {
  unchanged_31 = λ x. (unchanged x (x + 31) (omega arith) (omega arith), unchanged (x + 31) x (omega arith) (omega arith));
  changed_32 = λ x. (darker_is x (x + 32) ∙ le-leb (x + 32) (x + 32) (omega arith), brighter_is (x + 32) x ∙ le-leb (x + 32) (x + 32) (omega arith));
  three = λ f g e. rw e;
  four = λ f g e. rw e;
  all = λ f g e. rw e;
  thousand = refl;
  lowest = refl;
  two = refl;
  both = refl;
  two_to_zero = refl;
  both_to_zero = refl;
  two_read = refl;
  both_read = refl;
  envelope_1 = λ a. refl;
  envelope_2 = λ a. refl;
  mean_1 = λ a. refl;
  mean_2 = λ a. refl;
  smallest = refl;
  packet = refl;
  video = refl;
  audio = refl;
  checksum = refl;
}
