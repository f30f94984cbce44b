-- Three containers of the runs of Shots, with audio and no ID and no video: the first of one fingerprint at 24 Hz, the first and the second of two at 25 Hz. The
-- first two have different fingerprint counts, and the last two different Lengths, AFDataCounts and sizes.
use Prim.Native.Nat.{ℕ, zero, suc, ◌%◌, ◌<◌}
use mathlib.Core.Path.{◌≡◌, refl, sym, ap, ◌∙◌}
use mathlib.Core.Bool.{true, false}
use mathlib.Core.List.{List, [], ◌++◌}
use native.Mathlib.Omega.{arith}
use lib.ListN.{length, get_or, replicate, length-replicate}
use Rattle.laws.specs.Calls.{over}
use Rattle.rates.specs.Rates.{rate_listed, interval_of, pairs_with}
use Rattle.rates.specs.Mixes.{mix_listed}
use Rattle.rates.specs.Cadence.{cadence, cadences}
use Rattle.sampling.specs.Formats.{table, named, row_of}
use Rattle.picture.specs.Lines.{interlaced}
use Rattle.picture.specs.Pictures.{shown_one}
use Rattle.picture.specs.History.{joined, fields, field_tells, frame_shows, Waiting, a_frame, is_waiting, waiting_shows}
use Rattle.fingerprint.specs.History.{bytes_from}
use Rattle.container.specs.declared.Contents.{Contents}
use Rattle.laws.specs.declared.Video.TheVariants.{Absent}
use Rattle.container.specs.Bytes.{id_bytes, video_bytes, print_bytes, run_bytes, audio_bytes, part_bytes, flag_byte, front_bytes, encode}
use Rattle.session.specs.Fingerprints.{all_listed, with_blanks}
use Rattle.session.specs.Session.{rule_listed, setup_number}
use Rattle.demands.specs.Calls.{Setup, Call, pack, Answer}
use Rattle.demands.specs.Paper.{bytes_due, bits_packed, prints_said, contents_said, accepted, Program}
use Rattle.demands.specs.Demands.{Demand2}
use Rattle.demands.specs.Programs.{Invents, Claims}
use Rattle.demands.proofs.Story.{hd, Follows, room, room_length, packed_as, T, At, pack_says, contents_at}
use Rattle.demands.proofs.Shots.{monos, played, line16, Spans, at_first, at_second, holds, has_audio, u, is_accepted, spans}
use Rattle.demands.proofs.Against.{as_said, follows}

-- a container of n mono fingerprints with the samples h, no ID and no video, after q others like it
unfoldable pub plain : ℕ → ℕ → ℕ → (ℕ → ℕ → List ℕ) → Contents
plain rate n q h =
    record {
      counter = q % 256;
      rate = rate;
      hasid = false;
      id = replicate 20 0;
      video = Absent;
      count = n;
      prints = with_blanks (prints_said 50 (bits_packed rate q) (bytes_due rate q) h 0 (monos n));
    }

-- every program that has demand 2 packs it, wherever a frame that shows nothing waits
module _ (n : ℕ) {rate : ℕ} (a : accepted (hd 1 rate (monos n)) ≡ true) (p : Program) (d : Demand2 p) where
  abbrev g : Follows 1 rate (monos n) p
  g = follows p d a

  module _ {cs : List Call} {ls : List (List ℕ)} {w : Waiting} {q : ℕ} (o : At g cs ls w (played n) q q) (s : Spans rate q)
      (ready : is_waiting w ≡ true) (no-video : waiting_shows w ≡ Absent) where
    abbrev c : Contents
    c = plain rate n q (played n)

    contents_are : contents_said (hd 1 rate (monos n)) (T g cs) [] ≡ c
    unfolding plain
    contents_are = contents_at g o true (holds n g o s) ∙ rw (s.fifty, no-video, length-replicate {A = ℕ} n 1) refl

    says : p (hd 1 rate (monos n)) (T g cs) (pack [] room) ≡ packed_as (encode c)
    says = as_said p d (hd 1 rate (monos n)) a cs (pack [] room) ∙ (pack_says g o ready ∙ ap (λ (x : Contents). packed_as (encode x)) contents_are)

    pub byte_is : (i : ℕ) (x : Setup → ℕ) → i < 254 → Invents i x p → x (hd 1 rate (monos n)) ≡ get_or (over (encode c) room) i 0
    unfolding plain
    byte_is i x l f =
        let v = ap (λ (y : Contents). y.video) contents_are in
        let z = ap (λ (b : Answer). b.number) says in
        sym (f (hd 1 rate (monos n)) cs room (has_audio n g o s) v (rw room_length l) z) ∙ ap (λ (b : Answer). get_or b.out i 0) says

    pub size_is : (x : Setup → ℕ) → Claims x p → x (hd 1 rate (monos n)) ≡ length (encode c)
    size_is x f = sym (f (hd 1 rate (monos n)) cs [] room (ap (λ (b : Answer). b.number) says)) ∙ ap (λ (b : Answer). b.written) says

-- ---- The three containers

pub no_video_1 : waiting_shows (a_frame (frame_shows 2 (fields (line16 ++ [])))) ≡ Absent
unfolding waiting_shows frame_shows fields joined field_tells shown_one interlaced row_of named table
no_video_1 = refl

no_video_2 : waiting_shows (a_frame (frame_shows 2 (fields (line16 ++ (line16 ++ []))))) ≡ Absent
unfolding waiting_shows frame_shows fields joined field_tells shown_one interlaced row_of named table
no_video_2 = refl

abbrev pub two : Setup
two = hd 1 5 (monos 2)

two_accepted : accepted two ≡ true
unfolding accepted setup_number rule_listed pairs_with rate_listed all_listed mix_listed
two_accepted = refl

two_spans : (q : ℕ) → q < 2 → Spans 5 q
unfolding interval_of bits_packed bytes_due cadence cadences
two_spans zero l = record { fifty = refl; fit = omega arith }
two_spans (suc zero) l = record { fifty = refl; fit = omega arith }
two_spans (suc (suc q)) l = absurd (let z : ⊥ = omega arith in z)

abbrev pub one_first : List ℕ
one_first = over (encode (plain 3 1 0 (played 1))) room

abbrev pub two_first : List ℕ
two_first = over (encode (plain 5 2 0 (played 2))) room

abbrev pub two_second : List ℕ
two_second = over (encode (plain 5 2 1 (played 2))) room

module _ (p : Program) (d : Demand2 p) where
  module _ (i : ℕ) (l : i < 254) (x : Setup → ℕ) (f : Invents i x p) where
    pub in_one_first : x u ≡ get_or one_first i 0
    unfolding is_waiting
    in_one_first =
        let s = spans 0 (omega arith) in
        byte_is 1 is_accepted p d (at_first 1 (follows p d is_accepted) s) s refl no_video_1 i x l f

    pub in_two_first : x two ≡ get_or two_first i 0
    unfolding is_waiting
    in_two_first =
        let s = two_spans 0 (omega arith) in
        byte_is 2 two_accepted p d (at_first 2 (follows p d two_accepted) s) s refl no_video_1 i x l f

    pub in_two_second : x two ≡ get_or two_second i 0
    unfolding is_waiting
    in_two_second =
        byte_is 2 two_accepted p d (at_second 2 (follows p d two_accepted) (two_spans 0 (omega arith))) (two_spans 1 (omega arith)) refl no_video_2 i x l f

  module _ (x : Setup → ℕ) (f : Claims x p) where
    pub of_two_first : x two ≡ length (encode (plain 5 2 0 (played 2)))
    unfolding is_waiting
    of_two_first =
        let s = two_spans 0 (omega arith) in
        size_is 2 two_accepted p d (at_first 2 (follows p d two_accepted) s) s refl no_video_1 x f

    pub of_two_second : x two ≡ length (encode (plain 5 2 1 (played 2)))
    unfolding is_waiting
    of_two_second =
        size_is 2 two_accepted p d (at_second 2 (follows p d two_accepted) (two_spans 0 (omega arith))) (two_spans 1 (omega arith)) refl no_video_2 x f

-- 00 00 0A 31 02 01 28, five bytes, the checksum
pub one_first_is : get_or one_first 4 0 ≡ 2
unfolding plain over encode front_bytes flag_byte part_bytes id_bytes video_bytes audio_bytes run_bytes print_bytes with_blanks prints_said bytes_due cadence cadences bytes_from
one_first_is = refl

-- 00 00 0F 51 0A 01 20, four bytes, 09 20, four bytes, the checksum: Length, fingerprint count, AFDataCount, size
pub two_first_is : (get_or two_first 2 0 ≡ 15) × (get_or two_first 4 0 ≡ 10) × (get_or two_first 6 0 ≡ 32) × (length (encode (plain 5 2 0 (played 2))) ≡ 18)
unfolding plain over encode front_bytes flag_byte part_bytes id_bytes video_bytes audio_bytes run_bytes print_bytes with_blanks prints_said bytes_due cadence cadences bytes_from
two_first_is = (refl, refl, refl, refl)

-- 00 01 11 51 0A 01 28, five bytes, 09 28, five bytes, the checksum
pub two_second_is : (get_or two_second 2 0 ≡ 17) × (get_or two_second 6 0 ≡ 40) × (length (encode (plain 5 2 1 (played 2))) ≡ 20)
unfolding plain over encode front_bytes flag_byte part_bytes id_bytes video_bytes audio_bytes run_bytes print_bytes with_blanks prints_said bytes_due cadence cadences bytes_from
two_second_is = (refl, refl, refl)
