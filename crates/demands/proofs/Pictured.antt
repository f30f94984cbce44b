-- Video in the run of Story at 24 Hz with no sound: the first row, taken once; and two frames, black or white, and a third that is black or white, what it
-- tells and what its container has.
use Prim.Native.Nat.{ℕ}
use mathlib.Core.Path.{◌≡◌, refl, sym, ap, ap₂, ◌∙◌}
use mathlib.Core.Bool.{Bool, true, false, false≢true}
use mathlib.Core.List.{List, [], ◌∷◌, ◌++◌}
use native.Mathlib.Omega.{arith}
use lib.ListN.{length, get_or, replicate, length-replicate}
use Rattle.laws.specs.Calls.{over}
use Rattle.rates.specs.Rates.{interval_of}
use Rattle.rates.specs.Cadence.{cadence, cadences}
use Rattle.sampling.specs.Formats.{table, named, row_of}
use Rattle.sampling.specs.Samples.{sample_at, tap_sum, mean_of, pixel_by, firsts, pixels}
use Rattle.picture.specs.declared.Told.{Told}
use Rattle.picture.specs.declared.Told.TheVariants.{Value}
use Rattle.picture.specs.Fields.{difference, is_brighter, is_darker, count_of, brighter_in, darker_in, fingerprint_of, compared, told_values}
use Rattle.picture.specs.Lines.{among, interlaced, monitored, due_line, order_number, line_number}
use Rattle.picture.specs.Pictures.{shown_one}
use Rattle.picture.specs.History.{joined, fields, field_tells, line_tells, next_field, next_line, frame_shows, no_frame, is_waiting, waiting_shows, takes, lines_after, told_after, number_said, told_said}
use Rattle.fingerprint.specs.History.{kept_among, kept_bits}
use Rattle.fingerprint.specs.Paper.{held_answer}
use Rattle.container.specs.declared.Contents.{Contents}
use Rattle.laws.specs.declared.Video.{Video}
use Rattle.laws.specs.declared.Video.TheVariants.{Absent, One, Two}
use Rattle.container.specs.Bytes.{id_bytes, video_bytes, part_bytes, flag_byte, front_bytes, encode}
use Rattle.session.specs.Fingerprints.{with_blanks}
use Rattle.demands.specs.Calls.{Setup, Call, line, pack, Answer}
use Rattle.demands.specs.Paper.{bytes_due, bits_packed, every_holds, contents_said, line_said, said, paper, Program, transcript}
use Rattle.demands.specs.Demands.{Demand2}
use Rattle.demands.specs.Programs.{TellsAlways, Exchanges, ShowsAlways}
use Rattle.demands.proofs.Story.{Follows, room, room_length, rows, nothing, packed_as, At, start, row_number_0, row_at, pack_says, pack_at, contents_at, rows_at, frame_at}
use Rattle.demands.proofs.Shots.{dark, dark_length, monos, u, is_accepted}
use Rattle.demands.proofs.Against.{meets, as_said, follows}

-- ---- One that refuses everything, one that hands the session back untouched

module _ (p : Program) (d : Demand2 p) where
  -- the first row of the first frame is accepted
  pub first_row : (said u (transcript p u []) (line 117 dark)).number ≡ 0
  first_row =
      let g = follows p d is_accepted in
      row_number_0 g (start g) 0 (omega arith) refl refl dark dark_length

  -- and then it is not the line expected
  pub not_again : (said u (transcript p u (line 117 dark ∷ [])) (line 117 dark)).number ≡ 4
  unfolding said line_said number_said line_number order_number next_line next_field due_line monitored among interlaced row_of named table is_waiting
  not_again =
      let g = follows p d is_accepted in
      let o = row_at g (start g) 0 (omega arith) refl refl dark dark_length in
      rw (o.taken, dark_length) refl

-- ---- A third frame, as the first or unlike it

has_video : Video → Bool
has_video Absent = false
has_video (One a) = true
has_video (Two a b) = true

One≢Absent : (w : ℕ) → One w ≡ Absent → ⊥
unfolding has_video
One≢Absent w e = false≢true (sym (ap has_video e))

-- a white line, and the 60 bytes of each
unfoldable pub bright : List ℕ
bright = replicate 2560 255

bright_length : length bright ≡ 2560
unfolding bright
bright_length = length-replicate {A = ℕ} 2560 255

dark_pixels : pixels (row_of 2) dark ≡ replicate 60 0
unfolding dark pixels firsts pixel_by mean_of tap_sum sample_at row_of named table
dark_pixels = refl

bright_pixels : pixels (row_of 2) bright ≡ replicate 60 255
unfolding bright pixels firsts pixel_by mean_of tap_sum sample_at row_of named table
bright_pixels = refl

-- the lines of two frames of y and a third of x
abbrev shot : List ℕ → List ℕ → List (List ℕ)
shot x y = replicate 16 x ++ (replicate 16 y ++ (replicate 16 y ++ []))

-- after two frames of the line y, a third of b tells the fingerprint w, m pixels brighter and l darker
pub record Gives (y b : List ℕ) (w m l : ℕ) : Type 0 where
  pub before : length y ≡ 2560
  pub long : length b ≡ 2560
  pub tells : field_tells (fields (shot (pixels (row_of 2) b) (pixels (row_of 2) y))) ≡ Value w m l

-- black after black, white after black, black after white
pub gives_0 : Gives dark dark 0 0 0
unfolding field_tells fields joined compared fingerprint_of brighter_in darker_in count_of is_brighter is_darker difference
gives_0 = record { before = dark_length; long = dark_length; tells = ap (λ (x : List ℕ). field_tells (fields (shot x x))) dark_pixels }

pub gives_brighter : Gives dark bright 240 960 0
unfolding field_tells fields joined compared fingerprint_of brighter_in darker_in count_of is_brighter is_darker difference
gives_brighter = record {
  before = dark_length;
  long = bright_length;
  tells = ap₂ (λ (x y : List ℕ). field_tells (fields (shot x y))) bright_pixels dark_pixels;
}

pub gives_darker : Gives bright dark 240 0 960
unfolding field_tells fields joined compared fingerprint_of brighter_in darker_in count_of is_brighter is_darker difference
gives_darker = record {
  before = bright_length;
  long = dark_length;
  tells = ap₂ (λ (x y : List ℕ). field_tells (fields (shot x y))) dark_pixels bright_pixels;
}

last_taken : takes 2 597 0 ≡ true
unfolding takes monitored among interlaced row_of named table
last_taken = refl

no_bits : every_holds (interval_of 3) (bits_packed 3 0) (bytes_due 3 0) nothing 0 (monos 1) ≡ false
unfolding every_holds held_answer kept_bits kept_among interval_of bits_packed bytes_due cadence cadences
no_bits = refl

-- two frames of the line y, packed; then k rows of a third of the line b
abbrev pub shooting : List ℕ → List ℕ → ℕ → List Call
shooting y b k = rows b k (pack [] room ∷ rows y 16 (pack [] room ∷ rows y 16 []))

-- the container with the value: 00 02 04 32 09, the value, the checksum
abbrev shown : ℕ → Contents
shown w =
    record {
      counter = 2;
      rate = 3;
      hasid = false;
      id = replicate 20 0;
      video = One w;
      count = 0;
      prints = with_blanks [];
    }

module _ (p : Program) (d : Demand2 p) {y b : List ℕ} {w m l : ℕ} (k : Gives y b w m l) where
  abbrev g : Follows 1 3 (monos 1) p
  g = follows p d is_accepted

  two_frames : At g (pack [] room ∷ rows y 16 (pack [] room ∷ rows y 16 []))
      (replicate 16 (pixels (row_of 2) y) ++ (replicate 16 (pixels (row_of 2) y) ++ [])) no_frame nothing 2 0
  unfolding is_waiting
  two_frames =
      let one = pack_at g (frame_at g (start g) refl y k.before) refl false no_bits in
      pack_at g (frame_at g one refl y k.before) refl false no_bits

  -- the 16th row tells the field's fingerprint and counts
  pub told_last : (p u (transcript p u (shooting y b 15)) (line 597 b)).told ≡ Value w m l
  unfolding said line_said told_said told_after lines_after line_tells
  told_last =
      let o = rows_at g two_frames refl b k.long 15 (omega arith) in
      let z = row_number_0 g o 15 (omega arith) refl refl b k.long in
      ap (λ (a : Answer). a.told) (as_said p d u is_accepted (shooting y b 15) (line 597 b)) ∙ rw (z, last_taken, o.taken) k.tells

  -- and the container has it
  last_at : contents_said u (transcript p u (shooting y b 16)) [] ≡ shown w
  unfolding waiting_shows frame_shows shown_one interlaced row_of named table
  last_at = contents_at g (frame_at g two_frames refl b k.long) false no_bits ∙ rw k.tells refl

  pub packed_last : p u (transcript p u (shooting y b 16)) (pack [] room) ≡ packed_as (encode (shown w))
  unfolding is_waiting
  packed_last =
      as_said p d u is_accepted (shooting y b 16) (pack [] room)
      ∙ (pack_says g (frame_at g two_frames refl b k.long) refl ∙ ap (λ (c : Contents). packed_as (encode c)) last_at)

  pub paper_last : (paper u (transcript p u (shooting y b 15)) (line 597 b)).told ≡ Value w m l
  paper_last = ap (λ (a : Answer). a.told) (sym (meets p d u (shooting y b 15) (line 597 b))) ∙ told_last

-- so the counts cannot change places unless they are equal
pub exchanged_is : (p : Program) (d : Demand2 p) {y b : List ℕ} {w m l : ℕ} → Gives y b w m l → Exchanges p → l ≡ m
unfolding told_values
exchanged_is p d {y} {b} {w} {m} {l} k f =
    ap (λ (t : Told). get_or (told_values t) 1 0) (sym (f u (shooting y b 15) (line 597 b) w m l (paper_last p d k)) ∙ told_last p d k)

-- and a constant that a program has to tell or to show is that value
module _ (p : Program) (d : Demand2 p) (v : Setup → ℕ) {y b : List ℕ} {w m l : ℕ} (k : Gives y b w m l) where
  pub told_is : (i : ℕ) → TellsAlways i v p → v u ≡ get_or (w ∷ m ∷ l ∷ []) i 0
  unfolding told_values
  told_is i f =
      sym (f u (shooting y b 15) (line 597 b) w m l (paper_last p d k)) ∙ ap (λ (t : Told). get_or (told_values t) i 0) (told_last p d k)

  pub shown_is : ShowsAlways v p → v u ≡ w
  unfolding over encode front_bytes flag_byte part_bytes id_bytes video_bytes
  shown_is f =
      let es = transcript p u (shooting y b 16) in
      let a : p u es (pack [] room) ≡ packed_as (encode (shown w)) = packed_last p d k in
      let some : (contents_said u es []).video ≡ Absent → ⊥ = λ e. One≢Absent w (sym (ap (λ (c : Contents). c.video) (last_at p d k)) ∙ e) in
      sym (f u (shooting y b 16) room some (rw room_length (omega arith)) (ap (λ (x : Answer). x.number) a)) ∙ ap (λ (x : Answer). get_or x.out 5 0) a
