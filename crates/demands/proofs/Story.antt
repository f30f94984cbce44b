-- Small runs, to hold wrong programs against: 720p at any rate by any rule with any mix types, frames of one and the same line, each packed into 254 bytes.
-- Of any program that gives document 01's numbers: the histories after its calls.
use Prim.Native.Nat.{ℕ, zero, suc, ◌+◌, ◌*◌, ◌%◌, ◌≤◌, ◌<◌}
use mathlib.Core.Path.{◌≡◌, refl, sym, ap, ◌∙◌}
use mathlib.Core.Bool.{Bool, true, false, cond, ◌&&◌, not}
use mathlib.Core.List.{List, [], ◌∷◌, ◌++◌}
use native.Mathlib.Omega.{arith}
use lib.Dec.{eqb}
use lib.ListN.{length, get_or, replicate, length-append, length-replicate}
use borrow.Author.Tests.{eqb-true, eqb-false, eq-eqb, ne_eqb, le-leb, lt-leb, le-ltb}
use Rattle.laws.specs.Calls.{over, room_number, done_with, out_with}
use Rattle.rates.specs.Rates.{interval_of}
use Rattle.sampling.specs.Formats.{table, named, row_of}
use Rattle.sampling.specs.Samples.{pixels}
use Rattle.picture.specs.declared.Told.TheVariants.{Open}
use Rattle.picture.specs.Lines.{interlaced, monitored, due_line, order_number, line_number}
use Rattle.picture.specs.History.{fields, next_field, next_line, starts_frame, frame_shows, Waiting, no_frame, a_frame, is_waiting, waiting_shows, takes, lines_after, waiting_after, number_said}
use Rattle.picture.proofs.Steps.{next_monitored}
use Rattle.fingerprint.specs.State.{values_of}
use Rattle.fingerprint.specs.Paper.{sound_answer}
use Rattle.container.specs.Bytes.{encode}
use Rattle.container.specs.Writing.{write_number, write_done, write_out}
use Rattle.container.proofs.Bytes.{at_most_254}
use Rattle.session.specs.Fingerprints.{with_blanks}
use Rattle.session.specs.Packing.{id_of, ready_number}
use Rattle.demands.specs.Calls.{Setup, Call, line, sound, pack, Answer, Event}
use Rattle.demands.specs.Paper.{lines_at, lines, waiting_at, waiting, samples_at, samples, made_at, made, bytes_due, bits_packed, every_holds, audio_after, sounded_at, sounded, prints_said, audio_said, contents_said, line_said, sound_said, packed_said, said, accepted, paper, Program, transcript}
use Rattle.demands.proofs.Listed.{listed}
use Rattle.demands.proofs.Packable.{said_sized, said_writes}

abbrev pub hd : ℕ → ℕ → List ℕ → Setup
hd rule rate mixes = record { format = 2; rate = rate; rule = rule; mixes = mixes }

-- in such a setup, if it is accepted, the program gives document 01's numbers
pub record Follows (rule rate : ℕ) (mixes : List ℕ) (p : Program) : Type 0 where
  pub accepts : accepted (hd rule rate mixes) ≡ true
  pub numbers : (cs : List Call) (c : Call)
      → (p (hd rule rate mixes) (transcript p (hd rule rate mixes) cs) c).number ≡ (paper (hd rule rate mixes) (transcript p (hd rule rate mixes) cs) c).number

-- room for any container
unfoldable pub room : List ℕ
room = replicate 254 0

pub room_length : length room ≡ 254
unfolding room
room_length = length-replicate {A = ℕ} 254 0

-- an answer with these bytes in it
abbrev pub packed_as : List ℕ → Answer
packed_as bytes = record { number = 0; told = Open; written = length bytes; out = over bytes room }

-- the first k rows of a frame of the line b, after the calls cs
unfoldable pub rows : List ℕ → ℕ → List Call → List Call
rows b zero cs = cs
rows b (suc k) cs = line (117 + 32 * k) b ∷ rows b k cs

pub paper_is : (u : Setup) → accepted u ≡ true → (es : List Event) (c : Call) → paper u es c ≡ said u es c
unfolding paper
paper_is u a es c = rw a refl

-- what each fingerprint has heard: nothing yet, and a block more for fingerprint j
abbrev pub nothing : ℕ → ℕ → List ℕ
nothing mix k = []

unfoldable pub hears : ℕ → ℕ → List ℕ → (ℕ → ℕ → List ℕ) → ℕ → ℕ → List ℕ
hears rule j b h mix k = cond (eqb j k) (values_of rule mix b ++ h mix k) (h mix k)

-- ---- a row

next_is : (ls : List (List ℕ)) → next_line 2 ls ≡ 117 + 32 * (length ls % 16)
unfolding next_line next_field due_line interlaced row_of named table
next_is ls = refl

module _ (ls : List (List ℕ)) (k : ℕ) (small : k < 16) (at : length ls % 16 ≡ k) where
  due_is : next_line 2 ls ≡ 117 + 32 * k
  due_is = next_is ls ∙ ap (λ (x : ℕ). 117 + 32 * x) at

  row_takes : takes 2 (117 + 32 * k) 0 ≡ true
  unfolding takes
  row_takes = ap (monitored (row_of 2)) (sym due_is) ∙ next_monitored 2 ls

  row_number : (b : List ℕ) → length b ≡ 2560 → number_said 2 ls no_frame (117 + 32 * k) b ≡ 0
  unfolding number_said line_number order_number row_of named table is_waiting
  row_number b l =
      let n : ℕ = 117 + 32 * k in
      rw (l, le-leb 1 n (omega arith), le-leb n 750 (omega arith), due_is, eq-eqb n n refl) (go (monitored (row_of 2) n))
    where
      go : (t : Bool) → ◌≡◌ {A = ℕ} (cond (t && not true) 4 0) 0
      go true = refl
      go false = refl

  row_starts : (px : List ℕ) → starts_frame 2 (px ∷ ls) ≡ eqb k 15
  unfolding starts_frame next_field interlaced row_of named table
  row_starts px = go (eqb k 15) refl
    where
      go : (t : Bool) → eqb k 15 ≡ t → eqb (suc (length ls) % 16) 0 ≡ t
      go true e = let z = eqb-true k 15 e in eq-eqb (suc (length ls) % 16) 0 (omega arith)
      go false e = let z = eqb-false k 15 e in ne_eqb (suc (length ls) % 16) 0 (omega arith)

-- ---- Pack: every container fits
fits : (u : Setup) → accepted u ≡ true → (es : List Event) → length (encode (contents_said u es [])) ≤ 254
fits u a es = at_most_254 (contents_said u es []) (said_sized u (listed u a) es [])

-- ---- the histories after the calls cs
module _ {rule rate : ℕ} {mixes : List ℕ} {p : Program} (g : Follows rule rate mixes p) where
  abbrev u : Setup
  u = hd rule rate mixes

  abbrev pub T : List Call → List Event
  T cs = transcript p u cs

  pub record At (cs : List Call) (ls : List (List ℕ)) (w : Waiting) (h : ℕ → ℕ → List ℕ) (m q : ℕ) : Type 0 where
    pub taken : lines 2 (T cs) ≡ ls
    pub waits : waiting 2 (T cs) ≡ w
    pub heard : samples rule (T cs) ≡ h
    pub packed : made (T cs) ≡ m
    pub spoken : sounded u (T cs) ≡ q

  pub start : At [] [] no_frame nothing 0 0
  unfolding transcript lines waiting samples made sounded
  start = record { taken = refl; waits = refl; heard = refl; packed = refl; spoken = refl }

  pub number_is : (cs : List Call) (c : Call) → (p u (T cs) c).number ≡ (said u (T cs) c).number
  number_is cs c = g.numbers cs c ∙ ap (λ (a : Answer). a.number) (paper_is u g.accepts (T cs) c)

  module _ {cs : List Call} {ls : List (List ℕ)} {w : Waiting} {h : ℕ → ℕ → List ℕ} {m q : ℕ} (o : At cs ls w h m q) where
    -- a block that fingerprint j takes
    module _ (j : ℕ) (l : j < length mixes) (b : List ℕ) (e : sound_answer (get_or mixes j 0) (interval_of rate) (h (get_or mixes j 0) j) (bits_packed rate q) b ≡ 0) where
      pub sound_0 : (p u (T cs) (sound j b)).number ≡ 0
      unfolding said sound_said
      sound_0 = number_is cs (sound j b) ∙ rw (lt-leb (length mixes) j l, o.heard, o.spoken) e

      pub sound_at : At (sound j b ∷ cs) ls w (hears rule j b h) m q
      unfolding transcript lines lines_at waiting waiting_at samples samples_at made made_at sounded sounded_at hears
      sound_at =
          let one_more : samples rule (T (sound j b ∷ cs)) ≡ hears rule j b (samples rule (T cs)) = rw sound_0 refl in
          record { taken = o.taken; waits = o.waits; heard = one_more ∙ ap (hears rule j b) o.heard; packed = o.packed; spoken = o.spoken }

    -- the next row, while no frame waits
    pub row_number_0 : (k : ℕ) → k < 16 → length ls % 16 ≡ k → w ≡ no_frame → (b : List ℕ) → length b ≡ 2560 → (said u (T cs) (line (117 + 32 * k) b)).number ≡ 0
    unfolding said line_said
    row_number_0 k small at free b l = rw (o.taken, o.waits, free) (row_number ls k small at b l)

    pub row_at : (k : ℕ) → k < 16 → length ls % 16 ≡ k → w ≡ no_frame → (b : List ℕ) → length b ≡ 2560
        → At (line (117 + 32 * k) b ∷ cs) (pixels (row_of 2) b ∷ ls)
        (cond (eqb k 15) (a_frame (frame_shows 2 (fields (pixels (row_of 2) b ∷ ls)))) no_frame) h m q
    unfolding transcript lines lines_at lines_after waiting waiting_at waiting_after samples samples_at made made_at sounded sounded_at
    row_at k small at free b l =
        let z = number_is cs (line (117 + 32 * k) b) ∙ row_number_0 k small at free b l in
        let t = row_takes ls k small at in
        record {
          taken = rw (z, t, o.taken) refl;
          waits = rw (z, t, o.taken, row_starts ls k small at (pixels (row_of 2) b), o.waits, free) refl;
          heard = o.heard;
          packed = o.packed;
          spoken = o.spoken;
        }

    -- the frame that waits is packed, with audio or without
    pub pack_says : is_waiting w ≡ true → said u (T cs) (pack [] room) ≡ packed_as (encode (contents_said u (T cs) []))
    unfolding said packed_said ready_number write_done write_out write_number done_with out_with room_number
    pack_says e =
        let c = contents_said u (T cs) [] in
        let n = said_writes u (listed u g.accepts) (T cs) [] in
        rw (o.waits, e, n, room_length, le-ltb 254 (length (encode c)) (fits u g.accepts (T cs))) refl

    pub packs : is_waiting w ≡ true → (p u (T cs) (pack [] room)).number ≡ 0
    packs e = number_is cs (pack [] room) ∙ ap (λ (a : Answer). a.number) (pack_says e)

    pub audio_is : (t : Bool) → every_holds (interval_of rate) (bits_packed rate q) (bytes_due rate q) h 0 mixes ≡ t → audio_after u (sounded u (T cs)) (T cs) ≡ t
    unfolding audio_after
    audio_is t a = rw (o.heard, o.spoken) a

    pub pack_at : is_waiting w ≡ true → (t : Bool) → every_holds (interval_of rate) (bits_packed rate q) (bytes_due rate q) h 0 mixes ≡ t
        → At (pack [] room ∷ cs) ls no_frame h (m + 1) (cond t (suc q) q)
    unfolding transcript lines lines_at waiting waiting_at samples samples_at made made_at sounded sounded_at
    pack_at e t a = record {
      taken = o.taken;
      waits = rw (packs e) refl;
      heard = o.heard;
      packed = rw (packs e, o.packed) refl;
      spoken = rw (packs e, audio_is t a, o.spoken) refl;
    }

    -- what it says: no ID is lent
    pub contents_at : (t : Bool) → every_holds (interval_of rate) (bits_packed rate q) (bytes_due rate q) h 0 mixes ≡ t
        → contents_said u (T cs) [] ≡ record {
          counter = m % 256;
          rate = rate;
          hasid = false;
          id = replicate 20 0;
          video = waiting_shows w;
          count = cond t (length mixes) 0;
          prints = with_blanks (cond t (prints_said (interval_of rate) (bits_packed rate q) (bytes_due rate q) h 0 mixes) []);
        }
    unfolding contents_said audio_said id_of
    contents_at t a = rw (audio_is t a, o.waits, o.packed, o.spoken, o.heard) refl

  -- a frame of the line b
  module _ {cs : List Call} {ls : List (List ℕ)} {h : ℕ → ℕ → List ℕ} {m q : ℕ} (o : At cs ls no_frame h m q) (at : length ls % 16 ≡ 0) (b : List ℕ) (l : length b ≡ 2560) where
    abbrev px : List ℕ
    px = pixels (row_of 2) b

    at_row : (k : ℕ) → k < 16 → length (replicate k px ++ ls) % 16 ≡ k
    at_row k small = ap (λ (x : ℕ). x % 16) (length-append (replicate k px) ls ∙ ap (λ (x : ℕ). x + length ls) (length-replicate k px)) ∙ omega arith

    pub rows_at : (k : ℕ) → k < 16 → At (rows b k cs) (replicate k px ++ ls) no_frame h m q
    unfolding rows
    rows_at zero small = o
    rows_at (suc k) small =
        let r = row_at (rows_at k (omega arith)) k (omega arith) (at_row k (omega arith)) refl b l in
        rw (ne_eqb k 15 (omega arith)) at r

    pub frame_at : At (rows b 16 cs) (replicate 16 px ++ ls) (a_frame (frame_shows 2 (fields (replicate 16 px ++ ls)))) h m q
    unfolding rows
    frame_at = row_at (rows_at 15 (omega arith)) 15 (omega arith) (at_row 15 (omega arith)) refl b l
