-- A frame gives a fingerprint for all of its fields or for none, and shows every one that its fields gave.
use Prim.Native.Nat.{ℕ, ◌%◌}
use mathlib.Core.Path.{◌≡◌}
use mathlib.Core.Bool.{true}
use mathlib.Core.List.{List, ◌∷◌}
use lib.Dec.{eqb}
use lib.ListN.{length, drop}
use Rattle.picture.specs.Fields.{told_fingerprint}
use Rattle.laws.specs.Video.{video_values}
use Rattle.laws.proofs.Tests.{chosen}
use Rattle.picture.specs.Changed.{Sums}
use Rattle.picture.specs.History.{fields, field_tells, starts_frame, frame_gave, is_waiting, waiting_shows, takes, lines_after, waiting_after, line_tells, told_after, number_said, told_said}
use Rattle.picture.proofs.Answers as picture
use Rattle.picture.proofs.Sizes.{Each, fields_sized, tells_sums}
use Rattle.session.specs.Packing.{ready_number}
use Rattle.demands.proofs.Packable.{lines_sized}
use Rattle.demands.specs.Calls.{Setup, Call, line, sound, instant, pack, video_restart, audio_restart, Answer, saying, Event}
use Rattle.demands.specs.Paper.{lines, lines_at, waiting, waiting_at, line_said, packed_said, said, said_empty, accepted, paper}

-- after any events each finished field has 960 bytes, so that no byte is left out of a comparison
pub fields_960 : (f : ℕ) (es : List Event) → Each 960 (fields (lines f es))
fields_960 f es = fields_sized (lines_sized f es)

-- the two fields of a frame, newest first in the list of fields
pub all_or_none : (fs : List (List ℕ)) → length fs % 2 ≡ 0 → length (told_fingerprint (field_tells (drop 1 fs))) ≡ length (told_fingerprint (field_tells fs))
all_or_none fs e = picture.all_or_none fs e

-- after any events, the line that ends a frame leaves a frame to be packed that shows all the fingerprints of its fields
pub frame_shows_all : (f : ℕ) (es : List Event) (n : ℕ) (b : List ℕ) (a : Answer)
    → let xs : List Event = record { call = line n b; answer = a } ∷ es in
    takes f n a.number ≡ true → starts_frame f (lines f xs) ≡ true → video_values (waiting_shows (waiting f xs)) ≡ frame_gave f (fields (lines f xs))
unfolding waiting waiting_at waiting_after waiting_shows
frame_shows_all f es n b a t s = rw (t, s) (picture.shows_all f _ s)

-- whatever the events before it, what a call is told has a fingerprint only with its two counts, of which it is a quarter (02, A1)
pub told_sums : (u : Setup) (es : List Event) (c : Call) → Sums (paper u es c).told
unfolding paper said said_empty line_said told_said told_after line_tells packed_said lines lines_at
told_sums u es c = chosen (λ (a : Answer). Sums a.told) (accepted u) _ _ (λ _. listed c) (λ _. empty c)
  where
    lined : (n : ℕ) (b : List ℕ) → Sums (said u es (line n b)).told
    lined n b =
        let f : ℕ = u.format in
        let number : ℕ = number_said f (lines f es) (waiting f es) n b in
        let sized = fields_960 f (record { call = line n b; answer = saying number } ∷ es) in
        chosen Sums (takes f n number) _ _ (λ _. chosen Sums (eqb (length (lines_after f n b number (lines f es)) % 16) 0) _ _ (λ _. tells_sums sized) (λ _. tt)) (λ _. tt)

    listed : (c : Call) → Sums (said u es c).told
    listed (line n b) = lined n b
    listed (sound k b) = tt
    listed (instant k i) = tt
    listed (pack id out) =
        let number : ℕ = ready_number (is_waiting (waiting u.format es)) (length id) in
        chosen (λ (a : Answer). Sums a.told) (eqb number 0) _ _ (λ _. tt) (λ _. tt)
    listed video_restart = tt
    listed audio_restart = tt

    empty : (c : Call) → Sums (said_empty c).told
    empty (line n b) = tt
    empty (sound k b) = tt
    empty (instant k i) = tt
    empty (pack id out) = tt
    empty video_restart = tt
    empty audio_restart = tt
