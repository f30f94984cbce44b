-- Document 01 on video, over plain histories: the lines taken since setup or the last video restart, as their 60 bytes each, and the frame that waits to be
-- packed. No slot stands here. Histories are newest first.
use Rattle.std.specs.Prelude.{ℕ, ◌+◌, ◌%◌, Bool, true, false, cond, ◌&&◌, List, [], ◌∷◌, ◌++◌, eqb, length, take, drop}
use Rattle.sampling.specs.Formats.{row_of}
use Rattle.sampling.specs.Samples.{pixels}
use Rattle.picture.specs.declared.Told.{Told}
use Rattle.picture.specs.declared.Told.TheVariants.{Open, Nothing}
use Rattle.laws.specs.declared.Video.{Video}
use Rattle.laws.specs.declared.Video.TheVariants.{Absent}
use Rattle.picture.specs.Fields.{compared, told_fingerprint}
use Rattle.picture.specs.Lines.{interlaced, monitored, due_line, line_number}
use Rattle.picture.specs.Pictures.{shown_one, shown_two}

-- ---- Lines and fields

-- lines as one list of bytes, top to bottom
unfoldable pub joined : List (List ℕ) → List ℕ
joined [] = []
joined (l ∷ ls) = joined ls ++ l

-- the fields that the lines make, 960 bytes each: "The 16th line ends the field"
unfoldable pub fields : List (List ℕ) → List (List ℕ)
fields [] = []
fields (l ∷ ls) = cond (eqb (length (l ∷ ls) % 16) 0) (joined (take 16 (l ∷ ls)) ∷ fields ls) (fields ls)

-- what the newest field tells: "Each byte is compared with that of the second preceding field"; "The first two fields .. give no fingerprint"
unfoldable pub field_tells : List (List ℕ) → Told
field_tells [] = Nothing
field_tells (f ∷ []) = Nothing
field_tells (f ∷ g ∷ []) = Nothing
field_tells (f ∷ g ∷ h ∷ fs) = compared f h

-- what the newest line tells: "The line that ends a field also tells its fingerprint, or that it has none"
unfoldable pub line_tells : List (List ℕ) → Told
line_tells ls = cond (eqb (length ls % 16) 0) (field_tells (fields ls)) Open

-- ---- The line expected

-- the field of the next line: "field 1 before field 2"
unfoldable pub next_field : ℕ → List (List ℕ) → ℕ
next_field f ls = cond (interlaced (row_of f)) (length (fields ls) % 2 + 1) 1

-- its number, and whether it is the first of a frame
unfoldable pub next_line : ℕ → List (List ℕ) → ℕ
next_line f ls = due_line (row_of f) (next_field f ls) (length ls % 16)

unfoldable pub starts_frame : ℕ → List (List ℕ) → Bool
starts_frame f ls = eqb (next_field f ls) 1 && eqb (length ls % 16) 0

-- ---- Frames

-- what the newest frame shows: "exactly when the frame gave a fingerprint for each of its fields"
unfoldable pub frame_shows : ℕ → List (List ℕ) → Video
frame_shows f fs = cond (interlaced (row_of f)) (shown_two (shown_one (field_tells (drop 1 fs))) (field_tells fs)) (shown_one (field_tells fs))

-- the fingerprints that its fields gave
unfoldable pub frame_gave : ℕ → List (List ℕ) → List ℕ
frame_gave f fs = cond (interlaced (row_of f)) (told_fingerprint (field_tells (drop 1 fs)) ++ told_fingerprint (field_tells fs)) (told_fingerprint (field_tells fs))

-- the frame that waits to be packed
pub data Waiting : Type 0 where
  no_frame : Waiting
  a_frame : Video → Waiting

unfoldable pub is_waiting : Waiting → Bool
is_waiting no_frame = false
is_waiting (a_frame s) = true

unfoldable pub waiting_shows : Waiting → Video
waiting_shows no_frame = Absent
waiting_shows (a_frame s) = s

-- ---- One line more, of number n and bytes b, answered with a number

-- it is taken: accepted, and monitored
unfoldable pub takes : ℕ → ℕ → ℕ → Bool
takes f n number = eqb number 0 && monitored (row_of f) n

unfoldable pub lines_after : ℕ → ℕ → List ℕ → ℕ → List (List ℕ) → List (List ℕ)
lines_after f n b number ls = cond (takes f n number) (pixels (row_of f) b ∷ ls) ls

-- ls are the lines with the new one: "A frame is ready when its last field has ended"
unfoldable pub waiting_after : ℕ → ℕ → ℕ → List (List ℕ) → Waiting → Waiting
waiting_after f n number ls w = cond (takes f n number && starts_frame f ls) (a_frame (frame_shows f (fields ls))) w

-- what it tells
unfoldable pub told_after : ℕ → ℕ → ℕ → List (List ℕ) → Told
told_after f n number ls = cond (takes f n number) (line_tells ls) Open

-- ---- What document 01 says that line n with bytes b answers after the lines ls, with w waiting

unfoldable pub number_said : ℕ → List (List ℕ) → Waiting → ℕ → List ℕ → ℕ
number_said f ls w n b = line_number f (next_line f ls) (is_waiting w) n (length b)

unfoldable pub told_said : ℕ → List (List ℕ) → ℕ → ℕ → List ℕ → Told
told_said f ls number n b = told_after f n number (lines_after f n b number ls)
