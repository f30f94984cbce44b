-- A picture by value, and what each call makes of it (01, "Video").
use Rattle.std.specs.Prelude.{ℕ, ◌+◌, ◌*◌, Bool, true, false, cond, ◌&&◌, not, List, [], ◌++◌, ltb, eqb, length, take, drop, replicate, Result, Ok, Err}
use Rattle.sampling.specs.Formats.{row_of}
use Rattle.sampling.specs.Samples.{pixels}
use Rattle.picture.specs.declared.Told.{Told}
use Rattle.picture.specs.declared.Told.TheVariants.{Open, Nothing, Value}
use Rattle.laws.specs.declared.Video.{Video}
use Rattle.laws.specs.declared.Video.TheVariants.{Absent, One, Two}
use Rattle.picture.specs.declared.Frame.{Frame}
use Rattle.picture.specs.declared.Picture.{Picture}
use Rattle.laws.specs.Video.{video_values}
use Rattle.laws.specs.declared.Refusal.{Refusal}
use Rattle.laws.specs.Refusals.{number_of}
use Rattle.picture.specs.Fields.{compared_values, told_by, held_after, Says}
use Rattle.picture.specs.Lines.{interlaced, due_line, judged_number}

-- what Line tells: 01's number, what the line tells, and the picture after it
pub record Scanned : Type 0 where
  pub number : ℕ
  pub told : Told
  pub picture : Picture

-- the same of an answer, with the picture that it leaves; a refusal tells nothing of a field
abbrev pub scanned : Result Told Refusal → Picture → Scanned
scanned (Ok told) p = record { number = 0; told = told; picture = p }
scanned (Err why) p = record { number = number_of why; told = Open; picture = p }

abbrev pub told_in : Result Told Refusal → Told
told_in (Ok told) = told
told_in (Err why) = Open

-- what handing a frame out gives: the picture after it, and what the frame shows
pub record Handed : Type 0 where
  pub picture : Picture
  pub shown : Video

abbrev pub handed_with : Video → Picture → Handed
handed_with shown p = record { picture = p; shown = shown }

-- "Video is present exactly when the frame gave a fingerprint for each of its fields"
unfoldable pub shown_one : Told → Video
shown_one Open = Absent
shown_one Nothing = Absent
shown_one (Value v b k) = One v

unfoldable pub shown_two : Video → Told → Video
shown_two Absent t = Absent
shown_two (One v) Open = Absent
shown_two (One v) Nothing = Absent
shown_two (One v) (Value w b k) = Two v w
shown_two (Two v w) t = Absent

-- nothing is held, and field 1 is expected; a frame that waits to be packed is given
abbrev pub empty_with : Bool → Video → Picture
empty_with ready shown = record {
  older = replicate 960 0;
  newer = replicate 960 0;
  filling = replicate 960 0;
  row = 0;
  held = 0;
  frame = record { field = 1; first = Absent; ready = ready; shown = shown };
}

unfoldable pub fresh_picture : Picture
fresh_picture = empty_with false Absent

unfoldable pub is_ready : Picture → Bool
is_ready p = p.frame.ready

-- "A video restart forgets the history and everything of a frame not yet ready, a finished field 1 included, and expects field 1; a ready frame stays ready"
unfoldable pub restarted : Picture → Picture
restarted p = empty_with p.frame.ready p.frame.shown

-- a picture with another frame
abbrev pub with_frame : Picture → Frame → Picture
with_frame p f = record { older = p.older; newer = p.newer; filling = p.filling; row = p.row; held = p.held; frame = f }

-- the ready frame is packed
unfoldable pub handed_out : Picture → Handed
handed_out p =
    cond p.frame.ready
    (record {
      picture = with_frame p (record { field = p.frame.field; first = p.frame.first; ready = false; shown = Absent });
      shown = p.frame.shown;
    })
    (record { picture = p; shown = Absent })

-- "A frame is ready when its last field has ended"
unfoldable pub frame_after : Frame → Told → Bool → Frame
frame_after f told two =
    cond two
    (cond (eqb f.field 1)
    (record { field = 2; first = shown_one told; ready = false; shown = Absent })
    (record { field = 1; first = Absent; ready = true; shown = shown_two f.first told }))
    (record { field = 1; first = Absent; ready = true; shown = shown_one told })

-- row k of a field is put in its place
unfoldable pub with_row : List ℕ → ℕ → List ℕ → List ℕ
with_row field k bytes = take (k * 60) field ++ (bytes ++ drop (k * 60 + 60) field)

-- the field being filled has ended: it is compared with the older one, and takes the place of the newer one, which takes the place of the older one
unfoldable pub field_ended : Picture → List ℕ → Bool → Scanned
field_ended p field two = record {
  number = 0;
  told = told_by p.held field p.older;
  picture = record {
    older = p.newer;
    newer = field;
    filling = field;
    row = 0;
    held = held_after p.held;
    frame = frame_after p.frame (told_by p.held field p.older) two;
  };
}

-- the line that is due is taken: "The 16th line ends the field"
unfoldable pub taken : Picture → ℕ → List ℕ → Scanned
taken p f line =
    cond (ltb p.row 15)
    (record {
      number = 0;
      told = Open;
      picture = record {
        older = p.older;
        newer = p.newer;
        filling = with_row p.filling p.row (pixels (row_of f) line);
        row = p.row + 1;
        held = p.held;
        frame = p.frame;
      };
    })
    (field_ended p (with_row p.filling p.row (pixels (row_of f) line)) (interlaced (row_of f)))

-- the picture is left as it was
abbrev pub untouched : ℕ → Picture → Scanned
untouched number p = record { number = number; told = Open; picture = p }

-- a refusal's number for line n of len bytes, or 0
abbrev pub number_at : Picture → ℕ → ℕ → ℕ → ℕ
number_at p f n len = judged_number f p.frame.field p.row p.frame.ready n len

-- 01's call Line: refused; or the line that is due, which is taken; or one that is not monitored, which "is accepted and changes nothing"
unfoldable pub line_of : Picture → ℕ → ℕ → List ℕ → Scanned
line_of p f n line =
    cond (eqb (number_at p f n (length line)) 0)
    (cond (eqb n (due_line (row_of f) p.frame.field p.row)) (taken p f line) (untouched 0 p))
    (untouched (number_at p f n (length line)) p)

-- ---- What the answers say, with none of their cases

-- whether line n ends a field: it is accepted, it is the line that is due, and 15 are there before it
unfoldable pub ends_field : Picture → ℕ → ℕ → List ℕ → Bool
ends_field p f n line =
    eqb (number_at p f n (length line)) 0 && eqb n (due_line (row_of f) p.frame.field p.row) && not (ltb p.row 15)

-- what the field being filled gives, once this line is its last: "The first two fields .. give no fingerprint"
unfoldable pub field_gives : Picture → ℕ → List ℕ → List ℕ
field_gives p f line = cond (ltb p.held 2) [] (compared_values (with_row p.filling p.row (pixels (row_of f) line)) p.older)

unfoldable pub line_says : Picture → ℕ → ℕ → List ℕ → Says
line_says p f n line = record {
  number = number_at p f n (length line);
  ended = ends_field p f n line;
  values = cond (ends_field p f n line) (field_gives p f line) [];
}

-- the values of the frame that waits to be packed, if one waits
unfoldable pub handed_values : Picture → List ℕ
handed_values p = cond p.frame.ready (video_values p.frame.shown) []
