-- Mend (02, A8): "Refusals: 51 longer than 65,536, then 50, .. then 12"; "The output is the kept fields joined".
use Rattle.std.specs.Prelude.{ℕ, List, length, leb}
use Rattle.laws.specs.Calls.{unless, room_number, done_with, out_with}
use Rattle.laws.specs.declared.Done.{Done}
use Rattle.mending.specs.Fields.{any_field}
use Rattle.mending.specs.Parts.{parts_of, joined}

unfoldable pub mended : List ℕ → List ℕ
mended s = joined (parts_of s)

-- "51 longer than 65,536, then 50, given exactly when no place in the input starts an acceptable field", or 0
unfoldable pub recording_number : List ℕ → ℕ
recording_number s =
    unless (leb (length s) 65536) 51
    (unless (any_field s) 50
    0)

-- "then 12"
unfoldable pub mend_number : List ℕ → ℕ → ℕ
mend_number s room = room_number (recording_number s) (mended s) room

unfoldable pub mend_done : List ℕ → ℕ → Done
mend_done s room = done_with (mend_number s room) (mended s)

unfoldable pub mend_out : List ℕ → List ℕ → List ℕ
mend_out s out = out_with (mend_number s (length out)) (mended s) out
