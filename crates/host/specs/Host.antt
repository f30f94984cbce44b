-- Read container as the host calls it: what the container says, in the flat form's 283 bytes, into a lent buffer (01, What a caller is told).
use Rattle.std.specs.Prelude.{ℕ, List, length}
use Rattle.laws.specs.Calls.{room_number, done_with, out_with}
use Rattle.laws.specs.declared.Done.{Done}
use Rattle.container.specs.Reading.{reading}
use Rattle.flat.specs.Flat.{flat}

unfoldable pub flat_of : List ℕ → List ℕ
flat_of s = flat (reading s).contents

-- "20 .. 28", then 12
unfoldable pub read_number : List ℕ → ℕ → ℕ
read_number s room = room_number (reading s).number (flat_of s) room

unfoldable pub read_done : List ℕ → ℕ → Done
read_done s room = done_with (read_number s room) (flat_of s)

unfoldable pub read_out : List ℕ → List ℕ → List ℕ
read_out s out = out_with (read_number s (length out)) (flat_of s) out
