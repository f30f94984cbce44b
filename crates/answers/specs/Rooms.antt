-- The room that a record asks for (FEED).
use Rattle.std.specs.Prelude.{ℕ, ◌+◌, List, Result, Ok, Err, cond, length, leb}
use Rattle.records.specs.Records.{pair_at}
use Rattle.answers.specs.declared.Cause.{Cause}
use Rattle.answers.specs.declared.Cause.TheVariants.{TooShort, RoomAbove}

-- a `u16 room` at a place of the payload: "`room` is at most 4,096"
unfoldable pub room_at : List ℕ → ℕ → Result ℕ Cause
room_at p at =
    cond (leb (at + 2) (length p))
    (cond (leb (pair_at p at) 4096)
    (Ok (pair_at p at))
    (Err RoomAbove))
    (Err TooShort)
