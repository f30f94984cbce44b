-- Records one after the other: "one byte tag, two bytes length with the high byte first, the payload" (FEED).
use Rattle.std.specs.Prelude.{ℕ, ◌+◌, ◌-◌, ◌*◌, List, cond, length, get_or, leb, ltb}
use Rattle.records.specs.declared.Record.{Record}
use Rattle.records.specs.declared.Record.TheVariants.{Whole, Cut, End}

-- the byte at a place, 0 past the end
unfoldable pub byte_at : List ℕ → ℕ → ℕ
byte_at s at = get_or s at 0

-- two bytes, the high byte first
unfoldable pub pair_at : List ℕ → ℕ → ℕ
pair_at s at = 256 * byte_at s at + byte_at s (at + 1)

-- no byte left; fewer than the tag and the length; fewer than the length says; or the tag, and where the payload starts and ends
unfoldable pub record_at : List ℕ → ℕ → Record
record_at s at =
    cond (leb (length s) at)
    End
    (cond (ltb (length s - at) 3)
    Cut
    (cond (ltb (length s - (at + 3)) (pair_at s (at + 1)))
    Cut
    (Whole (byte_at s at) (at + 3) (at + 3 + pair_at s (at + 1)))))
