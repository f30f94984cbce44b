-- The numbers of a receiver's calls (02, A12: "Refusals"), from what they turn on: how far a container is ahead, and whether the one asked for is held.
use Rattle.std.specs.Prelude.{ℕ, ◌+◌, ◌-◌, ◌%◌, List, Bool, cond, ltb, eqb}
use Rattle.laws.specs.Calls.{unless, room_number}

-- "Let d be the arriving counter minus the expected one, modulo 256."
unfoldable pub ahead : ℕ → ℕ → ℕ
ahead counter expected = (counter + (256 - expected % 256)) % 256

-- "70 for d of 128 or more (late), 71 for d of 8 to 127 (too far), 72 already held", or 0
unfoldable pub place_number : ℕ → Bool → ℕ
place_number d held =
    unless (ltb d 128) 70
    (unless (ltb d 8) 71
    (cond held 72 0))

-- "20 to 28, then 70 .."
unfoldable pub arrive_number : ℕ → ℕ → Bool → ℕ
arrive_number read d held = cond (eqb read 0) (place_number d held) read

-- "Asking for the next: 73 it is not there", or 0
unfoldable pub there_number : Bool → ℕ
there_number held = unless held 73 0

-- "then 12"
unfoldable pub next_number : Bool → List ℕ → ℕ → ℕ
next_number held bytes room = room_number (there_number held) bytes room
