-- The places of a receiver: a container that is held, or none.
use Rattle.std.specs.Prelude.{ℕ, List, [], Bool, true, false, Option, Some, None, length, take, replicate}
use Rattle.std.proofs.lemmas.List.Edits.{sets}
use Rattle.receiving.specs.declared.Slot.{Slot}

-- a container of up to 255 bytes
unfoldable pub slot_of : List ℕ → Slot
slot_of b = record { size = length b; bytes = sets (replicate 255 0) 0 b }

-- its bytes; none, where none is held
unfoldable pub container_in : Option Slot → List ℕ
container_in None = []
container_in (Some s) = take s.size s.bytes

unfoldable pub is_held : Option Slot → Bool
is_held None = false
is_held (Some s) = true
