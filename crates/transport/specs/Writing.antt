-- The transport packet of a container, and its writer (02, A5; 001, 7.2, Table 1).
use Rattle.std.specs.Prelude.{ℕ, ◌+◌, ◌/◌, ◌%◌, List, [], ◌∷◌, ◌++◌, length}
use Rattle.laws.specs.Calls.{room_number, done_with, out_with}
use Rattle.laws.specs.declared.Done.{Done}
use Rattle.container.specs.Reading.{reading}
use Rattle.transport.specs.Register.{register_of, four_bytes}

-- "00 00 01 BF, a 16-bit length, high byte first, counting all that follows it": the container and the four bytes of CRC_32
unfoldable pub head_bytes : ℕ → List ℕ
head_bytes n = 0x00 ∷ 0x00 ∷ 0x01 ∷ 0xBF ∷ (n + 4) / 256 ∷ (n + 4) % 256 ∷ []

-- "the container"
unfoldable pub front_bytes : List ℕ → List ℕ
front_bytes c = head_bytes (length c) ++ c

-- "and CRC_32 ..": what the bytes before it leave in the register. With these four, and no others, it ends at zero over the whole packet (`sealed`, `seal_one`)
unfoldable pub transport_bytes : List ℕ → List ℕ
transport_bytes c = front_bytes c ++ four_bytes (register_of (front_bytes c))

-- "in the writer, 20 to 28 and 12"
unfoldable pub write_number : List ℕ → ℕ → ℕ
write_number c room = room_number (reading c).number (transport_bytes c) room

unfoldable pub write_done : List ℕ → ℕ → Done
write_done c room = done_with (write_number c room) (transport_bytes c)

unfoldable pub write_out : List ℕ → List ℕ → List ℕ
write_out c out = out_with (write_number c (length out)) (transport_bytes c) out
