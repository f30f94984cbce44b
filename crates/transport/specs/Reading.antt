-- The reader of transport packets (02, A5; 001, 7.2): the first refusal in the paper's order, or the bytes of the container.
use Rattle.std.specs.Prelude.{ℕ, ◌+◌, ◌-◌, List, Bool, cond, ◌&&◌, length, get_or, take, drop, leb, eqb}
use Rattle.laws.specs.Calls.{unless, room_number, done_with, out_with}
use Rattle.laws.specs.declared.Done.{Done}
use Rattle.records.specs.Records.{pair_at}
use Rattle.container.specs.Reading.{reading}
use Rattle.transport.specs.Register.{register_of}

-- "00 00 01 BF"
unfoldable pub start_right : List ℕ → Bool
start_right s = eqb (get_or s 0 0) 0x00 && (eqb (get_or s 1 0) 0x00 && (eqb (get_or s 2 0) 0x01 && eqb (get_or s 3 0) 0xBF))

-- "a 16-bit length, high byte first, counting all that follows it", which is all but the first six bytes
unfoldable pub length_right : List ℕ → Bool
length_right s = eqb (length s) (pair_at s 4 + 6)

-- "40 fewer than 10 bytes, 41 start code, 42 length, 43 CRC", or 0; "The check is that the register ends at zero"
unfoldable pub frame_number : List ℕ → ℕ
frame_number s =
    unless (leb 10 (length s)) 40
    (unless (start_right s) 41
    (unless (length_right s) 42
    (unless (eqb (register_of s) 0) 43
    0)))

-- "a reader that hands them out": what stands between the first six bytes and the last four
unfoldable pub container_bytes : List ℕ → List ℕ
container_bytes s = take (length s - 10) (drop 6 s)

-- "then, as in the writer, 20 to 28"
unfoldable pub inner_number : List ℕ → ℕ
inner_number s = cond (eqb (frame_number s) 0) (reading (container_bytes s)).number (frame_number s)

-- "and 12"
unfoldable pub read_number : List ℕ → ℕ → ℕ
read_number s room = room_number (inner_number s) (container_bytes s) room

unfoldable pub read_done : List ℕ → ℕ → Done
read_done s room = done_with (read_number s room) (container_bytes s)

unfoldable pub read_out : List ℕ → List ℕ → List ℕ
read_out s out = out_with (read_number s (length out)) (container_bytes s) out
