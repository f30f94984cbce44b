-- The frames that are measured: what the session's calls make of their lines and sound, and a sum over the bytes of their containers.
use Rattle.std.specs.Prelude.{ℕ, zero, suc, ◌+◌, ◌*◌, ◌/◌, ◌%◌, List, [], ◌∷◌, cond, eqb, length, replicate}
use Rattle.sampling.specs.declared.Row.{Row}
use Rattle.sampling.specs.Formats.{row_of}
use Rattle.session.specs.declared.Session.{Session}
use Rattle.session.specs.Session.{setup_of, line_of, sound_of}
use Rattle.session.specs.Packing.{pack_of, pack_out}
use Rattle.bench_session.specs.declared.Load.{Load}
use Rattle.bench_session.specs.declared.Turn.{Turn}

-- 1080i at 25 Hz by a mixing rule, with two fingerprints of one mix type
unfoldable pub begun_with : ℕ → ℕ → Session
begun_with rule mix = (setup_of 3 5 rule (mix ∷ mix ∷ [])).session

-- its frames: so many lines that are not monitored, so many blocks for each fingerprint, and 32 bytes for the container
unfoldable pub two_of1080i : ℕ → ℕ → Load
two_of1080i others blocks = record { format = 3; others = others; count = 2; blocks = blocks; room = 32 }

-- frames of a format with one block for each of so many fingerprints, and 254 bytes for the container
unfoldable pub block_each : ℕ → ℕ → Load
block_each format count = record { format = format; others = 0; count = count; blocks = 1; room = 254 }

-- the first n lines of the field whose first is this one
unfoldable pub field_lines : Session → ℕ → ℕ → List ℕ → ℕ → Session
field_lines s first step line zero = s
field_lines s first step line (suc n) = (line_of (field_lines s first step line n) (first + step * n) line).session

-- the monitored lines of a frame: field 1, then field 2 where there is one (01, Video: VStart f1, f2 and VStep)
unfoldable pub fields_of : Row → List ℕ → Session → Session
fields_of r line s =
    cond
    (eqb r.vstart2 0)
    (field_lines s r.vstart1 r.vstep line 16)
    (field_lines (field_lines s r.vstart1 r.vstep line 16) r.vstart2 r.vstep line 16)

-- line 1000, which in 1080i is not monitored, n times
unfoldable pub other_lines : Session → List ℕ → ℕ → Session
other_lines s line zero = s
other_lines s line (suc n) = (line_of (other_lines s line n) 1000 line).session

-- a block for each of the first n fingerprints
unfoldable pub each_heard : List ℕ → Session → ℕ → Session
each_heard block s zero = s
each_heard block s (suc n) = (sound_of (each_heard block s n) n block).session

-- n blocks for each of them
unfoldable pub sounds : ℕ → List ℕ → Session → ℕ → Session
sounds count block s zero = s
sounds count block s (suc n) = each_heard block (sounds count block s n) count

-- a frame's lines and sound
unfoldable pub filled_with : Load → List ℕ → List ℕ → Session → Session
filled_with load line block s = sounds load.count block (other_lines (fields_of (row_of load.format) line s) line load.others) load.blocks

-- a sum that tells the order of the bytes
unfoldable pub byte_in : ℕ → ℕ → ℕ
byte_in sum b = (sum * 31 + b) % 4294967296

unfoldable pub bytes_in : ℕ → List ℕ → ℕ
bytes_in sum [] = sum
bytes_in sum (b ∷ l) = bytes_in (byte_in sum b) l

-- a frame that is ready is packed, with no ID, into the room lent
unfoldable pub packed_in : List ℕ → Session → ℕ → Turn
packed_in out ready sum = record {
  session = (pack_of ready [] (length out)).session;
  sum = bytes_in sum (pack_out ready [] out);
}

unfoldable pub frame_of : Load → List ℕ → List ℕ → Turn → Turn
frame_of load line block t = packed_in (replicate load.room 0) (filled_with load line block t.session) t.sum

-- two fields have the first line, two the second and so on: a byte is compared with that of the second preceding field (01, Video)
unfoldable pub turn_at : Row → ℕ → ℕ
turn_at r i = cond (eqb r.vstart2 0) (i / 2) i

unfoldable pub line_at : List ℕ → List ℕ → ℕ → List ℕ
line_at even odd turn = cond (eqb (turn % 2) 0) even odd

unfoldable pub turns : Load → List ℕ → List ℕ → List ℕ → Session → ℕ → Turn
turns load even odd block s zero = record { session = s; sum = 0 }
turns load even odd block s (suc n) = frame_of load (line_at even odd (turn_at (row_of load.format) n)) block (turns load even odd block s n)

unfoldable pub sum_after : Load → List ℕ → List ℕ → List ℕ → Session → ℕ → ℕ
sum_after load even odd block s rounds = (turns load even odd block s rounds).sum

-- the second frame, ready, by rule 1: the first that has video values
unfoldable pub second_with : ℕ → ℕ → List ℕ → List ℕ → List ℕ → Session
second_with mix blocks even odd block = filled_with (two_of1080i 0 blocks) odd block (frame_of (two_of1080i 0 blocks) even block (record { session = begun_with 1 mix; sum = 0 })).session

-- one session's container, n times
unfoldable pub packings : Session → ℕ → ℕ
packings s zero = 0
packings s (suc n) = bytes_in (packings s n) (pack_out s [] (replicate 32 0))
