-- The packet of a container, and Write packet (01, The packet; What a caller is told).
use Rattle.std.specs.Prelude.{ℕ, List, [], ◌∷◌, ◌++◌, map, length, drop}
use Rattle.laws.specs.Calls.{room_number, done_with, out_with}
use Rattle.laws.specs.declared.Done.{Done}
use Rattle.container.specs.Reading.{reading}
use Rattle.packet.specs.Words.{word_of, check_word, bytes_of}

-- "Words 000h, 3FFh, 3FFh, 241h, 10Bh, the count"
unfoldable pub head_words : ℕ → List ℕ
head_words n = 0x000 ∷ 0x3FF ∷ 0x3FF ∷ 0x241 ∷ 0x10B ∷ word_of n ∷ []

-- "one word per container byte"
unfoldable pub front_words : List ℕ → List ℕ
front_words c = head_words (length c) ++ map word_of c

-- "the checksum", which covers what comes "from the fourth word to the last user word"
unfoldable pub packet_words : List ℕ → List ℕ
packet_words c = front_words c ++ (check_word (drop 3 (front_words c)) ∷ [])

unfoldable pub packet_bytes : List ℕ → List ℕ
packet_bytes c = bytes_of (packet_words c)

-- Write packet: "20 to 28; 12"
unfoldable pub write_number : List ℕ → ℕ → ℕ
write_number c room = room_number (reading c).number (packet_bytes c) room

unfoldable pub write_done : List ℕ → ℕ → Done
write_done c room = done_with (write_number c room) (packet_bytes c)

unfoldable pub write_out : List ℕ → List ℕ → List ℕ
write_out c out = out_with (write_number c (length out)) (packet_bytes c) out
