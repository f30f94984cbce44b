-- Read packet (01, What a caller is told): the first refusal in the paper's order, or the bytes of the container.
use Rattle.std.specs.Prelude.{ℕ, ◌+◌, ◌%◌, List, [], ◌∷◌, map, Bool, true, cond, ◌&&◌, length, get_or, take, drop, leb, eqb}
use Rattle.laws.specs.Calls.{unless, room_number, done_with, out_with}
use Rattle.laws.specs.declared.Done.{Done}
use Rattle.container.specs.Reading.{reading}
use Rattle.packet.specs.Words.{word_of, low, check_word, words_of}

-- whether a test holds of every word
unfoldable pub every : (ℕ → Bool) → List ℕ → Bool
every test [] = true
every test (w ∷ ws) = test w && every test ws

abbrev pub ten_bits : ℕ → Bool
ten_bits w = leb w 0x3FF

-- "parity means bits 8 and 9 both": a word of ten bits is the word of the byte that it carries
abbrev pub parity_right : ℕ → Bool
parity_right w = eqb w (word_of (low w))

-- the first three words
unfoldable pub start_right : List ℕ → Bool
start_right ws = eqb (get_or ws 0 0) 0x000 && (eqb (get_or ws 1 0) 0x3FF && eqb (get_or ws 2 0) 0x3FF)

-- the fourth and the fifth
unfoldable pub names_right : List ℕ → Bool
names_right ws = eqb (get_or ws 3 0) 0x241 && eqb (get_or ws 4 0) 0x10B

-- the count: bits 7-0 of the sixth
unfoldable pub count_of : List ℕ → ℕ
count_of ws = low (get_or ws 5 0)

-- the user words, and all that the checksum covers: "from the fourth word to the last user word"
unfoldable pub user_words : List ℕ → List ℕ
user_words ws = take (count_of ws) (drop 6 ws)

unfoldable pub covered_words : List ℕ → List ℕ
covered_words ws = take (count_of ws + 3) (drop 3 ws)

-- "34 count word's parity, or words not count + 7; 35 a user word's parity; 36 checksum", or 0
unfoldable pub body_number : List ℕ → ℕ
body_number ws =
    unless (parity_right (get_or ws 5 0)) 34
    (unless (eqb (length ws) (count_of ws + 7)) 34
    (unless (every parity_right (user_words ws)) 35
    (unless (eqb (get_or ws (count_of ws + 6) 0) (check_word (covered_words ws))) 36
    0)))

-- "30 odd size or a word above 3FFh; 31 under 7 words; 32 first three words; 33 fourth or fifth", then 34 to 36, or 0
unfoldable pub frame_number : List ℕ → ℕ
frame_number s =
    unless (eqb (length s % 2) 0) 30
    (unless (every ten_bits (words_of s)) 30
    (unless (leb 7 (length (words_of s))) 31
    (unless (start_right (words_of s)) 32
    (unless (names_right (words_of s)) 33
    (body_number (words_of s))))))

-- "Reading a packet hands out its container's bytes": bits 7-0 of the user words
unfoldable pub user_bytes : List ℕ → List ℕ
user_bytes s = map low (user_words (words_of s))

-- "30 .. 36; 20 to 28": the packet's own refusals, then its container's
unfoldable pub inner_number : List ℕ → ℕ
inner_number s = cond (eqb (frame_number s) 0) (reading (user_bytes s)).number (frame_number s)

-- then 12
unfoldable pub read_number : List ℕ → ℕ → ℕ
read_number s room = room_number (inner_number s) (user_bytes s) room

unfoldable pub read_done : List ℕ → ℕ → Done
read_done s room = done_with (read_number s room) (user_bytes s)

unfoldable pub read_out : List ℕ → List ℕ → List ℕ
read_out s out = out_with (read_number s (length out)) (user_bytes s) out
