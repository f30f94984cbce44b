-- The bytes of a container (01, The container), part by part in its order.
use Rattle.std.specs.Prelude.{ℕ, zero, suc, ◌+◌, ◌-◌, ◌*◌, ◌%◌, List, [], ◌∷◌, ◌++◌, Bool, true, false, cond, length, take}
use Rattle.laws.specs.Sums.{sum}
use Rattle.laws.specs.declared.Video.{Video}
use Rattle.laws.specs.declared.Video.TheVariants.{Absent, One, Two}
use Rattle.container.specs.declared.Print.{Print}
use Rattle.container.specs.declared.Contents.{Contents}

-- "ID: byte 00h, then 20 bytes"
unfoldable pub id_bytes : Bool → List ℕ → List ℕ
id_bytes true id = 0 ∷ id
id_bytes false id = []

-- "Video: 09h and one byte, or 11h and two (field 1, field 2)"
unfoldable pub video_bytes : Video → List ℕ
video_bytes Absent = []
video_bytes (One a) = 0x09 ∷ a ∷ []
video_bytes (Two a b) = 0x11 ∷ a ∷ b ∷ []

-- "for each fingerprint ID x 8 + mix type, AFDataCount x 8, and that many bytes"
unfoldable pub print_bytes : Print → List ℕ
print_bytes p = (p.id * 8 + p.mix) ∷ (p.size * 8) ∷ take p.size p.bytes

unfoldable pub run_bytes : List Print → List ℕ
run_bytes [] = []
run_bytes (p ∷ ps) = print_bytes p ++ run_bytes ps

-- "Audio: (count - 1) x 8 + 2; then for each fingerprint .."
unfoldable pub audio_bytes : ℕ → List Print → List ℕ
audio_bytes zero ps = []
audio_bytes (suc n) ps = (n * 8 + 2) ∷ run_bytes (take (suc n) ps)

-- "Parts follow in that order"
unfoldable pub part_bytes : Contents → List ℕ
part_bytes c = id_bytes c.hasid c.id ++ video_bytes c.video ++ audio_bytes c.count c.prints

abbrev pub video_flag : Video → ℕ
video_flag Absent = 0
video_flag (One a) = 1
video_flag (Two a b) = 1

abbrev pub audio_flag : ℕ → ℕ
audio_flag zero = 0
audio_flag (suc n) = 1

-- "the rate code in bits 7-4, bit 3 zero, then flags ID (bit 2), video (1), audio (0)"
unfoldable pub flag_byte : Contents → ℕ
flag_byte c = c.rate * 16 + cond c.hasid 1 0 * 4 + video_flag c.video * 2 + audio_flag c.count

-- all but the checksum: "version 0; sequence counter; Length", which "counts every byte after itself": the flags, the parts, the checksum
unfoldable pub front_bytes : Contents → List ℕ
front_bytes c = 0 ∷ c.counter ∷ (length (part_bytes c) + 2) ∷ flag_byte c ∷ part_bytes c

-- "the sum of all bytes is 0 modulo 256"
unfoldable pub check_byte : ℕ → ℕ
check_byte s = (256 - s % 256) % 256

unfoldable pub encode : Contents → List ℕ
encode c = front_bytes c ++ (check_byte (sum (front_bytes c)) ∷ [])
