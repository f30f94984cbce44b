-- The theorems about packets: both round trips. Demand 2: "An accepted container or packet, written again from what was read, gives its own bytes; each one
-- written reads back as the same contents." A packet's contents are its container's bytes.
use Prim.Native.Nat.{ℕ, zero, suc, ◌+◌, ◌*◌, ◌≤◌, ◌<◌}
use mathlib.Core.Path.{◌≡◌, refl, sym, ap, ◌∙◌}
use mathlib.Core.Bool.{Bool, true, false}
use mathlib.Core.List.{List, [], ◌∷◌, map}
use native.Mathlib.Omega.{arith}
use lib.ListN.{length}
use lib.Dec.{eqb}
use borrow.Author.Tests.{eqb-true, le-ltb}
use Rattle.laws.specs.Bytes.{Bytes}
use Rattle.laws.specs.Calls.{over, room_number, done_with}
use Rattle.laws.proofs.Calls.{done, told_ok, told_zero, handed}
use Rattle.laws.proofs.Tests.{chosen}
use Rattle.laws.proofs.Layers as layers
use Rattle.container.specs.Reading.{reading}
use Rattle.container_laws.proofs.Container.{accepted_size}
use Rattle.packet.specs.Words.{parity, with_bit9, word_of, low, words_of}
use Rattle.packet.specs.Writing.{packet_bytes, write_number, write_done, write_out}
use Rattle.packet.specs.Reading.{frame_number, user_words, user_bytes, inner_number, read_number, read_done, read_out}
use Rattle.packet_laws.specs.Handed.{wrapped, unwrapped}
use Rattle.packet.proofs.TenBits.{length_packet}
use Rattle.packet_laws.proofs.There.{packet_right, packet_carries}
use Rattle.packet_laws.proofs.Back.{packet_again}

-- the packet of an accepted container is right, and carries it
there : (c : List ℕ) → Bytes c → (reading c).number ≡ 0 → (frame_number (packet_bytes c) ≡ 0) × (user_bytes (packet_bytes c) ≡ c)
there c bytes e =
    let small : length c < 256 = omega (arith, (accepted_size c bytes e).1) in
    (packet_right c bytes small, packet_carries c bytes small)

-- "each one written reads back as the same contents"
pub read_back : (c out back : List ℕ) → Bytes c → (write_done c (length out)).number ≡ 0 → length c ≤ length back
    → (read_done (wrapped c out) (length back) ≡ done 0 (length c)) × (read_out (wrapped c out) back ≡ over c back)
unfolding write_done write_out write_number read_done read_out read_number inner_number
read_back c out back bytes e room = layers.read_back (λ c. (reading c).number) packet_bytes frame_number user_bytes there c out back bytes e room

-- "An accepted .. packet, written again from what was read, gives its own bytes"
pub rewritten : (s out again : List ℕ) → Bytes s → (read_done s (length out)).number ≡ 0 → length s ≤ length again
    → (write_done (unwrapped s out) (length again) ≡ done 0 (length s)) × (write_out (unwrapped s out) again ≡ over s again)
unfolding write_done write_out write_number read_done read_out read_number inner_number
rewritten s out again bytes e room =
    layers.rewritten (λ c. (reading c).number) packet_bytes frame_number user_bytes (λ s b right. packet_again s right b) s out again bytes e room

-- ---- the room that a packet's container takes

-- no more is handed out than there is room for
pub read_fits : (s : List ℕ) (room : ℕ) → (read_done s room).written ≤ room
unfolding read_done read_number done_with
read_fits s room =
    chosen (λ (n : ℕ). n ≤ room) (eqb (read_number s room) 0) _ _
    (λ e. (told_zero (inner_number s) (user_bytes s) room (eqb-true (read_number s room) 0 e)).1)
    (λ _. omega arith)

user_bytes_lem : (s : List ℕ) → Bytes (user_bytes s)
unfolding user_bytes low
user_bytes_lem s = low_bytes (user_words (words_of s))
  where
    low_bytes : (ws : List ℕ) → Bytes (map low ws)
    low_bytes [] k = omega arith
    low_bytes (w ∷ ws) zero = omega arith
    low_bytes (w ∷ ws) (suc k) = low_bytes ws k

-- an accepted container is wrapped, in two bytes for each word: 522 are enough for any (02, A7)
pub wraps : (c out : List ℕ) → Bytes c → (reading c).number ≡ 0 → 522 ≤ length out → write_done c (length out) ≡ done 0 (2 * length c + 14)
unfolding write_done write_number
wraps c out b e h =
    let n = length_packet c in
    sym (told_ok (reading c).number (packet_bytes c) out e (omega (arith, n, (accepted_size c b e).1, h))).0 ∙ ap (done 0) n

-- the bytes that an accepted packet hands out are an accepted container's
pub carries_accepted : (s out : List ℕ) → (read_done s (length out)).number ≡ 0 → Bytes (unwrapped s out) × ((reading (unwrapped s out)).number ≡ 0)
unfolding read_done read_out read_number inner_number done_with
carries_accepted s out e =
    let inner = (told_zero (inner_number s) (user_bytes s) (length out) e).0 in
    let own = layers.own_right (frame_number s) (reading (user_bytes s)).number inner in
    let zero = sym (layers.own_passed (frame_number s) (reading (user_bytes s)).number own) ∙ inner in
    rw (handed (read_number s (length out)) (user_bytes s) out e) (user_bytes_lem s, zero)

-- with room for 254 bytes what is told does not turn on the room (02, A7)
pub room_alike : (s : List ℕ) (room : ℕ) → 254 ≤ room → read_done s room ≡ read_done s 254
unfolding read_done read_number room_number inner_number
room_alike s room h = go (eqb (inner_number s) 0) refl
  where
    size : inner_number s ≡ 0 → length (user_bytes s) ≤ 254
    size e =
        let own = layers.own_right (frame_number s) (reading (user_bytes s)).number e in
        (accepted_size (user_bytes s) (user_bytes_lem s) (sym (layers.own_passed (frame_number s) (reading (user_bytes s)).number own) ∙ e)).1

    go : (t : Bool) → eqb (inner_number s) 0 ≡ t → read_done s room ≡ read_done s 254
    go true e =
        let n = size (eqb-true (inner_number s) 0 e) in
        rw (e, le-ltb room (length (user_bytes s)) (omega (arith, n)), le-ltb 254 (length (user_bytes s)) n) refl
    go false e = rw e refl

-- 001, 5.1: "The DID word shall be set to the value [41h]. The SDID word shall be set to the value of [0Bh].": with their parity these are 01's 241h and 10Bh
pub names_are_words : word_of 0x41 ∷ word_of 0x0B ∷ [] ≡ 0x241 ∷ 0x10B ∷ []
unfolding word_of with_bit9 parity
names_are_words = refl
