-- The theorems about transport packets: both round trips, and one byte changed. 02, A5: "An accepted packet rewrites to itself, and a written one reads back."
use Prim.Native.Nat.{ℕ, ◌<◌, ◌≤◌}
use mathlib.Core.Path.{◌≡◌, sym, ap, ◌∙◌}
use mathlib.Core.List.{List}
use lib.ListN.{length, get_or, set}
use Rattle.laws.specs.Bytes.{Bytes}
use Rattle.laws.specs.Calls.{over, done_with}
use Rattle.laws.proofs.Calls.{done, told_refused, told_zero, handed}
use Rattle.laws.proofs.Layers as layers
use Rattle.container.specs.Reading.{reading}
use Rattle.transport.specs.Writing.{transport_bytes, write_number, write_done, write_out}
use Rattle.transport.specs.Reading.{frame_number, container_bytes, inner_number, read_number, read_done, read_out}
use Rattle.transport_laws.specs.Handed.{streamed, unstreamed}
use Rattle.transport_laws.specs.Changed.{number_at}
use Rattle.transport_laws.proofs.There.{transport_right, transport_carries}
use Rattle.transport_laws.proofs.Back.{transport_again}
use Rattle.transport_laws.proofs.Changed.{frame_changed, number_some}

-- "a written one reads back"
pub read_back : (c out back : List ℕ) → Bytes c → (write_done c (length out)).number ≡ 0 → length c ≤ length back
    → (read_done (streamed c out) (length back) ≡ done 0 (length c)) × (read_out (streamed c out) back ≡ over c back)
unfolding write_done write_out write_number read_done read_out read_number inner_number
read_back c out back bytes e room =
    layers.read_back (λ c. (reading c).number) transport_bytes frame_number container_bytes (λ c b e. (transport_right c, transport_carries c)) c out back bytes e room

-- "An accepted packet rewrites to itself"
pub rewritten : (s out again : List ℕ) → Bytes s → (read_done s (length out)).number ≡ 0 → length s ≤ length again
    → (write_done (unstreamed s out) (length again) ≡ done 0 (length s)) × (write_out (unstreamed s out) again ≡ over s again)
unfolding write_done write_out write_number read_done read_out read_number inner_number
rewritten s out again bytes e room =
    layers.rewritten (λ c. (reading c).number) transport_bytes frame_number container_bytes (λ s b right. transport_again s right b) s out again bytes e room

-- ---- one byte changed

-- of any bytes whose start code, length and CRC are right, and any room: the number of the field that the byte stands in, and nothing written
pub changed : (s : List ℕ) → frame_number s ≡ 0 → Bytes s → (k x : ℕ) → k < length s → x < 256 → (x ≡ get_or s k 0 → ⊥) → (out : List ℕ)
    → (read_done (set s k x) (length out) ≡ done (number_at k) 0) × (read_out (set s k x) out ≡ out)
unfolding read_done read_out read_number inner_number
changed s right bytes k x there byte other out =
    let e = layers.own_first (frame_number (set s k x)) (reading (container_bytes (set s k x))).number (number_at k)
    (sym (frame_changed s right bytes k x there byte other)) (number_some k) in
    let t = told_refused (number_at k) (container_bytes (set s k x)) out (number_some k) in
    rw e (sym t.0, sym t.1)

-- so of a packet that was accepted
pub accepted_right : (s : List ℕ) (room : ℕ) → (read_done s room).number ≡ 0 → frame_number s ≡ 0
unfolding read_done read_number inner_number done_with
accepted_right s room e = layers.own_right (frame_number s) (reading (container_bytes s)).number (told_zero (inner_number s) (container_bytes s) room e).0

-- and of one that was written
pub written_right : (c out : List ℕ) → (write_done c (length out)).number ≡ 0 → frame_number (streamed c out) ≡ 0
unfolding write_done write_out done_with
written_right c out e = ap frame_number (handed (write_number c (length out)) (transport_bytes c) out e) ∙ transport_right c
