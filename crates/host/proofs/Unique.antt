-- No second outcome meets the contract of a public function.
use mathlib.Core.Path.{◌≡◌, ap₂}
use mathlib.Core.List.{List}
use Prim.Native.Nat.{ℕ}
use Rattle.laws.proofs.Once.{OneResult, OneOutcome, one_value, one_pair}
use Rattle.host.proofs.lipsync_read_container.Reads as read_container_reads
use Rattle.host.proofs.lipsync_write_packet.Reads as write_packet_reads
use Rattle.host.proofs.lipsync_read_packet.Reads as read_packet_reads
use Rattle.host.proofs.lipsync_write_transport.Reads as write_transport_reads
use Rattle.host.proofs.lipsync_read_transport.Reads as read_transport_reads
use Rattle.host.proofs.lipsync_mend.Reads as mend_reads
use Rattle.host.proofs.lipsync_sample_line.Reads as sample_line_reads
use Rattle.host.proofs.lipsync_is_monitored.Reads as is_monitored_reads

-- two things are lent to each call that writes: the buffer and the place for the written length
one_triple : {A B C : Type 0} {a x y : A} {b v w : B} {d t u : C} → (x ≡ a) × ((v ≡ b) × (t ≡ d)) → (y ≡ a) × ((w ≡ b) × (u ≡ d)) → (x ≡ y) × (◌≡◌ {A = B × C} (v, t) (w, u))
one_triple p q = let l = one_pair p.1 q.1 in (one_value p.0 q.0, ap₂ (λ x y. (x, y)) l.0 l.1)

pub lipsync_read_container_unique : OneOutcome read_container_reads.Post {X = List ℕ × ℕ} (λ κs s. (s.1.0.now, s.1.1.0.now))
lipsync_read_container_unique κs a r r' s s' p q = one_triple p q

pub lipsync_write_packet_unique : OneOutcome write_packet_reads.Post {X = List ℕ × ℕ} (λ κs s. (s.1.0.now, s.1.1.0.now))
lipsync_write_packet_unique κs a r r' s s' p q = one_triple p q

pub lipsync_read_packet_unique : OneOutcome read_packet_reads.Post {X = List ℕ × ℕ} (λ κs s. (s.1.0.now, s.1.1.0.now))
lipsync_read_packet_unique κs a r r' s s' p q = one_triple p q

pub lipsync_write_transport_unique : OneOutcome write_transport_reads.Post {X = List ℕ × ℕ} (λ κs s. (s.1.0.now, s.1.1.0.now))
lipsync_write_transport_unique κs a r r' s s' p q = one_triple p q

pub lipsync_read_transport_unique : OneOutcome read_transport_reads.Post {X = List ℕ × ℕ} (λ κs s. (s.1.0.now, s.1.1.0.now))
lipsync_read_transport_unique κs a r r' s s' p q = one_triple p q

pub lipsync_mend_unique : OneOutcome mend_reads.Post {X = List ℕ × ℕ} (λ κs s. (s.1.0.now, s.1.1.0.now))
lipsync_mend_unique κs a r r' s s' p q = one_triple p q

pub lipsync_sample_line_unique : OneOutcome sample_line_reads.Post {X = List ℕ × ℕ} (λ κs s. (s.1.1.0.now, s.1.1.1.0.now))
lipsync_sample_line_unique κs a r r' s s' p q = one_triple p q

pub lipsync_is_monitored_unique : OneResult is_monitored_reads.Post
lipsync_is_monitored_unique κs a r r' s s' p q = one_value p q
