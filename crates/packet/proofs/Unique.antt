-- No second outcome meets the contract of a public function.
use Rattle.laws.proofs.Once.{OneOutcome}
use Rattle.laws.proofs.Refusals.{one_handed}
use Rattle.packet.proofs.write_packet.Reads as write_packet_reads
use Rattle.packet.proofs.read_packet.Reads as read_packet_reads

pub write_packet_unique : OneOutcome write_packet_reads.Post (λ κs s. s.1.0.now)
write_packet_unique κs a r r' s s' p q = one_handed p q

pub read_packet_unique : OneOutcome read_packet_reads.Post (λ κs s. s.1.0.now)
read_packet_unique κs a r r' s s' p q = one_handed p q
