-- No second outcome meets the contract of a public function.
use Rattle.laws.proofs.Once.{OneOutcome}
use Rattle.laws.proofs.Refusals.{one_handed}
use Rattle.transport.proofs.write_transport.Reads as write_transport_reads
use Rattle.transport.proofs.read_transport.Reads as read_transport_reads

pub write_transport_unique : OneOutcome write_transport_reads.Post (λ κs s. s.1.0.now)
write_transport_unique κs a r r' s s' p q = one_handed p q

pub read_transport_unique : OneOutcome read_transport_reads.Post (λ κs s. s.1.0.now)
read_transport_unique κs a r r' s s' p q = one_handed p q
