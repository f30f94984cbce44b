-- No second outcome meets the contract of a public function.
use Rattle.laws.proofs.Once.{OneResult, one_value}
use Rattle.records.proofs.pair_at.Reads as pair_at_reads
use Rattle.records.proofs.record_at.Reads as record_at_reads

pub pair_at_unique : OneResult pair_at_reads.Post
pair_at_unique κs a r r' s s' p q = one_value p.0 q.0

pub record_at_unique : OneResult record_at_reads.Post
record_at_unique κs a r r' s s' p q = one_value p q
