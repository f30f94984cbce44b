-- No second outcome meets the contract of a public function.
use Rattle.laws.proofs.Once.{OneResult, OneOutcome, one_value, one_pair}
use Rattle.feed.proofs.open.Reads as open_reads
use Rattle.feed.proofs.next.Reads as next_reads

pub open_unique : OneResult open_reads.Post
open_unique κs a r r' s s' p q = one_value p q

pub next_unique : OneOutcome next_reads.Post (λ κs s. s.1.1.0.now)
next_unique κs a r r' s s' p q = one_pair p q
