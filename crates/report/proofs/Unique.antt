-- No second outcome meets the contract of a public function.
use Rattle.laws.proofs.Once.{OneOutcome, one_pair}
use Rattle.report.proofs.report.Reads as report_reads
use Rattle.report.proofs.inspect.Reads as inspect_reads

pub report_unique : OneOutcome report_reads.Post (λ κs s. s.1.0.now)
report_unique κs a r r' s s' p q = one_pair p q

pub inspect_unique : OneOutcome inspect_reads.Post (λ κs s. s.1.0.now)
inspect_unique κs a r r' s s' p q = one_pair p q
