-- No second outcome meets the contract of a public function.
use Rattle.laws.proofs.Once.{OneOutcome, one_pair}
use Rattle.laws.proofs.Refusals.{one_handed}
use Rattle.mending.proofs.mend.Reads as mend_reads
use Rattle.mending.proofs.tool.report.Reads as report_reads

pub mend_unique : OneOutcome mend_reads.Post (λ κs s. s.1.0.now)
mend_unique κs a r r' s s' p q = one_handed p q

pub report_unique : OneOutcome report_reads.Post (λ κs s. s.1.0.now)
report_unique κs a r r' s s' p q = one_pair p.0 q.0
