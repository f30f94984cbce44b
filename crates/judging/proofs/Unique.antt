-- No second outcome meets the contract of a public function.
use Rattle.laws.proofs.Once.{OneResult, OneOutcome, one_value, one_pair}
use Rattle.judging.proofs.fresh.Reads as fresh_reads
use Rattle.judging.proofs.judge.Reads as judge_reads
use Rattle.judging.proofs.report.open.Reads as open_reads
use Rattle.judging.proofs.report.field.Reads as field_reads
use Rattle.judging.proofs.report.close.Reads as close_reads

pub fresh_unique : OneResult fresh_reads.Post
fresh_unique κs a r r' s s' p q = one_value p q

pub judge_unique : OneResult judge_reads.Post
judge_unique κs a r r' s s' p q = one_value p q

pub open_unique : OneResult open_reads.Post
open_unique κs a r r' s s' p q = one_value p.0 q.0

pub field_unique : OneOutcome field_reads.Post (λ κs s. s.1.1.0.now)
field_unique κs a r r' s s' p q = one_pair p.0 q.0

pub close_unique : OneOutcome close_reads.Post (λ κs s. s.1.0.now)
close_unique κs a r r' s s' p q = one_pair p.0 q.0
