-- No second outcome meets the contract of a public function.
use Rattle.laws.proofs.Once.{OneResult, OneOutcome, one_value}
use Rattle.laws.proofs.Refusals.{one_handed}
use Rattle.sampling.proofs.row_of.Reads as row_of_reads
use Rattle.sampling.proofs.sample_line.Reads as sample_line_reads

pub row_of_unique : OneResult row_of_reads.Post
row_of_unique κs a r r' s s' p q = one_value p q

pub sample_line_unique : OneOutcome sample_line_reads.Post (λ κs s. s.1.1.0.now)
sample_line_unique κs a r r' s s' p q = one_handed p q
