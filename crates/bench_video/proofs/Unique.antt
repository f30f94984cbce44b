-- No second outcome meets the contract of a public function.
use Rattle.laws.proofs.Once.{OneResult, one_value}
use Rattle.bench_video.proofs.bench_lines.Reads as bench_lines_reads

pub bench_lines_unique : OneResult bench_lines_reads.Post
bench_lines_unique κs a r r' s s' p q = one_value p q
