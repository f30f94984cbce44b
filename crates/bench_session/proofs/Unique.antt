-- No second outcome meets the contract of a public function.
use Rattle.laws.proofs.Once.{OneResult, one_value}
use Rattle.bench_session.proofs.bench_session.Reads as bench_session_reads
use Rattle.bench_session.proofs.bench_frames.Reads as bench_frames_reads
use Rattle.bench_session.proofs.bench_pack.Reads as bench_pack_reads
use Rattle.bench_session.proofs.bench_instants.Reads as bench_instants_reads

pub bench_session_unique : OneResult bench_session_reads.Post
bench_session_unique κs a r r' s s' p q = one_value p q

pub bench_frames_unique : OneResult bench_frames_reads.Post
bench_frames_unique κs a r r' s s' p q = one_value p q

pub bench_pack_unique : OneResult bench_pack_reads.Post
bench_pack_unique κs a r r' s s' p q = one_value p q

pub bench_instants_unique : OneResult bench_instants_reads.Post
bench_instants_unique κs a r r' s s' p q = one_value p q
