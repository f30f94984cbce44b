-- No second outcome meets the contract of a public function.
use Rattle.laws.proofs.Once.{OneResult, one_value}
use Rattle.bench_audio.proofs.bench_audio.Reads as bench_audio_reads
use Rattle.bench_audio.proofs.instant_of.Reads as instant_of_reads
use Rattle.bench_audio.proofs.bench_floats.Reads as bench_floats_reads

pub bench_audio_unique : OneResult bench_audio_reads.Post
bench_audio_unique κs a r r' s s' p q = one_value p q

pub instant_of_unique : OneResult instant_of_reads.Post
instant_of_unique κs a r r' s s' p q = one_value p q

pub bench_floats_unique : OneResult bench_floats_reads.Post
bench_floats_unique κs a r r' s s' p q = one_value p q
