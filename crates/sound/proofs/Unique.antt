-- No second outcome meets the contract of a public function.
use Rattle.laws.proofs.Once.{OneResult, one_value}
use Rattle.sound.proofs.instant_bytes.Reads as instant_bytes_reads
use Rattle.sound.proofs.mono_value.Reads as mono_value_reads
use Rattle.sound.proofs.stereo_value.Reads as stereo_value_reads
use Rattle.sound.proofs.five_value.Reads as five_value_reads
use Rattle.sound.proofs.instant_value.Reads as instant_value_reads
use Rattle.sound.proofs.envelope.Reads as envelope_reads
use Rattle.sound.proofs.mean.Reads as mean_reads

pub instant_bytes_unique : OneResult instant_bytes_reads.Post
instant_bytes_unique κs a r r' s s' p q = one_value p q

pub mono_value_unique : OneResult mono_value_reads.Post
mono_value_unique κs a r r' s s' p q = one_value p q

pub stereo_value_unique : OneResult stereo_value_reads.Post
stereo_value_unique κs a r r' s s' p q = one_value p q

pub five_value_unique : OneResult five_value_reads.Post
five_value_unique κs a r r' s s' p q = one_value p q

pub instant_value_unique : OneResult instant_value_reads.Post
instant_value_unique κs a r r' s s' p q = one_value p q

pub envelope_unique : OneResult envelope_reads.Post
envelope_unique κs a r r' s s' p q = one_value p q

pub mean_unique : OneResult mean_reads.Post
mean_unique κs a r r' s s' p q = one_value p q
