-- No second outcome meets the contract of a public function.
use Rattle.laws.proofs.Once.{OneResult, one_value}
use Rattle.floats.proofs.sample_of.Reads as sample_of_reads
use Rattle.floats.proofs.kind.Reads as kind_reads
use Rattle.floats.proofs.has_nan.Reads as has_nan_reads
use Rattle.floats.proofs.value.Reads as value_reads

pub sample_of_unique : OneResult sample_of_reads.Post
sample_of_unique κs a r r' s s' p q = one_value p q

pub kind_unique : OneResult kind_reads.Post
kind_unique κs a r r' s s' p q = one_value p q

pub has_nan_unique : OneResult has_nan_reads.Post
has_nan_unique κs a r r' s s' p q = one_value p q

pub value_unique : OneResult value_reads.Post
value_unique κs a r r' s s' p q = one_value p q
