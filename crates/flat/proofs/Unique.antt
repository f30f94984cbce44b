-- No second outcome meets the contract of a public function.
use Rattle.laws.proofs.Once.{OneResult, one_value}
use Rattle.flat.proofs.flatten.Reads as flatten_reads
use Rattle.flat.proofs.unflatten.Reads as unflatten_reads

pub flatten_unique : OneResult flatten_reads.Post
flatten_unique κs a r r' s s' p q = one_value p q

pub unflatten_unique : OneResult unflatten_reads.Post
unflatten_unique κs a r r' s s' p q = one_value p q
