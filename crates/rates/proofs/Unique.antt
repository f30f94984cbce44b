-- No second outcome meets the contract of a public function.
use Rattle.laws.proofs.Once.{OneResult, one_value}
use Rattle.rates.proofs.rate_listed.Reads as rate_listed_reads
use Rattle.rates.proofs.interval.Reads as interval_reads
use Rattle.rates.proofs.bytes_due.Reads as bytes_due_reads
use Rattle.rates.proofs.next_place.Reads as next_place_reads
use Rattle.rates.proofs.count_occurs.Reads as count_occurs_reads
use Rattle.rates.proofs.two_fields.Reads as two_fields_reads
use Rattle.rates.proofs.pairs.Reads as pairs_reads
use Rattle.rates.proofs.mix_listed.Reads as mix_listed_reads

pub rate_listed_unique : OneResult rate_listed_reads.Post
rate_listed_unique κs a r r' s s' p q = one_value p q

pub interval_unique : OneResult interval_reads.Post
interval_unique κs a r r' s s' p q = one_value p q

pub bytes_due_unique : OneResult bytes_due_reads.Post
bytes_due_unique κs a r r' s s' p q = one_value p q

pub next_place_unique : OneResult next_place_reads.Post
next_place_unique κs a r r' s s' p q = one_value p q

pub count_occurs_unique : OneResult count_occurs_reads.Post
count_occurs_unique κs a r r' s s' p q = one_value p q

pub two_fields_unique : OneResult two_fields_reads.Post
two_fields_unique κs a r r' s s' p q = one_value p q

pub pairs_unique : OneResult pairs_reads.Post
pairs_unique κs a r r' s s' p q = one_value p q

pub mix_listed_unique : OneResult mix_listed_reads.Post
mix_listed_unique κs a r r' s s' p q = one_value p q
