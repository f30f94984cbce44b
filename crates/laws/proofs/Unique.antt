-- No second outcome meets the contract of a public function.
use Rattle.laws.proofs.Once.{OneResult, OneLeft, one_value}
use Rattle.laws.proofs.copy_at.Reads as copy_at_reads
use Rattle.laws.proofs.flag.Reads as flag_reads
use Rattle.laws.proofs.Refusal.number.Reads as number_reads
use Rattle.laws.proofs.Done.of.Reads as of_reads

pub copy_at_unique : OneLeft copy_at_reads.Post (λ κs s. s.1.0.now)
copy_at_unique κs a r r' s s' p q = one_value p q

pub Refusal_number_unique : OneResult number_reads.Post
Refusal_number_unique κs a r r' s s' p q = one_value p q

pub flag_unique : OneResult flag_reads.Post
flag_unique κs a r r' s s' p q = one_value p.0 q.0

pub Done_of_unique : OneResult of_reads.Post
Done_of_unique κs a r r' s s' p q = one_value p q
