-- No second outcome meets the contract of `stops`. (`read_record`'s names no one outcome: no contract can say which bytes come.)
use Rattle.laws.proofs.Once.{OneResult, one_value}
use Rattle.intake.proofs.stops.Reads as stops_reads

pub stops_unique : OneResult stops_reads.Post
stops_unique κs a r r' s s' p q = one_value p q
