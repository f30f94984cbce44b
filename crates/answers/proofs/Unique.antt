-- No second outcome meets the contract of a public function.
use Rattle.laws.proofs.Once.{OneResult, OneOutcome, one_value}
use Rattle.text.proofs.Pieces.{put_once}
use Rattle.answers.proofs.asks.room_at.Reads as room_at_reads
use Rattle.answers.proofs.asks.fresh_work.Reads as fresh_work_reads
use Rattle.answers.proofs.say.say.Reads as say_reads
use Rattle.answers.proofs.fault.say_fault.Reads as say_fault_reads

pub room_at_unique : OneResult room_at_reads.Post
room_at_unique κs a r r' s s' p q = one_value p q

pub fresh_work_unique : OneResult fresh_work_reads.Post
fresh_work_unique κs a r r' s s' p q = one_value p q

pub say_unique : OneOutcome say_reads.Post (λ κs s. s.1.1.0.now)
say_unique κs a r r' s s' p q = put_once p q

pub say_fault_unique : OneOutcome say_fault_reads.Post (λ κs s. s.1.1.1.1.0.now)
say_fault_unique κs a r r' s s' p q = put_once p q
