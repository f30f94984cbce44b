-- No second outcome meets the contract of a public function.
use Rattle.laws.proofs.Once.{OneOutcome}
use Rattle.text.proofs.Pieces.{put_once}
use Rattle.text.proofs.put.Reads as put_reads
use Rattle.text.proofs.put_number.Reads as put_number_reads
use Rattle.text.proofs.put_item.Reads as put_item_reads
use Rattle.text.proofs.put_refused.Reads as put_refused_reads
use Rattle.text.proofs.put_hex.Reads as put_hex_reads

pub put_unique : OneOutcome put_reads.Post (λ κs s. s.1.0.now)
put_unique κs a r r' s s' p q = put_once p q

pub put_number_unique : OneOutcome put_number_reads.Post (λ κs s. s.1.0.now)
put_number_unique κs a r r' s s' p q = put_once p q

pub put_item_unique : OneOutcome put_item_reads.Post (λ κs s. s.1.1.0.now)
put_item_unique κs a r r' s s' p q = put_once p q

pub put_refused_unique : OneOutcome put_refused_reads.Post (λ κs s. s.1.0.now)
put_refused_unique κs a r r' s s' p q = put_once p q

pub put_hex_unique : OneOutcome put_hex_reads.Post (λ κs s. s.1.0.now)
put_hex_unique κs a r r' s s' p q = put_once p q
