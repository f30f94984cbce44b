-- No second outcome meets the contract of a public function.
use mathlib.Core.Path.{◌≡◌, ap}
use mathlib.Core.List.{List}
use Prim.Native.Nat.{ℕ}
use Rattle.laws.specs.Refusals.{done_of}
use Rattle.laws.proofs.Once.{OneResult, OneLeft, OneOutcome, one_value, one_both}
use Rattle.laws.proofs.Refusals.{done_injective, checked_injective, same_told}
use Rattle.receiving.specs.declared.Receiver.{Receiver}
use Rattle.receiving.specs.Receiver.{Arrived, Asked}
use Rattle.receiving.proofs.Receiver.fresh.Reads as fresh_reads
use Rattle.receiving.proofs.Receiver.arrive.Reads as arrive_reads
use Rattle.receiving.proofs.Receiver.next.Reads as next_reads
use Rattle.receiving.proofs.Receiver.give_up.Reads as give_up_reads

pub Receiver_fresh_unique : OneResult fresh_reads.Post
Receiver_fresh_unique κs a r r' s s' p q = one_value p q

pub Receiver_arrive_unique : OneOutcome arrive_reads.Post (λ κs s. s.0.now)
Receiver_arrive_unique κs a r r' s s' p q =
    let e = one_value p q in
    (checked_injective r r' (ap (λ (k : Arrived). k.number) e), ap (λ (k : Arrived). k.receiver) e)

pub Receiver_next_unique : OneOutcome next_reads.Post {X = Receiver × List ℕ} (λ κs s. (s.0.now, s.1.0.now))
Receiver_next_unique κs a r r' s s' p q =
    let e = one_value p.0 q.0 in
    let d : done_of r ≡ done_of r' = same_told (ap (λ (k : Asked). k.number) e) (ap (λ (k : Asked). k.written) e) in
    (done_injective r r' d, one_both (ap (λ (k : Asked). k.receiver) e) (one_value p.1 q.1))

pub Receiver_give_up_unique : OneLeft give_up_reads.Post (λ κs s. s.0.now)
Receiver_give_up_unique κs a r r' s s' p q = one_value p q
