-- A run is made of what the functions of `receiving` promise: each function's own contract (`Post`, what its `ensures` claims) says that it answers `answer_of`
-- and hands back `after_call`, over the values that it was given (a: the arguments; s: what was lent, at exit).
use mathlib.Core.Path.{◌≡◌, ap, ap₂}
use mathlib.Core.List.{List}
use Prim.Native.Nat.{ℕ}
use contract.Lifetimes.{Lfts}
use borrow.Fn.World.{ArgsD, ResD}
use borrow.Fn.Kinds.{ended_of}
use denote.Triple.Clauses.{AtExit}
use Rattle.receiving.specs.contracts.Receiver.fresh
use Rattle.receiving.proofs.Receiver.fresh.Kinds as fresh_kinds
use Rattle.receiving.proofs.Receiver.fresh.Reads as fresh_reads
use Rattle.receiving.specs.contracts.Receiver.arrive
use Rattle.receiving.proofs.Receiver.arrive.Kinds as arrive_kinds
use Rattle.receiving.proofs.Receiver.arrive.Reads as arrive_reads
use Rattle.receiving.specs.contracts.Receiver.next
use Rattle.receiving.proofs.Receiver.next.Kinds as next_kinds
use Rattle.receiving.proofs.Receiver.next.Reads as next_reads
use Rattle.receiving.specs.contracts.Receiver.give_up
use Rattle.receiving.proofs.Receiver.give_up.Kinds as give_up_kinds
use Rattle.receiving.proofs.Receiver.give_up.Reads as give_up_reads
use Rattle.laws.specs.Refusals.{number_in, done_of}
use Rattle.receiving.specs.Receiver.{Arrived, Asked, fresh_of}
use Rattle.receiving_laws.specs.Calls.{Call, Answer, saying, answer_of, after_call}
use Rattle.receiving_laws.specs.Calls as calls

pub fresh_contract : (κs : Lfts 0) (a : ArgsD fresh.signature κs) (r : ResD fresh.signature κs) (s : AtExit (ended_of 0 fresh_kinds.ps fresh_kinds.r) κs)
    → fresh_reads.Post κs a r s → r ≡ fresh_of a.0
fresh_contract κs a r s p = p

pub arrive_contract : (κs : Lfts 2) (a : ArgsD arrive.signature κs) (r : ResD arrive.signature κs) (s : AtExit (ended_of 2 arrive_kinds.ps arrive_kinds.r) κs)
    → arrive_reads.Post κs a r s
    → let c : Call = calls.arrive a.1.0.now in
    (saying (number_in r) ≡ answer_of a.0.now c) × (s.0.now ≡ after_call a.0.now c)
unfolding answer_of after_call
arrive_contract κs a r s p = (ap (λ (x : Arrived). saying x.number) p, ap (λ (x : Arrived). x.receiver) p)

pub next_contract : (κs : Lfts 2) (a : ArgsD next.signature κs) (r : ResD next.signature κs) (s : AtExit (ended_of 2 next_kinds.ps next_kinds.r) κs)
    → next_reads.Post κs a r s
    → let c : Call = calls.next a.1.0.now in
    (record { number = (done_of r).number; written = (done_of r).written; out = s.1.0.now } ≡ answer_of a.0.now c) × (s.0.now ≡ after_call a.0.now c)
unfolding answer_of after_call
next_contract κs a r s p = (
  ap₂ {C = Answer} (λ (x : Asked) (out : List ℕ). record { number = x.number; written = x.written; out = out }) p.0 p.1,
  ap (λ (x : Asked). x.receiver) p.0,
)

pub give_up_contract : (κs : Lfts 1) (a : ArgsD give_up.signature κs) (r : ResD give_up.signature κs) (s : AtExit (ended_of 1 give_up_kinds.ps give_up_kinds.r) κs)
    → give_up_reads.Post κs a r s → s.0.now ≡ after_call a.0.now calls.give_up
unfolding after_call
give_up_contract κs a r s p = p
