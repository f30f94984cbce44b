-- No record makes a call touch a byte of the work buffer beyond those that it counts; and how long the lines are at most.
use Prim.Native.Nat.{ℕ, ◌-◌, ◌≤◌}
use mathlib.Core.Path.{◌≡◌, refl, ap, subst, ◌∙◌}
use mathlib.Core.List.{List, ◌++◌}
use mathlib.Core.Bool.{Bool, true, false, cond}
use native.Mathlib.Omega.{arith}
use lib.ListN.{length, take, drop}
use lib.Seq.{sets}
use lib.Dec.{ltb, eqb}
use Rattle.std.specs.declared.result.Result.{Result}
use Rattle.std.specs.declared.result.Result.TheVariants.{Ok, Err}
use Rattle.laws.specs.Calls.{over}
use Rattle.laws.proofs.Tests.{chosen}
use Rattle.records.specs.declared.Record.{Record}
use Rattle.records.specs.declared.Record.TheVariants.{Whole, Cut, End}
use Rattle.records.specs.Records.{record_at}
use Rattle.receiving.specs.declared.Receiver.{Receiver}
use Rattle.receiving.specs.Slots.{container_in, is_held}
use Rattle.receiving.specs.Numbers.{there_number, next_number}
use Rattle.receiving.specs.Receiver.{Asked, slot_at, arrive_of, asking, next_done, asked_with, next_of, next_out}
use Rattle.answers.specs.declared.Cause.{Cause}
use Rattle.answers.specs.declared.Cause.TheVariants.{UnknownTag, TooLong, CutShort}
use Rattle.answers.specs.declared.Hand.TheVariants.{Next}
use Rattle.answers.specs.declared.Answer.TheVariants.{Arrive, Finished}
use Rattle.answers.specs.Lines.{untouched, fresh, Quiet}
use Rattle.answers.specs.Rooms.{room_at}
use Rattle.answers.proofs.Watch.{untouched_size}
use Rattle.answers.proofs.Rooms.{room_most, work_after}
use Rattle.answers.proofs.Sizes.{answer_fits}
use Rattle.answers.proofs.Sizes as answers
use Rattle.answers.proofs.Held.{Kept, call_kept, Held, held_work, handed_in, none_held, bad_held}
use Rattle.receive_feed.specs.Feed.{Answered, Step, fresh_fed, arrived, arrive_fed, done_of, asked, next_in, next_fed, give_up_fed, fed, front, line_next}
use Rattle.answers.specs.Steps.{record_fed, step_line}

abbrev pub Does : Step → Answered → List ℕ → Type 0
Does t a w = (a ≡ t.answered) × (w ≡ t.left)

-- ---- asking for the next

next_kept : (r : Receiver) (lent : List ℕ) → Kept lent (done_of (next_of r (length lent))).written (next_out r lent)
unfolding done_of next_of asked_with next_done next_out asking next_number
next_kept r lent = call_kept (there_number (is_held (slot_at r 0))) (container_in (slot_at r 0)) lent

-- it is lent the first bytes of the work buffer
pub nexts : (r : Receiver) (lent left work : List ℕ) (room : ℕ) (a : Asked) → lent ≡ untouched room → work ≡ fresh → a ≡ next_of r (length lent) → left ≡ next_out r lent
    → Does (next_in r (Ok room)) (asked a) (left ++ drop room work)
unfolding next_in
nexts r lent left work room a l w g h =
    let k : left ≡ next_out r (untouched room) = h ∙ ap (next_out r) l in
    let n : length left ≡ room = ap length k ∙ (next_kept r (untouched room)).same ∙ untouched_size room in
    let z : length lent ≡ room = ap length l ∙ untouched_size room in
    (ap asked (g ∙ ap (next_of r) z), work_after left work room n w ∙ ap (λ (x : List ℕ). over x fresh) k)

-- ---- every record

abbrev HeldStep : Step → Type 0
HeldStep t = Held t.answered.answer t.left

next_held : (r : Receiver) (p : List ℕ) (m : Result ℕ Cause) → room_at p 0 ≡ m → HeldStep (next_in r m)
unfolding next_in asked
next_held r p (Ok room) e =
    let k = subst (λ (n : ℕ). Kept (untouched room) (done_of (next_of r n)).written (next_out r (untouched room))) (untouched_size room) (next_kept r (untouched room)) in
    let q = handed_in Next (done_of (next_of r room)) room _ k in
    held_work _ _ (omega (arith, q.0, room_most p 0 room e)) q.1
next_held r p (Err cause) e = bad_held cause

fed_held : (r : Receiver) (tag : ℕ) (p : List ℕ) → HeldStep (fed r tag p)
unfolding fed fresh_fed arrive_fed arrived next_fed give_up_fed Quiet
fed_held r tag p =
    chosen HeldStep (eqb tag 0x30) _ _ (λ _. plain (ltb (length p) 1) _ _ (omega arith) (other (ltb 1 (length p)) _ _ (omega arith) (omega arith)))
    (λ _. chosen HeldStep (eqb tag 0x31) _ _ (λ _. none_held (Arrive (arrive_of r p).number) (omega arith))
    (λ _. chosen HeldStep (eqb tag 0x32) _ _ (λ _. chosen HeldStep (ltb 2 (length p)) _ _ (λ _. bad_held TooLong) (λ _. next_held r p (room_at p 0) refl))
    (λ _. chosen HeldStep (eqb tag 0x33) _ _ (λ _. plain (eqb (length p) 0) _ _ (omega arith) (omega arith))
    (λ _. bad_held (UnknownTag tag)))))
  where
    other : (t : Bool) (a b : Answered) → Quiet a.answer fresh → Quiet b.answer fresh → Quiet (cond t a b).answer fresh
    other true a b q s = q
    other false a b q s = s

    plain : (t : Bool) (a b : Answered) → Quiet a.answer fresh → Quiet b.answer fresh → Held (cond t a b).answer fresh
    plain t a b q s = none_held (cond t a b).answer (other t a b q s)

front_held : (r : Receiver) (bytes : List ℕ) → HeldStep (front r bytes)
unfolding front record_fed Quiet
front_held r bytes = go (record_at bytes 0)
  where
    go : (m : Record) → HeldStep (record_fed fed r bytes m)
    go (Whole tag start end) = fed_held r tag (take (end - start) (drop start bytes))
    go Cut = bad_held CutShort
    go End = none_held Finished (omega arith)

-- so ` spilled` is never printed
pub quiet : (r : Receiver) (bytes : List ℕ) → Quiet (front r bytes).answered.answer (front r bytes).left
quiet r bytes = (front_held r bytes).1

-- a buffer of 8,256 bytes holds each line
pub next_fits : (r : Receiver) (bytes : List ℕ) → length (line_next r bytes) ≤ 8256
unfolding line_next step_line
next_fits r bytes = let h = front_held r bytes in answer_fits _ _ (omega (arith, h.0)) h.1

pub line_held : (r : Receiver) (bytes o o' : List ℕ) (size : ℕ) → length o ≡ 8256 → size ≡ length (line_next r bytes) → o' ≡ sets o 0 (line_next r bytes)
    → (size ≤ length o') × (size ≡ length (take size o'))
line_held r bytes o o' size = answers.line_held (line_next r bytes) o o' size (next_fits r bytes)
