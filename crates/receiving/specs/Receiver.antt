-- What each call on a receiver answers, and the receiver that it leaves (02, A12).
use Rattle.std.specs.Prelude.{ℕ, ◌+◌, ◌%◌, List, [], ◌∷◌, ◌++◌, Option, Some, None, cond, length, drop, get_or, set, replicate, eqb, Result}
use Rattle.laws.specs.Calls.{done_with, out_with}
use Rattle.laws.specs.declared.Done.{Done}
use Rattle.laws.specs.declared.Refusal.{Refusal}
use Rattle.laws.specs.Refusals.{number_in, done_of}
use Rattle.container.specs.Reading.{reading}
use Rattle.receiving.specs.declared.Slot.{Slot}
use Rattle.receiving.specs.declared.Receiver.{Receiver}
use Rattle.receiving.specs.Slots.{slot_of, container_in, is_held}
use Rattle.receiving.specs.Numbers.{ahead, arrive_number, next_number}

-- "A receiver holds up to eight, starting at an expected counter."
unfoldable pub fresh_of : ℕ → Receiver
fresh_of expected = record { expected = expected; held = replicate 8 None }

-- what is held so far ahead of the expected one; none past the eight places
unfoldable pub slot_at : Receiver → ℕ → Option Slot
slot_at r d = get_or r.held d None

-- ---- Arrival

-- what an arrival tells: 02's number, and the receiver after it
pub record Arrived : Type 0 where
  pub number : ℕ
  pub receiver : Receiver

-- the same of an answer, with the receiver that it leaves
abbrev pub arrived : Result Unit Refusal → Receiver → Arrived
arrived answer r = record { number = number_in answer; receiver = r }

unfoldable pub distance_of : Receiver → List ℕ → ℕ
distance_of r b = ahead (reading b).contents.counter r.expected

unfoldable pub arriving : Receiver → List ℕ → ℕ
arriving r b = arrive_number (reading b).number (distance_of r b) (is_held (slot_at r (distance_of r b)))

-- "With d under 8 the container is held."
unfoldable pub holding : Receiver → ℕ → List ℕ → Receiver
holding r d b = record { expected = r.expected; held = set r.held d (Some (slot_of b)) }

unfoldable pub arrive_of : Receiver → List ℕ → Arrived
arrive_of r b = record { number = arriving r b; receiver = cond (eqb (arriving r b) 0) (holding r (distance_of r b) b) r }

-- ---- Asking for the next, and giving it up

-- "frees its room and moves on by one"; "giving it up only moves on by one, freeing a held one"
unfoldable pub moved_on : Receiver → Receiver
moved_on r = record { expected = (r.expected + 1) % 256; held = drop 1 r.held ++ None ∷ [] }

-- what asking for the next tells: 02's number, how many bytes were written, and the receiver after it
pub record Asked : Type 0 where
  pub number : ℕ
  pub written : ℕ
  pub receiver : Receiver

-- the same of an answer, with the receiver that it leaves
abbrev pub asked : Result ℕ Refusal → Receiver → Asked
asked answer r = record { number = (done_of answer).number; written = (done_of answer).written; receiver = r }

unfoldable pub asking : Receiver → ℕ → ℕ
asking r room = next_number (is_held (slot_at r 0)) (container_in (slot_at r 0)) room

unfoldable pub next_done : Receiver → ℕ → Done
next_done r room = done_with (asking r room) (container_in (slot_at r 0))

-- "hands out the expected one if held, frees its room and moves on by one"; "12, which leaves it held"
unfoldable pub asked_with : Receiver → Done → Asked
asked_with r d = record { number = d.number; written = d.written; receiver = cond (eqb d.number 0) (moved_on r) r }

unfoldable pub next_of : Receiver → ℕ → Asked
next_of r room = asked_with r (next_done r room)

unfoldable pub next_out : Receiver → List ℕ → List ℕ
next_out r out = out_with (asking r (length out)) (container_in (slot_at r 0)) out
