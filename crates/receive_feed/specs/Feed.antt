-- What the program `receive` reads, record by record (FEED).
use Rattle.std.specs.Prelude.{ℕ, List, cond, length, ltb, eqb, Result, Ok, Err}
use Rattle.laws.specs.declared.Done.{Done}
use Rattle.laws.specs.Calls.{over}
use Rattle.records.specs.Records.{byte_at}
use Rattle.receiving.specs.declared.Receiver.{Receiver}
use Rattle.receiving.specs.Receiver.{Arrived, Asked, fresh_of, arrive_of, moved_on, next_of, next_out}
use Rattle.answers.specs.declared.Cause.{Cause}
use Rattle.answers.specs.declared.Cause.TheVariants.{UnknownTag, TooShort, TooLong}
use Rattle.answers.specs.declared.Hand.TheVariants.{Next}
use Rattle.answers.specs.declared.Answer.TheVariants as answer
use Rattle.answers.specs.Lines.{untouched, fresh}
use Rattle.answers.specs.Rooms.{room_at}
use Rattle.answers.specs.declared.Answered as told
use Rattle.answers.specs.Steps as steps
use Rattle.answers.specs.Steps.{answers, step, bad_fed, front_fed, step_line}

-- "Before the first 30h the receiver is a fresh one that expects 0"
unfoldable pub opening : Receiver
opening = fresh_of 0

-- what a record does to the receiver
abbrev pub Answered : Type 0
Answered = told.Answered Receiver

abbrev pub Step : Type 0
Step = steps.Step Receiver

-- ---- the records

-- 30h: "the expected counter, one byte"; "A fresh receiver, in place of the one before"
unfoldable pub fresh_fed : Receiver → List ℕ → Answered
fresh_fed r p =
    cond (ltb (length p) 1) (bad_fed r TooShort)
    (cond (ltb 1 (length p)) (bad_fed r TooLong)
    (answers answer.Receiver (fresh_of (byte_at p 0))))

-- 31h: "a container's bytes (0 or more)"
unfoldable pub arrived : Arrived → Answered
arrived a = answers (answer.Arrive a.number) a.receiver

unfoldable pub arrive_fed : Receiver → List ℕ → Answered
arrive_fed r p = arrived (arrive_of r p)

-- 32h: "u16 room"; "Ask for the next, into a buffer of `room` bytes"
unfoldable pub done_of : Asked → Done
done_of a = record { number = a.number; written = a.written }

unfoldable pub asked : Asked → Answered
asked a = answers (answer.Handed Next (done_of a)) a.receiver

unfoldable pub next_in : Receiver → Result ℕ Cause → Step
next_in r (Ok room) = step (asked (next_of r room)) (over (next_out r (untouched room)) fresh)
next_in r (Err cause) = step (bad_fed r cause) fresh

unfoldable pub next_fed : Receiver → List ℕ → Step
next_fed r p = cond (ltb 2 (length p)) (step (bad_fed r TooLong) fresh) (next_in r (room_at p 0))

-- 33h: "nothing"
unfoldable pub give_up_fed : Receiver → List ℕ → Answered
give_up_fed r p = cond (eqb (length p) 0) (answers answer.GiveUp (moved_on r)) (bad_fed r TooLong)

unfoldable pub fed : Receiver → ℕ → List ℕ → Step
fed r tag p =
    cond (eqb tag 0x30) (step (fresh_fed r p) fresh)
    (cond (eqb tag 0x31) (step (arrive_fed r p) fresh)
    (cond (eqb tag 0x32) (next_fed r p)
    (cond (eqb tag 0x33) (step (give_up_fed r p) fresh)
    (step (bad_fed r (UnknownTag tag)) fresh))))

-- the record at the front of what is left of the input
unfoldable pub front : Receiver → List ℕ → Step
front r bytes = front_fed fed r bytes

unfoldable pub line_next : Receiver → List ℕ → List ℕ
line_next r bytes = step_line (front r bytes)
