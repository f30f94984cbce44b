-- The calls on a receiver: what each answers, and which receiver it leaves, by its contract's own definition; and runs of any calls.
use Rattle.std.specs.Prelude.{ℕ, List, [], ◌∷◌, length}
use Rattle.laws.specs.Bytes.{Bytes}
use Rattle.receiving.specs.declared.Receiver.{Receiver}
use Rattle.receiving.specs.Receiver.{arrive_of, moved_on, next_of, next_out}

-- a container's bytes arrive; the next is asked for, with the buffer lent for it; it is given up
pub data Call : Type 0 where
  arrive : List ℕ → Call
  next : List ℕ → Call
  give_up : Call

-- what a caller is told: the number and the written length; and the buffer lent, as it is after the call
pub record Answer : Type 0 where
  pub number : ℕ
  pub written : ℕ
  pub out : List ℕ

abbrev pub saying : ℕ → Answer
saying number = record { number = number; written = 0; out = [] }

-- a call, and what its caller was told
pub record Event : Type 0 where
  pub call : Call
  pub answer : Answer

abbrev pub event : Call → Answer → Event
event c a = record { call = c; answer = a }

unfoldable pub calls : List Event → List Call
calls [] = []
calls (v ∷ es) = v.call ∷ calls es

-- ---- By the contracts of `receiving`

unfoldable pub answer_of : Receiver → Call → Answer
answer_of r (arrive b) = saying (arrive_of r b).number
answer_of r (next out) = record { number = (next_of r (length out)).number; written = (next_of r (length out)).written; out = next_out r out }
answer_of r give_up = saying 0

unfoldable pub after_call : Receiver → Call → Receiver
after_call r (arrive b) = (arrive_of r b).receiver
after_call r (next out) = (next_of r (length out)).receiver
after_call r give_up = moved_on r

-- what arrives is lent as bytes, as a lent slice of bytes is
unfoldable pub Lent : Call → Type 0
Lent (arrive b) = Bytes b
Lent (next out) = Unit {0}
Lent give_up = Unit {0}

-- `Run r es t`: from r the calls of es, newest first, have their answers, and lead to t
pub data Run (r : Receiver) : List Event → Receiver → Type 0 where
  none : Run r [] r
  then : {es : List Event} {t : Receiver} (c : Call) → Lent c → Run r es t → Run r (event c (answer_of t c) ∷ es) (after_call t c)
