-- 02's A12 as a function of the counter first expected and of the calls and answers so far: no slot is kept, and no counter comes round.
use Rattle.std.specs.Prelude.{ℕ, suc, ◌+◌, Bool, true, false, cond, ◌&&◌, List, [], ◌∷◌, eqb, length}
use Rattle.laws.specs.Calls.{done_with, out_with}
use Rattle.container.specs.Reading.{reading}
use Rattle.receiving.specs.Numbers.{ahead, arrive_number, next_number}
use Rattle.receiving_laws.specs.Calls.{Call, arrive, next, give_up, Answer, saying, Event, event}

-- ---- Histories. Of each: what one event more does, and all events, the newest first.

-- how many were handed out and given up: "moves on by one"
unfoldable pub gone_at : Call → Answer → ℕ → ℕ
gone_at (arrive b) a n = n
gone_at (next out) a n = cond (eqb a.number 0) (suc n) n
gone_at give_up a n = suc n

unfoldable pub gone : List Event → ℕ
gone [] = 0
gone (v ∷ es) = gone_at v.call v.answer (gone es)

-- the expected counter, counted on where that of a container comes round: modulo 256 it is the one that a container has
unfoldable pub expected : ℕ → List Event → ℕ
expected e es = e + gone es

unfoldable pub counter_of : List ℕ → ℕ
counter_of b = (reading b).contents.counter

-- d of an arriving container
unfoldable pub distance : ℕ → List Event → List ℕ → ℕ
distance e es b = ahead (counter_of b) (expected e es)

-- its counter, likewise counted on
unfoldable pub extended : ℕ → List Event → List ℕ → ℕ
extended e es b = expected e es + distance e es b

-- the containers that were taken in under the counter x so counted on
unfoldable pub taken_at : ℕ → List Event → Call → Answer → ℕ → List (List ℕ) → List (List ℕ)
taken_at e es (arrive b) a x ts = cond (eqb a.number 0 && eqb (extended e es b) x) (b ∷ ts) ts
taken_at e es (next out) a x ts = ts
taken_at e es give_up a x ts = ts

unfoldable pub taken : ℕ → List Event → ℕ → List (List ℕ)
taken e [] x = []
taken e (v ∷ es) x = taken_at e es v.call v.answer x (taken e es x)

-- ---- What each call answers

unfoldable pub is_some : List (List ℕ) → Bool
is_some [] = false
is_some (b ∷ bs) = true

-- the newest; there is at most one (`taken_once`)
unfoldable pub first : List (List ℕ) → List ℕ
first [] = []
first (b ∷ bs) = b

-- a call that hands out these bytes, or nothing where its number is not 0
unfoldable pub handing : ℕ → List ℕ → List ℕ → Answer
handing number bytes out = record { number = number; written = (done_with number bytes).written; out = out_with number bytes out }

-- asking for the next, where these were taken in under the expected counter
unfoldable pub asked : List (List ℕ) → List ℕ → Answer
asked ts out = handing (next_number (is_some ts) (first ts) (length out)) (first ts) out

unfoldable pub paper : ℕ → List Event → Call → Answer
paper e es (arrive b) = saying (arrive_number (reading b).number (distance e es b) (is_some (taken e es (extended e es b))))
paper e es (next out) = asked (taken e es (expected e es)) out
paper e es give_up = saying 0

-- what a caller is told who makes the calls cs, the newest first
unfoldable pub transcript : ℕ → List Call → List Event
transcript e [] = []
transcript e (c ∷ cs) = event c (paper e (transcript e cs) c) ∷ transcript e cs
