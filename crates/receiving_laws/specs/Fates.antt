-- What becomes of the containers that were taken in (02, A12: "each that was taken in is handed out, given up or still held"), by the counter counted on.
use Rattle.std.specs.Prelude.{ℕ, ◌+◌, ◌%◌, ◌≡◌, Bool, false, cond, ◌&&◌, ◌||◌, List, [], ◌∷◌, ◌++◌, leb, eqb, take}
use Rattle.container.specs.Reading.{reading}
use Rattle.receiving.specs.declared.Receiver.{Receiver}
use Rattle.receiving_laws.specs.Calls.{Call, arrive, next, give_up, Answer, Event, event, answer_of, after_call}
use Rattle.receiving_laws.specs.History.{gone, expected, counter_of, extended, taken}

-- handed out, when x was the expected counter: the bytes that the call counted as written
unfoldable pub handed_at : ℕ → List Event → Call → Answer → ℕ → List (List ℕ) → List (List ℕ)
handed_at e es (arrive b) a x hs = hs
handed_at e es (next out) a x hs = cond (eqb a.number 0 && eqb (expected e es) x) (take a.written a.out ∷ hs) hs
handed_at e es give_up a x hs = hs

unfoldable pub handed : ℕ → List Event → ℕ → List (List ℕ)
handed e [] x = []
handed e (v ∷ es) x = handed_at e es v.call v.answer x (handed e es x)

-- still held: taken in, and x has not been passed
unfoldable pub held : ℕ → List Event → ℕ → List (List ℕ)
held e es x = cond (leb (expected e es) x) (taken e es x) []

-- given up, when x was the expected counter: what was held then
unfoldable pub given_up_at : ℕ → List Event → Call → ℕ → List (List ℕ) → List (List ℕ)
given_up_at e es (arrive b) x gs = gs
given_up_at e es (next out) x gs = gs
given_up_at e es give_up x gs = cond (eqb (expected e es) x) (held e es x ++ gs) gs

unfoldable pub given_up : ℕ → List Event → ℕ → List (List ℕ)
given_up e [] x = []
given_up e (v ∷ es) x = given_up_at e es v.call x (given_up e es x)

-- ---- All that are held

-- the containers taken in under counters of x and more
unfoldable pub taken_from_at : ℕ → List Event → Call → Answer → ℕ → List (List ℕ) → List (List ℕ)
taken_from_at e es (arrive b) a x ts = cond (eqb a.number 0 && leb x (extended e es b)) (b ∷ ts) ts
taken_from_at e es (next out) a x ts = ts
taken_from_at e es give_up a x ts = ts

unfoldable pub taken_from : ℕ → List Event → ℕ → List (List ℕ)
taken_from e [] x = []
taken_from e (v ∷ es) x = taken_from_at e es v.call v.answer x (taken_from e es x)

unfoldable pub all_held : ℕ → List Event → List (List ℕ)
all_held e es = taken_from e es (expected e es)

-- one of them has this counter
unfoldable pub any_with : ℕ → List (List ℕ) → Bool
any_with counter [] = false
any_with counter (b ∷ bs) = eqb (counter_of b) counter || any_with counter bs

-- ---- A container that was handed out

-- it arrived, and was told 0
pub data ArrivedIn (b : List ℕ) : List Event → Type 0 where
  here : {es : List Event} {a : Answer} → a.number ≡ 0 → ArrivedIn b (event (arrive b) a ∷ es)
  before : {es : List Event} {v : Event} → ArrivedIn b es → ArrivedIn b (v ∷ es)

-- "Every container handed out was accepted": it is byte for byte one that arrived with number 0, and its counter is the first expected one plus the number
-- handed out and given up before it, modulo 256
pub record InOrder (e : ℕ) (es : List Event) (b : List ℕ) : Type 0 where
  pub arrived : ArrivedIn b es
  pub accepted : (reading b).number ≡ 0
  pub counter : counter_of b ≡ (e + gone es) % 256

unfoldable pub HandsOut : ℕ → List Event → Call → Answer → Type 0
HandsOut e es (arrive b) a = Unit {0}
HandsOut e es (next out) a = a.number ≡ 0 → InOrder e es (take a.written a.out)
HandsOut e es give_up a = Unit {0}

-- something of each event of a history, with the events before it
unfoldable pub Every : (List Event → Call → Answer → Type 0) → List Event → Type 0
Every P [] = Unit {0}
Every P (v ∷ es) = P es v.call v.answer × Every P es

-- ---- What a refused call leaves

-- the buffer that a call is lent
unfoldable pub lent : Call → List ℕ
lent (arrive b) = []
lent (next out) = out
lent give_up = []

-- "Each refusal returns its number and a written length of zero", and changes neither the receiver nor a lent byte
pub record Untouched (r : Receiver) (c : Call) : Type 0 where
  pub receiver : after_call r c ≡ r
  pub written : (answer_of r c).written ≡ 0
  pub out : (answer_of r c).out ≡ lent c
