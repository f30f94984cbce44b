-- What a call that hands out bytes tells its caller and leaves in the buffer lent for them (01, "What a caller is told").
use Rattle.std.specs.Prelude.{ℕ, List, ◌++◌, Bool, cond, length, take, drop, ltb, eqb}
use Rattle.laws.specs.declared.Done.{Done}

-- a chain of refusals, "the number furthest left is checked first": the test that must hold, the number where it does not, and what is checked next
abbrev pub unless : Bool → ℕ → ℕ → ℕ
unless test number next = cond test next number

-- "A success writes the first bytes of the output as counted and no others"
unfoldable pub over : List ℕ → List ℕ → List ℕ
over bytes out = bytes ++ drop (length bytes) out

-- the call's number, of which all but 12 is settled: 12 where the bytes have too little room, and only where nothing else is wrong
unfoldable pub room_number : ℕ → List ℕ → ℕ → ℕ
room_number number bytes room = cond (eqb number 0) (cond (ltb room (length bytes)) 12 0) number

-- "Each refusal returns its number and a written length of zero"
unfoldable pub done_with : ℕ → List ℕ → Done
done_with number bytes = record { number = number; written = cond (eqb number 0) (length bytes) 0 }

-- the buffer after the call: "lent bytes keep their values" in a refusal
unfoldable pub out_with : ℕ → List ℕ → List ℕ → List ℕ
out_with number bytes out = cond (eqb number 0) (over bytes out) out

-- what a call hands out: as many of the first bytes of the buffer that it leaves as it counts as written
abbrev pub handed_out : Done → List ℕ → List ℕ
handed_out d left = take d.written left
