-- `answers::asks::room_at` meets its contract: each answer by the tests that led to it.
use Prim.Native.Nat.{◌+◌}
use native.Mathlib.Omega.{arith}
use lib.ListN.{length}
use borrow.Author.Tests.{le-leb, lt-leb}
use Rattle.laws.proofs.Tests.{tests}
use Rattle.answers.specs.Rooms.{room_at}
use Rattle.answers.proofs.asks.room_at.Goals as goal

pub returns-then-payload-lt2 : goal.returns-then-payload-lt2
unfolding room_at
returns-then-payload-lt2 c = let a = c.args in rw (lt-leb (a.at + 2) (length a.payload.now) (omega arith))

pub returns-then-room-le4096 : goal.returns-then-room-le4096
unfolding room_at
returns-then-room-le4096 c = let a = c.args in rw (← c.pair_at-room.ensures.0, le-leb (a.at + 2) (length a.payload.now) (omega arith)) (search tests)

pub returns : goal.returns
unfolding room_at
returns c = let a = c.args in rw (← c.pair_at-room.ensures.0, le-leb (a.at + 2) (length a.payload.now) (omega arith)) (search tests)
