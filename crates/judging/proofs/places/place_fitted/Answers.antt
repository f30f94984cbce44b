-- `judging::places::place_fitted` meets its contract.
use borrow.Author.Tests.{eq-eqb, ne_eqb}
use Rattle.judging.specs.Places.{place_fitted}
use Rattle.judging.proofs.places.place_fitted.Goals as goal

pub returns-then-bytes_due-bytes : goal.returns-then-bytes_due-bytes
unfolding place_fitted
returns-then-bytes_due-bytes c = rw (← c.bytes_due.ensures, ne_eqb _ _ c.if-bytes_due-bytes.true)

pub returns : goal.returns
unfolding place_fitted
returns c = rw (← c.bytes_due.ensures, eq-eqb _ _ c.if-bytes_due-bytes.false) c.next_place.ensures
