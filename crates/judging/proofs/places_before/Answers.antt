-- `judging::places_before` meets its contract.
use Rattle.judging.specs.Places.{places_from, every_place}
use Rattle.judging.specs.Judge.{places_before}
use Rattle.judging.proofs.places_before.Goals as goal

pub returns-then-rate_wrong : goal.returns-then-rate_wrong
unfolding places_before every_place places_from
returns-then-rate_wrong c = rw (← c.rate_wrong.ensures, c.if-rate_wrong.true)

pub returns : goal.returns
unfolding places_before
returns c = rw (← c.rate_wrong.ensures, c.if-rate_wrong.false)
