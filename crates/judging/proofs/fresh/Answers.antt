-- `judging::fresh` meets its contract.
use mathlib.Core.Path.{refl}
use Rattle.judging.specs.Places.{places_from, every_place}
use Rattle.judging.specs.Judge.{nothing_known}
use Rattle.judging.proofs.fresh.Goals as goal

pub returns : goal.returns
unfolding nothing_known every_place places_from
returns c = refl
