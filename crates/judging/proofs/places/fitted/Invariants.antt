-- `judging::places::fitted` meets its contract. The loop's invariant: the places so far are done.
use mathlib.Core.Path.{◌≡◌}
use lib.ListN.{length}
use Rattle.laws.specs.Lists.{each}
use Rattle.judging.specs.Places.{place_fitted}
use Rattle.judging.proofs.places.fitted.Given as goal

abbrev pub invariant-loop-place : goal.invariant-loop-place
invariant-loop-place l = (length l.initial.place-items ≡ 40) × (l.place-items ≡ each (place_fitted l.rate l.bytes) l.place-index l.initial.place-items)
