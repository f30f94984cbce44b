-- `sampling::fill` meets its contract. The loop's invariant: the pixels passed stand at the front of the room.
use mathlib.Core.Path.{◌≡◌}
use mathlib.Core.List.{◌++◌}
use lib.ListN.{drop}
use Rattle.sampling.specs.Samples.{pixel_by, firsts}
use Rattle.sampling.proofs.fill.Given as goal

abbrev pub invariant-loop-k : goal.invariant-loop-k
invariant-loop-k l = l.out ≡ firsts (pixel_by l.line l.start l.step l.before l.n) l.k ++ drop l.k l.initial.out
