-- `sampling::fill_single` meets its contract. The loop's invariant: the pixels passed, four a turn, stand at the front of the room, and the next one's place is at hand.
use Prim.Native.Nat.{◌+◌, ◌*◌}
use mathlib.Core.Path.{◌≡◌}
use mathlib.Core.List.{◌++◌}
use lib.ListN.{drop}
use Rattle.sampling.specs.Samples.{pixel_by, firsts}
use Rattle.sampling.proofs.fill_single.Given as goal

abbrev pub invariant-loop-j : goal.invariant-loop-j
invariant-loop-j l =
    (l.at ≡ l.start + l.step * (4 * l.j)) × (l.out ≡ firsts (pixel_by l.line l.start l.step 0 1) (4 * l.j) ++ drop (4 * l.j) l.initial.out)
