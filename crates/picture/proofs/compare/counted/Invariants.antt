-- `picture::compare::counted` meets its contract. The loop's invariant: the counts of the places passed.
use mathlib.Core.Path.{◌≡◌}
use lib.ListN.{take}
use Rattle.picture.specs.Fields.{brighter_in, darker_in}
use Rattle.picture.proofs.compare.counted.Given as goal

abbrev pub invariant-loop-i : goal.invariant-loop-i
invariant-loop-i l =
    (l.brighter ≡ brighter_in (take l.i l.field) (take l.i l.older)) × (l.darker ≡ darker_in (take l.i l.field) (take l.i l.older))
