-- `mending::next_field` meets its contract. The loop's invariant: the place asked for is the next one from here on.
use Prim.Native.Nat.{◌+◌}
use mathlib.Core.Path.{◌≡◌}
use lib.ListN.{drop}
use Rattle.mending.specs.Places.{gap}
use Rattle.mending.proofs.next_field.Given as goal

abbrev pub invariant-loop-at : goal.invariant-loop-at
invariant-loop-at l = l.from + gap (drop l.from l.recording) ≡ l.at + gap (drop l.at l.recording)
