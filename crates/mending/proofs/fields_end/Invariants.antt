-- `mending::fields_end` meets its contract. The loop's invariant: all up to this place is kept.
use Prim.Native.Nat.{◌-◌}
use lib.ListN.{length}
use Rattle.mending.specs.Places.{Stretch}
use Rattle.mending.proofs.fields_end.Given as goal

abbrev pub invariant-loop-end : goal.invariant-loop-end
invariant-loop-end l = Stretch l.recording l.at l.end

abbrev pub decreases-loop-end : goal.decreases-loop-end
decreases-loop-end l = length l.recording - l.end
