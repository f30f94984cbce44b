-- `mending::put_kept` meets its contract. The loop's invariant: with what is kept from this place on put behind what was put, all of it stands.
use Prim.Native.Nat.{◌-◌, ◌≤◌}
use mathlib.Core.Path.{◌≡◌}
use lib.ListN.{length, drop}
use Rattle.mending.specs.Mending.{mended}
use Rattle.mending.proofs.Walks.{Putting}
use Rattle.mending.proofs.put_kept.Given as goal

abbrev pub invariant-loop-at : goal.invariant-loop-at
invariant-loop-at l = (length l.out ≡ length l.initial.out) × ((l.place ≤ l.next) × Putting l.recording (mended (drop l.from l.recording)) l.initial.out l.out l.place l.at l.next)

abbrev pub decreases-loop-at : goal.decreases-loop-at
decreases-loop-at l = length l.recording - l.at
