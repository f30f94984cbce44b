-- `session::fingerprints::clear` meets its contract. The loop's invariant: the fingerprints so far are done.
use Prim.Native.Nat.{◌-◌, ◌≤◌}
use mathlib.Core.Path.{◌≡◌}
use lib.ListN.{length}
use Rattle.session.specs.Fingerprints.{each, cleared}
use Rattle.session.proofs.fingerprints.clear.Given as goal

abbrev pub invariant-loop-k : goal.invariant-loop-k
invariant-loop-k l = (l.k ≤ l.n) × (length l.initial.next ≡ 32) × (l.next ≡ each cleared l.k l.initial.next)

abbrev pub decreases-loop-k : goal.decreases-loop-k
decreases-loop-k l = l.n - l.k
