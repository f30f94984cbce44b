-- `fingerprint::heard` meets its contract. The loop's invariant: rest, the filters and the wait together are the fingerprint after the first i instants.
use Prim.Native.Nat.{◌*◌, ◌-◌, ◌≤◌}
use mathlib.Core.Path.{◌≡◌}
use Rattle.fingerprint.specs.State.{after, values_at}
use Rattle.fingerprint.specs.Parts.{with_filters_of}
use Rattle.fingerprint.proofs.heard.Given as goal

abbrev pub invariant-loop-i : goal.invariant-loop-i
invariant-loop-i l =
    (l.i ≤ l.n) × (l.at ≡ l.i * l.size) × (with_filters_of l.rest l.v l.wait ≡ after l.d l.initial.rest (values_at l.rule l.mix l.block 0 l.i))

abbrev pub decreases-loop-i : goal.decreases-loop-i
decreases-loop-i l = l.n - l.i
