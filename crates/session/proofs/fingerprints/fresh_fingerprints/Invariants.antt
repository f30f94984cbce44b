-- `session::fingerprints::fresh_fingerprints` meets its contract. The loop's invariant: the fingerprints so far are fresh.
use Prim.Native.Nat.{◌-◌, ◌≤◌}
use mathlib.Core.Path.{◌≡◌}
use mathlib.Core.List.{◌++◌, map}
use lib.ListN.{length, take, drop, replicate}
use Rattle.fingerprint.specs.State.{fresh_of}
use Rattle.session.proofs.fingerprints.fresh_fingerprints.Given as goal

abbrev pub invariant-loop-k : goal.invariant-loop-k
invariant-loop-k l = (l.k ≤ length l.mixes) × (l.fingerprints ≡ take l.k (map fresh_of l.mixes) ++ drop l.k (replicate 32 (fresh_of 0)))

abbrev pub decreases-loop-k : goal.decreases-loop-k
decreases-loop-k l = length l.mixes - l.k
