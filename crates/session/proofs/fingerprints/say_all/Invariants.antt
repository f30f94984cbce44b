-- `session::fingerprints::say_all` meets its contract. The loop's invariant: the fingerprints so far are said, and are without what was said.
use Prim.Native.Nat.{◌-◌, ◌≤◌}
use mathlib.Core.Path.{◌≡◌}
use mathlib.Core.List.{◌++◌}
use lib.ListN.{length, take, drop, replicate}
use Rattle.container.specs.Contents.{blank_print}
use Rattle.session.specs.Fingerprints.{each, shed, prints_of}
use Rattle.session.proofs.fingerprints.say_all.Given as goal

abbrev pub invariant-loop-k : goal.invariant-loop-k
invariant-loop-k l =
    (l.k ≤ l.n)
    × (length l.initial.left ≡ 32)
    × (l.said ≡ take l.k (prints_of l.due 0 l.n l.initial.left) ++ drop l.k (replicate 32 blank_print))
    × (l.left ≡ each (shed l.due) l.k l.initial.left)

abbrev pub decreases-loop-k : goal.decreases-loop-k
decreases-loop-k l = l.n - l.k
