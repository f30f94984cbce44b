-- `flat::put_prints` meets its contract. The loop's invariant: the fingerprints still to be stored, stored into out as it now is, give the promised bytes.
use Prim.Native.Nat.{◌+◌, ◌*◌}
use mathlib.Core.Path.{◌≡◌}
use lib.ListN.{length, drop}
use lib.Seq.{sets}
use Rattle.flat.specs.Flat.{flat_prints}
use Rattle.flat.proofs.put_prints.Given as goal

abbrev pub invariant-loop-k : goal.invariant-loop-k
invariant-loop-k l = (length (flat_prints l.print-items) ≡ 8 * l.k + length (flat_prints (drop l.k l.print-items))) × (sets l.initial.out 27 (flat_prints l.print-items) ≡ sets l.out (27 + 8 * l.k) (flat_prints (drop l.k l.print-items)))
