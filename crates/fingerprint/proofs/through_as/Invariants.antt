-- `fingerprint::through_as` meets its contract.
use mathlib.Core.Path.{◌≡◌}
use Rattle.fingerprint.specs.State.{values_at}
use Rattle.fingerprint.specs.Parts.{through_of}
use Rattle.fingerprint.proofs.through_as.Given as goal

abbrev pub invariant-loop-i : goal.invariant-loop-i
invariant-loop-i l = l.next ≡ through_of l.initial.next (values_at l.rule l.mix l.block l.at l.i)
