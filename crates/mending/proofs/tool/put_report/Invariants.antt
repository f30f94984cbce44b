-- `mending::tool::put_report` meets its contract. The loop's invariant: what was said, with what is left to say, is the report.
use Prim.Native.Nat.{◌-◌}
use mathlib.Core.Path.{◌≡◌}
use lib.ListN.{length}
use Rattle.mending.proofs.Lines.{Saying}
use Rattle.mending.proofs.tool.put_report.Given as goal

abbrev pub invariant-loop-at : goal.invariant-loop-at
invariant-loop-at l = (length l.out ≡ length l.initial.out) × Saying l.recording l.initial.out l.out l.kept l.start l.at l.p

abbrev pub decreases-loop-at : goal.decreases-loop-at
decreases-loop-at l = length l.recording - l.at
