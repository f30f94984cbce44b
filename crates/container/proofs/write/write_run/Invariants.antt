-- `container::write::write_run` meets its contract. The loop's invariant: the fingerprints so far are written.
use Rattle.std.proofs.Common.{◌≡◌, ◌+◌, ◌*◌, ◌≤◌, length, take}
use Rattle.std.proofs.lemmas.List.Edits.{sets}
use Rattle.container.specs.Bytes.{run_bytes}
use Rattle.container.proofs.write.write_run.Given as goal

abbrev pub invariant-loop-print : goal.invariant-loop-print
invariant-loop-print l = (l.next ≡ l.at + length (run_bytes (take l.print-index l.prints))) × (length (run_bytes (take l.print-index l.prints)) ≤ 7 * l.print-index) × (l.out ≡ sets l.initial.out l.at (run_bytes (take l.print-index l.prints)))
