-- `container::read::read_run` meets its contract. The loop's invariant: the fingerprints so far are read, into their places.
use Rattle.std.proofs.Common.{◌≤◌, length}
use Rattle.container.proofs.Runs.{Filled}
use Rattle.container.proofs.read.read_run.Given as goal

abbrev pub invariant-loop-k : goal.invariant-loop-k
invariant-loop-k l = (l.at ≤ length l.b) × Filled l.rate l.n l.b l.k l.at l.prints
