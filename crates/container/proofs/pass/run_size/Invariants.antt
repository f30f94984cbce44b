-- `container::pass::run_size` meets its contract. The loop's invariant: the fingerprints so far are passed.
use Rattle.std.proofs.Common.{◌≤◌, length}
use Rattle.container.proofs.Passing.{Passed}
use Rattle.container.proofs.pass.run_size.Given as goal

abbrev pub invariant-loop : goal.invariant-loop
invariant-loop l = (l.at ≤ length l.b) × Passed l.rate l.n l.b l.counter l.at
