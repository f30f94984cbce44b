-- `bench_session::others` meets its contract. The loop's invariant: what the lines passed make.
use mathlib.Core.Path.{◌≡◌}
use Rattle.bench_session.specs.Frames.{other_lines}
use Rattle.bench_session.proofs.others.Given as goal

abbrev pub invariant-loop-k : goal.invariant-loop-k
invariant-loop-k l = l.s ≡ other_lines l.initial.s l.line l._k
