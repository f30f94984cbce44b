-- `bench_session::field` meets its contract. The loop's invariant: what the lines passed make.
use mathlib.Core.Path.{◌≡◌}
use Rattle.bench_session.specs.Frames.{field_lines}
use Rattle.bench_session.proofs.field.Given as goal

abbrev pub invariant-loop-k : goal.invariant-loop-k
invariant-loop-k l = l.s ≡ field_lines l.initial.s l.first l.step l.line l.k
