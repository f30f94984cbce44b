-- `bench_session::heard` meets its contract. The loop's invariant: what the blocks passed make.
use mathlib.Core.Path.{◌≡◌}
use Rattle.bench_session.specs.Frames.{sounds}
use Rattle.bench_session.proofs.heard.Given as goal

abbrev pub invariant-loop-k : goal.invariant-loop-k
invariant-loop-k l = l.s ≡ sounds l.count l.block l.initial.s l._k
