-- `bench_session::each_heard` meets its contract. The loop's invariant: what the blocks passed make.
use mathlib.Core.Path.{◌≡◌}
use Rattle.bench_session.specs.Frames.{each_heard}
use Rattle.bench_session.proofs.each_heard.Given as goal

abbrev pub invariant-loop-k : goal.invariant-loop-k
invariant-loop-k l = l.s ≡ each_heard l.block l.initial.s l.k
