-- `bench_video::bench_lines` meets its contract. The loop's invariant: what the lines passed give.
use mathlib.Core.Path.{◌≡◌}
use Rattle.bench_video.specs.Bench.{after_lines}
use Rattle.bench_video.proofs.bench_lines.Given as goal

abbrev pub invariant-loop-i : goal.invariant-loop-i
invariant-loop-i l = l.a ≡ after_lines l.format l.numbers l.lines l.i
