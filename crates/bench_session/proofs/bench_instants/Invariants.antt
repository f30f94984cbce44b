-- `bench_session::bench_instants` meets its contract. The loop's invariant: what the frames passed give.
use Prim.Native.Nat.{◌<◌}
use mathlib.Core.Path.{◌≡◌}
use Rattle.bench_session.specs.Instants.{instant_turns}
use Rattle.bench_session.proofs.bench_instants.Given as goal

abbrev pub invariant-loop-i : goal.invariant-loop-i
invariant-loop-i l = (l.t ≡ instant_turns l.rule l.mixes l.mix l.line l.values l._i) × (l.t.sum < 4294967296)
