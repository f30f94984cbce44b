-- `bench_session::packed_again` meets its contract. The loop's invariant: what the packings passed give.
use Prim.Native.Nat.{◌<◌}
use mathlib.Core.Path.{◌≡◌}
use Rattle.bench_session.specs.Frames.{packings}
use Rattle.bench_session.proofs.packed_again.Given as goal

abbrev pub invariant-loop-i : goal.invariant-loop-i
invariant-loop-i l = (l.sum ≡ packings l.ready l._i) × (l.sum < 4294967296)
