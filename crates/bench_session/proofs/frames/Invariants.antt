-- `bench_session::frames` meets its contract. The loop's invariant: what the frames passed give.
use Prim.Native.Nat.{◌<◌}
use mathlib.Core.Path.{◌≡◌}
use Rattle.bench_session.specs.Frames.{turns}
use Rattle.bench_session.proofs.frames.Given as goal

abbrev pub invariant-loop-i : goal.invariant-loop-i
invariant-loop-i l = (l.t ≡ turns l.load l.even l.odd l.block l.initial.t.session l.i) × (l.t.sum < 4294967296)
