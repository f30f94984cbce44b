-- `bench_session::bytes_in` meets its contract. The loop's invariant: the sum is that over what is left.
use Prim.Native.Nat.{◌<◌}
use mathlib.Core.Path.{◌≡◌}
use lib.ListN.{drop}
use Rattle.bench_session.specs.Frames.{bytes_in}
use Rattle.bench_session.proofs.bytes_in.Given as goal

abbrev pub invariant-loop-b : goal.invariant-loop-b
invariant-loop-b l = (bytes_in l.sum l.bytes ≡ bytes_in l.total (drop l.b-index l.bytes)) × (l.total < 4294967296)
