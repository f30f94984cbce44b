-- `bench_audio::bench_audio` meets its contract.
use Prim.Native.Nat.{◌<◌}
use mathlib.Core.Path.{◌≡◌}
use Rattle.bench_audio.specs.Turns.{turns}
use Rattle.bench_audio.proofs.bench_audio.Given as goal

abbrev pub invariant-loop-i : goal.invariant-loop-i
invariant-loop-i l = (l.t ≡ turns l.rule l.mix l.d l.block l._i) × (l.t.sum < 4294967296)
