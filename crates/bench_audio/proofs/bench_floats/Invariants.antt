-- `bench_audio::bench_floats` meets its contract. The loop's invariant: what the turns passed give.
use Prim.Native.Nat.{◌<◌}
use mathlib.Core.Path.{◌≡◌}
use Rattle.bench_audio.specs.Instants.{float_turns}
use Rattle.bench_audio.proofs.bench_floats.Given as goal

abbrev pub invariant-loop-i : goal.invariant-loop-i
invariant-loop-i l = (l.t ≡ float_turns l.rule l.mix l.d l.values l._i) × (l.t.sum < 4294967296)
