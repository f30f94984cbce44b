-- `bench_audio::instants_in` meets its contract. The loop's invariant: what the instants passed make.
use mathlib.Core.Path.{◌≡◌}
use Rattle.bench_audio.specs.Instants.{instants_in}
use Rattle.bench_audio.proofs.instants_in.Given as goal

abbrev pub invariant-loop-i : goal.invariant-loop-i
invariant-loop-i l = l.g ≡ instants_in l.rule l.mix l.d l.values l.initial.g l.i
