-- `bench_audio::all_in` meets its contract.
use native.Mathlib.Nat.{div-zero}
use lib.ListN.{length}
use Rattle.bench_audio.specs.Instants.{instants_in, all_in}
use Rattle.bench_audio.proofs.all_in.Goals as goal

pub returns-then-mix-eq0 : goal.returns-then-mix-eq0
unfolding all_in instants_in
returns-then-mix-eq0 c = let a = c.args in rw (c.if-mix-eq0.true, div-zero (length a.values.now))

pub returns : goal.returns
unfolding all_in
returns c = c.instants_in.ensures
