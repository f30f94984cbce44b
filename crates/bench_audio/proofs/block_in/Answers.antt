-- `bench_audio::block_in` meets its contract.
use mathlib.Core.Path.{ap, ◌∙◌}
use Rattle.bench_audio.specs.Turns.{taken_in, next_turn}
use Rattle.bench_audio.proofs.block_in.Goals as goal

pub returns : goal.returns
unfolding next_turn
returns c =
    let a = c.args in
    (c.taken_in.ensures.0 ∙ ap (taken_in a.t.sum) c.hear.ensures, c.taken_in.ensures.1)
