-- `bench_session::bench_frames` meets its contract.
use mathlib.Core.Path.{ap, ◌∙◌}
use lib.ListN.{length}
use Rattle.session.specs.declared.Session.{Session}
use Rattle.bench_session.specs.Frames.{block_each, sum_after}
use Rattle.bench_session.proofs.bench_frames.Goals as goal

pub returns : goal.returns
unfolding block_each
returns c =
    let a = c.args in
    c.frames.ensures
    ∙ ap (λ (s : Session). sum_after (block_each a.format (length a.mixes.now)) a.even.now a.odd.now a.block.now s a.rounds) c.begin-s.ensures
