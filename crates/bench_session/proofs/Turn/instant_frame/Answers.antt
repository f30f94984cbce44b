-- `Turn::instant_frame` meets its contract.
use mathlib.Core.Path.{ap, ◌∙◌}
use lib.ListN.{replicate}
use Rattle.session.specs.declared.Session.{Session}
use Rattle.bench_session.specs.Frames.{packed_in}
use Rattle.bench_session.specs.Instants.{all_heard, instant_frame}
use Rattle.bench_session.proofs.Turn.instant_frame.Goals as goal

pub returns : goal.returns
unfolding instant_frame
returns c =
    let a = c.args in
    let p = c.pack in
    let heard = c.all_heard.ensures ∙ ap (all_heard a.count a.mix a.values.now) c.fields.ensures in
    (p.ensures.0 ∙ ap (λ (s : Session). packed_in (replicate 254 0) s a.self.now.sum) heard, p.ensures.1)
