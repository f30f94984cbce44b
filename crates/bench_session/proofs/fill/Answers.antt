-- `bench_session::fill` meets its contract.
use mathlib.Core.Path.{ap, ◌∙◌}
use Rattle.session.specs.declared.Session.{Session}
use Rattle.bench_session.specs.Frames.{other_lines, sounds, filled_with}
use Rattle.bench_session.proofs.fill.Goals as goal

pub returns : goal.returns
unfolding filled_with
returns c =
    let a = c.args in
    let line = a.line.now in
    let block = a.block.now in
    c.heard.ensures
    ∙ ap (λ (t : Session). sounds a.load.count block t a.load.blocks) c.others.ensures
    ∙ ap (λ (t : Session). sounds a.load.count block (other_lines t line a.load.others) a.load.blocks) c.fields.ensures
