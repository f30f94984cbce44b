use mathlib.Core.Path.{refl, ap, ◌∙◌}
use native.Mathlib.Numerals.{add-one}
use Rattle.session.specs.declared.Session.{Session}
use Rattle.session.specs.Session.{line_of}
use Rattle.bench_session.specs.Frames.{other_lines}
use Rattle.bench_session.proofs.Left.{line_left}
use Rattle.bench_session.proofs.others.Goals as goal

pub loop-k-init : goal.loop-k-init
unfolding other_lines
loop-k-init c = refl

pub loop-k-preserved : goal.loop-k-preserved
unfolding other_lines
loop-k-preserved c =
    let a = c.args in
    let l = c.loop-k in
    rw add-one (line_left _ _ _ (c.line.ensures.answer ∙ ap (λ (t : Session). line_of t 1000 a.line.now) l.invariant))
