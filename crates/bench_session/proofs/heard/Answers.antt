use mathlib.Core.Path.{refl, ap, ◌∙◌}
use native.Mathlib.Numerals.{add-one}
use Rattle.session.specs.declared.Session.{Session}
use Rattle.bench_session.specs.Frames.{each_heard, sounds}
use Rattle.bench_session.proofs.heard.Goals as goal

pub loop-k-init : goal.loop-k-init
unfolding sounds
loop-k-init c = refl

pub loop-k-preserved : goal.loop-k-preserved
unfolding sounds
loop-k-preserved c =
    let a = c.args in
    let l = c.loop-k in
    rw add-one (c.each_heard.ensures ∙ ap (λ (t : Session). each_heard a.block.now t a.count) l.invariant)
