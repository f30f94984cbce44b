use mathlib.Core.Path.{refl, ap, ◌∙◌}
use native.Mathlib.Numerals.{add-one}
use Rattle.session.specs.declared.Session.{Session}
use Rattle.session.specs.Session.{Sounded, sound_of}
use Rattle.bench_session.specs.Frames.{each_heard}
use Rattle.bench_session.proofs.each_heard.Goals as goal

pub loop-k-init : goal.loop-k-init
unfolding each_heard
loop-k-init c = refl

pub loop-k-preserved : goal.loop-k-preserved
unfolding each_heard
loop-k-preserved c =
    let a = c.args in
    let l = c.loop-k in
    rw add-one (ap (λ (r : Sounded). r.session) (c.sound.ensures ∙ ap (λ (t : Session). sound_of t l.k a.block.now) l.invariant))
