use Prim.Native.Nat.{◌*◌}
use mathlib.Core.Path.{refl, ap, ap₂, ◌∙◌}
use native.Mathlib.Numerals.{add-one}
use Rattle.laws.proofs.Lists.{tail_part}
use Rattle.bench_audio.specs.Instants.{instant_of, instant_in, instants_in}
use Rattle.bench_audio.proofs.instants_in.Goals as goal

pub loop-i-init : goal.loop-i-init
unfolding instants_in
loop-i-init c = refl

pub loop-i-preserved : goal.loop-i-preserved
unfolding instants_in
loop-i-preserved c =
    let l = c.loop-i in
    let a = c.args in
    let i = c.instant_of.ensures ∙ ap (instant_of a.mix) (tail_part a.values.now (l.i * a.mix)) in
    rw add-one (c.instant_in-g.ensures ∙ ap₂ (instant_in a.rule a.d) l.invariant i)
