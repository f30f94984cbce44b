use mathlib.Core.Path.{◌≡◌, ap, ◌∙◌}
use native.Mathlib.Numerals.{add-one}
use native.Mathlib.Omega.{arith}
use Rattle.bench_audio.specs.declared.Turn.{Turn}
use Rattle.bench_audio.specs.Turns.{taken_in}
use Rattle.bench_audio.specs.Instants.{all_in, float_turns, float_sum_after}
use Rattle.bench_audio.proofs.bench_floats.Goals as goal

pub loop-i-init : goal.loop-i-init
unfolding float_turns
loop-i-init c = (rw c.fresh.ensures, omega arith)

pub loop-i-preserved : goal.loop-i-preserved
unfolding float_turns
loop-i-preserved c =
    let a = c.args in
    let l = c.loop-i in
    let heard = ap (taken_in l.t.sum) c.all_in.ensures in
    let next = ap (λ (t : Turn). taken_in t.sum (all_in a.rule a.mix a.d a.values.now t.fingerprint)) l.invariant.0 in
    (rw add-one (c.taken_in-t.ensures.0 ∙ heard ∙ next), c.taken_in-t.ensures.1)

pub returns : goal.returns
unfolding float_sum_after
returns c =
    let a = c.args in
    let all : c.loop-i._i ≡ a.rounds = omega arith in
    ap (λ (t : Turn). t.sum) (c.loop-i.invariant.0 ∙ ap (float_turns a.rule a.mix a.d a.values.now) all)
