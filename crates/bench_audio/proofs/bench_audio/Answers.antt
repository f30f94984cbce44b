use mathlib.Core.Path.{◌≡◌, ap, ◌∙◌}
use native.Mathlib.Numerals.{add-one}
use native.Mathlib.Omega.{arith}
use Rattle.bench_audio.specs.declared.Turn.{Turn}
use Rattle.bench_audio.specs.Turns.{next_turn, turns, sum_after}
use Rattle.bench_audio.proofs.bench_audio.Goals as goal

pub loop-i-init : goal.loop-i-init
unfolding turns
loop-i-init c = (rw c.fresh.ensures, omega arith)

pub loop-i-preserved : goal.loop-i-preserved
unfolding turns
loop-i-preserved c =
    let a = c.args in
    (rw add-one (c.block_in-t.ensures.0 ∙ ap (next_turn a.rule a.d a.block.now) c.loop-i.invariant.0), c.block_in-t.ensures.1)

pub returns : goal.returns
unfolding sum_after
returns c =
    let a = c.args in
    let all : c.loop-i._i ≡ a.rounds = omega arith in
    ap (λ (t : Turn). t.sum) (c.loop-i.invariant.0 ∙ ap (turns a.rule a.mix a.d a.block.now) all)
