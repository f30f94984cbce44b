use mathlib.Core.Path.{◌≡◌, refl, ap, ◌∙◌}
use native.Mathlib.Numerals.{add-one}
use native.Mathlib.Omega.{arith}
use borrow.Author.Rules.{rules}
use Rattle.sampling.specs.Formats.{row_of}
use Rattle.bench_session.specs.declared.Turn.{Turn}
use Rattle.bench_session.specs.Frames.{frame_of, turn_at, line_at, turns, sum_after}
use Rattle.bench_session.proofs.frames.Goals as goal

pub loop-i-init : goal.loop-i-init
unfolding turns
loop-i-init c = (refl, search rules)

pub loop-i-preserved : goal.loop-i-preserved
unfolding turns
loop-i-preserved c =
    let a = c.args in
    let l = c.loop-i in (
      rw add-one (c.frame_at.ensures.0 ∙ ap (frame_of a.load (line_at a.even.now a.odd.now (turn_at (row_of a.load.format) l.i)) a.block.now) l.invariant.0),
      c.frame_at.ensures.1,
    )

pub returns : goal.returns
unfolding sum_after
returns c =
    let a = c.args in
    let all : c.loop-i.i ≡ a.rounds = omega arith in
    ap (λ (t : Turn). t.sum) (c.loop-i.invariant.0 ∙ ap (turns a.load a.even.now a.odd.now a.block.now a.s) all)
