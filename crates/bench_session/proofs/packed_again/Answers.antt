use mathlib.Core.Path.{ap₂, ◌∙◌}
use native.Mathlib.Numerals.{add-one}
use borrow.Author.Rules.{rules}
use Rattle.bench_session.specs.Frames.{bytes_in, packings}
use Rattle.bench_session.proofs.packed_again.Goals as goal

pub loop-i-init : goal.loop-i-init
unfolding packings
loop-i-init c = (search rules, search rules)

pub loop-i-preserved : goal.loop-i-preserved
unfolding packings
loop-i-preserved c =
    let p = c.pack in
    let l = c.loop-i in (
      rw add-one (c.bytes_in-sum.ensures.0 ∙ ap₂ bytes_in l.invariant.0 p.ensures.left),
      c.bytes_in-sum.ensures.1,
    )
