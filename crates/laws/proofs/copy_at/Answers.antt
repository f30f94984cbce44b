use Rattle.std.proofs.Common.{◌+◌, sym, ◌∙◌, arith, drop}
use Rattle.laws.proofs.Lists.{sets_out}
use Rattle.laws.proofs.copy_at.Goals as goal

pub returns-then-out-at : goal.returns-then-out-at
returns-then-out-at c =
    let l = c.loop-i in
    let a = c.args in
    sym (l.invariant.2 ∙ sets_out l.out (a.at + l.i) (drop l.i a.src.now) (omega arith))

pub returns-then-out-at-2 : goal.returns-then-out-at-2
returns-then-out-at-2 c =
    let l = c.loop-i in
    let a = c.args in
    sym (l.invariant.2 ∙ sets_out l.out (a.at + l.i) (drop l.i a.src.now) (omega arith))
