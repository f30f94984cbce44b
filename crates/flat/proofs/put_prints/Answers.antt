use Prim.Native.Nat.{◌+◌, ◌*◌, ◌<◌}
use mathlib.Core.Path.{◌≡◌, ap, sym, ◌∙◌}
use mathlib.Core.List.{List, []}
use native.Mathlib.Omega.{arith}
use lib.ListN.{length}
use lib.Seq.{sets}
use borrow.Author.Rules.{rules}
use Rattle.container.specs.declared.Print.{Print}
use Rattle.flat.proofs.Places.{length_next, sets_next, flat_end}
use Rattle.flat.proofs.put_prints.Goals as goal

abbrev zeros : Print
zeros = record { id = 0; mix = 0; size = 0; bytes = [] }

pub loop-k-preserved : goal.loop-k-preserved
loop-k-preserved c =
    let l = c.loop-k in
    let ps : List Print = c.args.prints in
    let h : l.k < length ps = search rules in
    let e = c.put_print.ensures.0 in
    let at : 27 + 8 * (l.k + 1) ≡ 27 + 8 * l.k + 8 = omega arith in (
      omega (arith, l.invariant.0, length_next ps l.k zeros h e),
      l.invariant.1 ∙ sets_next ps l.k zeros l.out (27 + 8 * l.k) h e ∙ (rw (at, c.put_print.ensures.1)),
    )

pub returns : goal.returns
returns c =
    let l = c.loop-k in
    let e = flat_end c.args.prints l.k (search rules) in
    let k : l.k ≡ 32 = search rules in
    (omega (arith, l.invariant.0, ap length e), sym (l.invariant.1 ∙ ap (sets l.out (27 + 8 * l.k)) e))
