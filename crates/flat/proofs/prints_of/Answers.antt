use Prim.Native.Nat.{ℕ, ◌*◌}
use mathlib.Core.Path.{◌≡◌, ap, ◌∙◌}
use mathlib.Core.List.{List, ◌++◌, append-nil}
use native.Mathlib.Omega.{arith}
use lib.ListN.{set, take, drop, replicate}
use lib.Seq.{take_all}
use Rattle.container.specs.declared.Print.{Print}
use Rattle.container.specs.Contents.{blank_print}
use Rattle.laws.proofs.Lists.{tail_part}
use Rattle.container.proofs.Runs.{fill_step}
use Rattle.flat.specs.Unflat.{print_of, prints_of}
use Rattle.flat.proofs.Places.{length_prints, print_at}
use Rattle.flat.proofs.prints_of.Goals as goal

pub loop-k-preserved : goal.loop-k-preserved
loop-k-preserved c =
    let l = c.loop-k in
    let b : List ℕ = c.args.b.now in
    let p : c.print_of.result ≡ print_of (drop (8 * l.k) b) = c.print_of.ensures ∙ ap print_of (tail_part b (8 * l.k)) in
    ap (λ (o : List Print). set o l.k c.print_of.result) l.invariant
    ∙ fill_step blank_print (replicate 32 blank_print) (prints_of 32 b) l.k _ (omega arith) (rw length_prints (omega arith)) (p ∙ print_at 32 b l.k blank_print (omega arith))

pub returns : goal.returns
returns c =
    let l = c.loop-k in
    let b : List ℕ = c.args.b.now in
    let e : l.k ≡ 32 = omega arith in
    l.invariant ∙ ap (λ (k : ℕ). take k (prints_of 32 b) ++ drop k (replicate 32 blank_print)) e ∙ append-nil _ ∙ take_all 32 (prints_of 32 b) (rw length_prints (omega arith))
