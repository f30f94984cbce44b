-- `fingerprint::shift` meets its contract.
use Prim.Native.Nat.{ℕ, ◌-◌}
use mathlib.Core.Path.{◌≡◌, ap, ap₂, ◌∙◌}
use mathlib.Core.List.{List, ◌++◌}
use native.Mathlib.Omega.{arith}
use borrow.Author.Rules.{rules}
use lib.ListN.{length, take, drop, replicate, length-drop}
use lib.Seq.{take_all}
use Rattle.std.proofs.lemmas.List.{drop-replicate}
use Rattle.fingerprint.specs.State.{shifted}
use Rattle.fingerprint.proofs.shift.Goals as goal

pub returns : goal.returns
unfolding shifted
returns c =
    let a = c.args in
    let size : length a.old ≡ 32 = search rules in
    let all : take (32 - a.n) (drop a.n a.old) ≡ drop a.n a.old = take_all (32 - a.n) (drop a.n a.old) (omega (arith, length-drop a.n a.old)) in
    let e : 32 - (32 - a.n) ≡ a.n = omega arith in
    let zeros : drop {A = ℕ} (32 - a.n) (replicate 32 0) ≡ replicate a.n 0 = drop-replicate (32 - a.n) 32 0 ∙ ap (λ (k : ℕ). replicate {A = ℕ} k 0) e in
    ap₂ (λ (xs ys : List ℕ). xs ++ ys) (c.copy_from_slice.ensures.after ∙ all) zeros
