-- `container::read::read_print` meets its contract: a fingerprint that takes bytes is right, and says what stands there.
use Rattle.std.proofs.Common.{ℕ, ◌≡◌, ◌+◌, ◌/◌, List, length, get_or, take, drop, replicate, length-drop, arith, sym, ◌∙◌}
use native.Mathlib.Nat.{add-sub_cancel}
use lib.Seq.{length-take-le}
use Rattle.laws.proofs.Lists.{sets_over}
use Rattle.rates.proofs.Table.{occurs_1_to_5}
use Rattle.container.specs.declared.PrintPart.{PrintPart}
use Rattle.container.specs.Parts.{print_part, print_at}
use Rattle.container.proofs.Parts.{map_none, PrintRight, print_is}
use Rattle.container.proofs.Passing.{size_right, size_is}
use Rattle.container.proofs.read.read_print.Goals as goal
use Rattle.container.proofs.read.read_print.Goals.{In_ok-used}

right : (c : goal.In_ok-used) → PrintRight c.args.rate c.args.b.now
right c = size_right c.args.rate c.args.b.now c.in_ok-used.used (sym c.print_size.ensures ∙ c.in_ok-used.was)

size : (c : goal.In_ok-used) → c.in_ok-used.used ≡ get_or c.args.b.now 1 0 / 8 + 2
size c = size_is c.args.rate c.args.b.now c.in_ok-used.used (sym c.print_size.ensures ∙ c.in_ok-used.was)

pub returns-in_err-used : goal.returns-in_err-used
returns-in_err-used c = c.from_residual.ensures ∙ sym (map_none (λ (p : PrintPart). p.used) (print_part c.args.rate c.args.b.now) (sym c.print_size.ensures ∙ c.in_err-used.was))

pub slice_bounds-copy_at-count : goal.slice_bounds-copy_at-count
slice_bounds-copy_at-count c = omega (arith, size (goal.at.slice_bounds-copy_at-count c).In_ok-used)

pub slice_bounds-copy_at-start : goal.slice_bounds-copy_at-start
slice_bounds-copy_at-start c = omega (arith, size (goal.at.slice_bounds-copy_at-start c).In_ok-used)

pub slice_bounds-copy_at-end : goal.slice_bounds-copy_at-end
slice_bounds-copy_at-end c = omega (arith, size (goal.at.slice_bounds-copy_at-end c).In_ok-used, (right (goal.at.slice_bounds-copy_at-end c).In_ok-used).fits)

pub bounds-b-0 : goal.bounds-b-0
bounds-b-0 c = omega (arith, (right (goal.at.bounds-b-0 c).In_ok-used).two)

pub bounds-b-0-2 : goal.bounds-b-0-2
bounds-b-0-2 c = omega (arith, (right (goal.at.bounds-b-0-2 c).In_ok-used).two)

pub bounds-b-1 : goal.bounds-b-1
bounds-b-1 c = omega (arith, (right (goal.at.bounds-b-1 c).In_ok-used).two)

pub returns : goal.returns
unfolding print_at
returns c =
    let b : List ℕ = c.args.b.now in
    let n : ℕ = get_or b 1 0 / 8 in
    let r = right (goal.at.returns c).In_ok-used in
    let few = (occurs_1_to_5 c.args.rate n r.occurs).1 in
    let l : length (take n (drop 2 b)) ≡ n = length-take-le n (drop 2 b) (rw length-drop (omega (arith, r.fits))) in
    rw (c.copy_at.ensures, size (goal.at.returns c).In_ok-used, add-sub_cancel, sets_over (take n (drop 2 b)) (replicate 5 0) (omega (arith, l, few)))
    (sym (print_is c.args.rate b r))
