-- `container::valid::print_readable` meets its contract: a count that occurs is at most the five bytes that there are.
use Rattle.std.proofs.Common.{◌≡◌, ◌≤◌, true, arith, sym, ◌∙◌}
use mathlib.Core.Bool.{false≢true}
use Rattle.rates.specs.Cadence.{count_occurs}
use Rattle.rates.proofs.Table.{occurs_1_to_5}
use Rattle.container.proofs.valid.print_readable.Goals as goal
use Rattle.container.proofs.valid.print_readable.Goals.{Then-count_occurs, then-mix_listed, else-mix_listed}

occurs : (c : goal.Then-count_occurs) → count_occurs c.args.rate c.args.p.size ≡ true
occurs c = elim c.if-mix_listed.branch [
  | then-mix_listed w ↦ sym w.count_occurs.ensures ∙ sym w.value-is ∙ c.if-count_occurs.true
  | else-mix_listed w ↦ absurd (false≢true (sym w.if-mix_listed.false ∙ sym w.value-is ∙ c.if-count_occurs.true))
]

few : (c : goal.Then-count_occurs) → c.args.p.size ≤ 5
few c = (occurs_1_to_5 c.args.rate _ (occurs c)).1

pub slice_bounds-all_zero-count : goal.slice_bounds-all_zero-count
slice_bounds-all_zero-count c = omega (arith, few (goal.at.slice_bounds-all_zero-count c).Then-count_occurs)

pub slice_bounds-all_zero-start : goal.slice_bounds-all_zero-start
slice_bounds-all_zero-start c = omega (arith, few (goal.at.slice_bounds-all_zero-start c).Then-count_occurs)
