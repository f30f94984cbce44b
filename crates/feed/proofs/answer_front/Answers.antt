-- `feed::answer_front` meets its contract, by what stands at the front of the bytes.
use Prim.Native.Nat.{◌≤◌}
use mathlib.Core.Path.{◌≡◌, sym, ◌∙◌}
use native.Mathlib.Omega.{arith}
use lib.ListN.{length}
use Rattle.records.specs.declared.Record.TheVariants.{Whole}
use Rattle.records.specs.Records.{record_at}
use Rattle.records.proofs.Within.{whole_within}
use Rattle.feed.proofs.answer_front.Goals as goal
use Rattle.feed.proofs.answer_front.Goals.{In-Whole}

whole : (c : goal.In-Whole) → record_at c.args.bytes.now 0 ≡ Whole c.in-Whole.tag c.in-Whole.start c.in-Whole.end
whole c = sym c.record_at.ensures ∙ c.in-Whole.is

within : (c : goal.In-Whole) → (c.in-Whole.start ≤ c.in-Whole.end) × (c.in-Whole.end ≤ length c.args.bytes.now)
within c = whole_within c.args.bytes.now 0 _ _ _ (whole c)

pub slice_bounds-call-count : goal.slice_bounds-call-count
slice_bounds-call-count c = (within (goal.at.slice_bounds-call-count c).In-Whole).0

pub slice_bounds-call-start : goal.slice_bounds-call-start
slice_bounds-call-start c = omega (arith, (within (goal.at.slice_bounds-call-start c).In-Whole).0)

pub slice_bounds-call-end : goal.slice_bounds-call-end
slice_bounds-call-end c = omega (arith, (within (goal.at.slice_bounds-call-end c).In-Whole).1)
