use Prim.Native.Nat.{ℕ, ◌+◌}
use mathlib.Core.Path.{◌≡◌, refl, ◌∙◌}
use mathlib.Core.List.{List}
use native.Mathlib.Omega.{arith}
use lib.ListN.{drop}
use Rattle.text.specs.Lines.{Put}
use Rattle.text.proofs.Pieces.{put_same}
use Rattle.mending.specs.Report.{mended_text}
use Rattle.mending.specs.Places.{gap}
use Rattle.mending.proofs.Gaps.{next_lands}
use Rattle.mending.proofs.Walks.{Turn, turn, count_size}
use Rattle.mending.proofs.Lines.{saying_first, saying_next, saying_last, count_over, count_field}
use Rattle.mending.proofs.tool.put_report.Goals as goal
use Rattle.mending.proofs.tool.put_report.Goals.{After-field_end-start, After-slice_known-3-1}

abbrev end : (c : goal.After-field_end-start) → ℕ
end c = c.field_end-start.result

abbrev at : (c : goal.After-field_end-start) → ℕ
at c = c.loop-at.at

abbrev s : (c : goal.After-field_end-start) → List ℕ
s c = c.args.recording.now

this : (c : goal.After-field_end-start) → (next : ℕ) → next ≡ (end c) + gap (drop (end c) (s c)) → Turn (s c) (at c) (end c) next
this c next e = turn (s c) (at c) (end c) next c.loop-at-test.true (next_lands (s c) c.loop-at.start (at c) c.loop-at.invariant.1.place) c.field_end-start.ensures e

line : (c : goal.After-slice_known-3-1) → Put c.args.out.now 0 (mended_text c.args.recording.now) c.put_last.new.out c.put_last.result
line c =
    let l = c.loop-at in
    let a = c.args in
    saying_last a.recording.now a.out.now l.out _ _ l.kept l.start l.at l.p _ _ l.invariant.1 c.loop-at-test.false (omega arith) c.put_run-q.ensures c.put_last.ensures

pub loop-at-init : goal.loop-at-init
loop-at-init c =
    let a = c.args in
    (refl, saying_first a.recording.now a.out.now a.first c.requires)

pub next_field-at-requires : goal.next_field-at-requires
next_field-at-requires c = (this (goal.at.next_field-at-requires c).After-field_end-start (end (goal.at.next_field-at-requires c).After-field_end-start + gap (drop (end (goal.at.next_field-at-requires c).After-field_end-start) (s (goal.at.next_field-at-requires c).After-field_end-start))) refl).stretch.within

pub overflow_add-kept : goal.overflow_add-kept
overflow_add-kept c =
    let l = c.loop-at in
    let d = c in
    let t = this (goal.at.overflow_add-kept c).After-field_end-start c.next_field-at.result c.next_field-at.ensures in
    omega (arith, l.invariant.1.count, count_over (s (goal.at.overflow_add-kept c).After-field_end-start) l.start l.at l.invariant.1.place, count_field (s (goal.at.overflow_add-kept c).After-field_end-start) l.at (end (goal.at.overflow_add-kept c).After-field_end-start) _ t, count_size (s (goal.at.overflow_add-kept c).After-field_end-start) (λ k. omega (arith, c.type_inv.recording k)))

pub loop-at-smaller : goal.loop-at-smaller
loop-at-smaller c = let t = this (goal.at.loop-at-smaller c).After-field_end-start c.next_field-at.result c.next_field-at.ensures in omega (arith, t.stretch.goes_on, t.after, t.within)

pub loop-at-preserved : goal.loop-at-preserved
loop-at-preserved c =
    let l = c.loop-at in
    let d = c in
    let w = c.put_run-p.ensures in
    (put_same w ∙ l.invariant.0, saying_next (s (goal.at.loop-at-preserved c).After-field_end-start) c.args.out.now l.out _ l.kept l.start l.at (end (goal.at.loop-at-preserved c).After-field_end-start) _ l.p _ l.invariant.1 (this (goal.at.loop-at-preserved c).After-field_end-start c.next_field-at.result c.next_field-at.ensures) c.next_field-at.ensures (omega arith) w)

pub returns : goal.returns
returns c = line (goal.at.returns c).After-slice_known-3-1
