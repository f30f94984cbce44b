use Prim.Native.Nat.{ℕ, ◌+◌, ◌-◌, ◌<◌}
use mathlib.Core.Path.{◌≡◌, sym, ap, ◌∙◌}
use mathlib.Core.Bool.{Bool, true}
use mathlib.Core.List.{List}
use native.Mathlib.Omega.{arith}
use lib.ListN.{length, take, drop}
use Rattle.laws.proofs.Lists.{tail_part}
use Rattle.mending.specs.Fields.{field_size, acceptable}
use Rattle.mending.specs.Places.{Stretch}
use Rattle.mending.proofs.Gaps.{none_behind}
use Rattle.mending.proofs.Walks.{one_field, stretch_on}
use Rattle.mending.proofs.fields_end.Goals as goal

-- with the field of this turn
further : (s : List ℕ) (end next : ℕ) (starts : Bool) → end < length s → starts ≡ acceptable (take (length s - end) (drop end s)) → starts ≡ true → next ≡ end + field_size (drop end s)
    → Stretch s end next
further s end next starts h e t n = one_field s end next h (sym (e ∙ ap acceptable (tail_part s end)) ∙ t) n

pub loop-end-init : goal.loop-end-init
loop-end-init c =
    let a = c.args in
    one_field a.recording.now a.at c.field_end-end.result c.requires.0 c.requires.1 c.field_end-end.ensures

pub loop-end-smaller : goal.loop-end-smaller
loop-end-smaller c =
    let w = further c.args.recording.now c.loop-end.end _ _ c.loop-end-test.true c.starts_field.ensures c.if-starts_field.true c.field_end-end-in-loop-end.ensures in
    omega (arith, w.goes_on, w.within)

pub loop-end-preserved : goal.loop-end-preserved
loop-end-preserved c =
    stretch_on _ _ _ _ c.loop-end.invariant (further c.args.recording.now c.loop-end.end _ _ c.loop-end-test.true c.starts_field.ensures c.if-starts_field.true c.field_end-end-in-loop-end.ensures)

pub returns-after-loop-end : goal.returns-after-loop-end
returns-after-loop-end c = (c.loop-end.invariant, none_behind _ _ c.loop-end-test.false)
