use Prim.Native.Nat.{ℕ, ◌-◌}
use mathlib.Core.Path.{ap, ◌∙◌}
use mathlib.Core.List.{List}
use native.Mathlib.Omega.{arith}
use lib.ListN.{length, take, drop}
use lib.Seq.{length-sets}
use Rattle.mending.specs.Mending.{mended}
use Rattle.mending.specs.Places.{Stretch}
use Rattle.mending.proofs.Gaps.{lands_at}
use Rattle.mending.proofs.Walks.{putting_next, putting_last}
use Rattle.mending.proofs.put_kept.Goals as goal
use Rattle.mending.proofs.put_kept.Goals.{After-fields_end-end}

abbrev end : (c : goal.After-fields_end-end) → ℕ
end c = c.fields_end-end.result

abbrev at : (c : goal.After-fields_end-end) → ℕ
at c = c.loop-at.at

abbrev s : (c : goal.After-fields_end-end) → List ℕ
s c = c.args.recording.now

abbrev this : (c : goal.After-fields_end-end) → Stretch (s c) (at c) (end c)
this c = c.fields_end-end.ensures.0

pub fields_end-end-requires : goal.fields_end-end-requires
fields_end-end-requires c =
    let l = c.loop-at in
    let h = c.loop-at-test.true in
    (h, lands_at c.args.recording.now l.at h l.invariant.1.1.before.lands)

pub loop-at-preserved : goal.loop-at-preserved
loop-at-preserved c =
    let l = c.loop-at in
    let a = c.args in
    let d = c in
    let o = c.copy_at.ensures in (
      ap length o ∙ length-sets l.out l.next (take (end (goal.at.loop-at-preserved c).After-fields_end-end - l.at) (drop l.at (s (goal.at.loop-at-preserved c).After-fields_end-end))) ∙ l.invariant.0,
      (
        omega (arith, l.invariant.1.0),
        putting_next (s (goal.at.loop-at-preserved c).After-fields_end-end) (mended (drop a.from (s (goal.at.loop-at-preserved c).After-fields_end-end))) a.out.now l.out _ a.place l.at l.next (end (goal.at.loop-at-preserved c).After-fields_end-end) _ l.invariant.1.1 (this (goal.at.loop-at-preserved c).After-fields_end-end) c.place_behind-at.ensures o,
      ),
    )

pub returns : goal.returns
returns c =
    let l = c.loop-at in
    let a = c.args in
    let p = putting_last a.recording.now (mended (drop a.from a.recording.now)) a.out.now l.out a.place l.at l.next l.invariant.1.1 c.loop-at-test.false in
    (omega (arith, p.0), p.1)
