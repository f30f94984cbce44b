use Prim.Native.Nat.{◌<◌}
use mathlib.Core.Path.{◌≡◌, sym, ap, ◌∙◌}
use native.Mathlib.Omega.{arith}
use borrow.Author.Rules.{rules}
use lib.ListN.{length, drop}
use Rattle.laws.proofs.Lists.{tail_part}
use Rattle.mending.specs.Fields.{acceptable}
use Rattle.mending.proofs.Gaps.{gap_none, gap_step, gap_end}
use Rattle.mending.proofs.next_field.Goals as goal

pub returns-then-starts_field : goal.returns-then-starts_field
returns-then-starts_field c =
    let at = c.loop-at.at in
    let s = c.args.recording.now in
    let e = gap_none (drop at s) (sym (c.starts_field.ensures ∙ ap acceptable (tail_part s at)) ∙ c.if-starts_field.true) in
    omega (arith, c.loop-at.invariant, e)

pub loop-at-preserved : goal.loop-at-preserved
loop-at-preserved c =
    let at = c.loop-at.at in
    let s = c.args.recording.now in
    let h : at < length s = search rules in
    c.loop-at.invariant ∙ gap_step s at h (sym (c.starts_field.ensures ∙ ap acceptable (tail_part s at)) ∙ c.if-starts_field.false)

pub returns : goal.returns
returns c =
    let at = c.loop-at.at in
    let e : at ≡ length c.args.recording.now = search rules in
    omega (arith, c.loop-at.invariant, gap_end c.args.recording.now at (omega arith))
