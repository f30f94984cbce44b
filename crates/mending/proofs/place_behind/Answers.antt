-- `mending::place_behind` meets its contract.
use mathlib.Core.Path.{sym, ◌∙◌}
use native.Mathlib.Omega.{arith}
use Rattle.mending.proofs.Gaps.{gap_end, gap_step}
use Rattle.mending.proofs.place_behind.Goals as goal

pub returns-then-recording-at : goal.returns-then-recording-at
returns-then-recording-at c =
    let a = c.args in
    omega (arith, gap_end a.recording.now a.at c.if-recording-at.true)

pub returns : goal.returns
returns c =
    let a = c.args in
    c.next_field.ensures ∙ sym (gap_step a.recording.now a.at c.if-recording-at.false c.requires.1)
