-- `mending::first_field` meets its contract: each answer by the tests that led to it.
use Rattle.std.proofs.Common.{sym, arith}
use Rattle.mending.proofs.Gaps.{gap_within}
use Rattle.mending.proofs.Numbers.{too_long, no_field, a_field}
use Rattle.mending.proofs.first_field.Goals as goal

pub returns-then-recording-gt65536-clause-number : goal.returns-then-recording-gt65536-clause-number
returns-then-recording-gt65536-clause-number c = sym (too_long c.args.recording.now c.if-recording-gt65536.true)

pub returns-then-first-recording-clause-number : goal.returns-then-first-recording-clause-number
returns-then-first-recording-clause-number c =
    sym (no_field c.args.recording.now c.if-recording-gt65536.false (omega (arith, c.next_field-first.ensures, c.if-first-recording.true)))

pub returns-clause-number : goal.returns-clause-number
returns-clause-number c =
    let s = c.args.recording.now in
    sym (a_field s c.if-recording-gt65536.false (omega (arith, c.next_field-first.ensures, c.if-first-recording.false, gap_within s)))

pub returns-clause-place : goal.returns-clause-place
returns-clause-place c =
    let e = c.next_field-first.ensures in
    (omega (arith, e), omega (arith, e, c.if-first-recording.false, gap_within c.args.recording.now))
