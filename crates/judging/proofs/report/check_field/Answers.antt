-- `judging::report::check_field` meets its contract.
use Prim.Native.Nat.{◌+◌, ◌≤◌, ◌<◌}
use native.Mathlib.Omega.{arith}
use lib.ListN.{length}
use borrow.Author.Tests.{lt-ltb, le-ltb, le-leb, lt-leb, eq-eqb, ne_eqb}
use Rattle.records.specs.Records.{byte_at, pair_at}
use Rattle.judging.specs.Report.{field_size, field_number}
use Rattle.judging.proofs.report.check_field.Goals as goal

pub returns-then-packets-ge500 : goal.returns-then-packets-ge500
unfolding field_number
returns-then-packets-ge500 c = rw (le-ltb c.args.packets 500 (omega arith))

pub returns-then-field-ne2 : goal.returns-then-field-ne2
unfolding field_number byte_at
returns-then-field-ne2 c = rw (lt-ltb c.args.packets 500 (omega arith), ne_eqb _ 2 c.if-field-ne2.true)

pub returns-then-field-pair_at : goal.returns-then-field-pair_at
unfolding field_number field_size byte_at
returns-then-field-pair_at c =
    let a = c.args in
    let l : length a.field.now < 3 + pair_at a.field.now 1 = omega (arith, c.pair_at.ensures.0, c.if-field-pair_at.true) in
    rw (lt-ltb a.packets 500 (omega arith), eq-eqb _ 2 c.if-field-ne2.false, lt-leb (3 + pair_at a.field.now 1) (length a.field.now) l)

pub returns : goal.returns
unfolding field_number field_size byte_at
returns c =
    let a = c.args in
    let l : 3 + pair_at a.field.now 1 ≤ length a.field.now = omega (arith, c.pair_at.ensures.0, c.if-field-pair_at.false) in
    rw (lt-ltb a.packets 500 (omega arith), eq-eqb _ 2 c.if-field-ne2.false, le-leb (3 + pair_at a.field.now 1) (length a.field.now) l)
