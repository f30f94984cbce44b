-- `picture::is_monitored` meets its contract.
use native.Mathlib.Omega.{arith}
use borrow.Author.Tests.{lt-ltb, le-ltb}
use Rattle.sampling.proofs.Table.{listed}
use Rattle.picture.specs.Lines.{is_monitored}
use Rattle.picture.proofs.is_monitored.Goals as goal

pub in_either_field-requires : goal.in_either_field-requires
in_either_field-requires c = rw c.row_of.ensures (listed c.args.format (omega (arith, c.if-format-lt8.true))).apart

pub returns-then-format-lt8 : goal.returns-then-format-lt8
unfolding is_monitored
returns-then-format-lt8 c = simp (lt-ltb c.args.format 8 (omega (arith, c.if-format-lt8.true)), c.in_either_field.ensures, c.row_of.ensures)

pub returns-else-format-lt8 : goal.returns-else-format-lt8
unfolding is_monitored
returns-else-format-lt8 c = simp (le-ltb _ _ c.if-format-lt8.false, le-ltb c.args.format 8 (omega (arith, c.if-format-lt8.false)))
