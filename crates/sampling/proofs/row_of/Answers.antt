-- `sampling::row_of` meets its contract: the table's row, and zeros where the format is not listed.
use Prim.Native.Nat.{ℕ, ◌≤◌}
use mathlib.Core.Path.{◌≡◌, sym, ap, ◌∙◌}
use native.Mathlib.Omega.{arith}
use Rattle.laws.proofs.Tests.{NoneOf}
use Rattle.sampling.specs.declared.Row.{Row}
use Rattle.sampling.specs.Formats.{table, named, row_of}
use Rattle.sampling.proofs.Table.{no_row}
use Rattle.sampling.proofs.row_of.Goals as goal

-- the row of the arm's own key
arm : {f k : ℕ} {r : Row} → f ≡ k → r ≡ row_of k → r ≡ row_of f
arm e h = h ∙ sym (ap row_of e)

pub returns-in-0 : goal.returns-in-0
unfolding row_of table
returns-in-0 c = arm c.in-0.is c.by_name.ensures

pub returns-in-1 : goal.returns-in-1
unfolding row_of table
returns-in-1 c = arm c.in-1.is c.by_name-in-1.ensures

pub returns-in-2 : goal.returns-in-2
unfolding row_of table
returns-in-2 c = arm c.in-2.is c.by_name-in-2.ensures

pub returns-in-3 : goal.returns-in-3
unfolding row_of table
returns-in-3 c = arm c.in-3.is c.by_name-in-3.ensures

pub returns-in-4 : goal.returns-in-4
unfolding row_of table
returns-in-4 c = arm c.in-4.is c.by_name-in-4.ensures

pub returns-in-5 : goal.returns-in-5
unfolding row_of table
returns-in-5 c = arm c.in-5.is c.by_name-in-5.ensures

pub returns-in-6 : goal.returns-in-6
unfolding row_of table
returns-in-6 c = arm c.in-6.is c.by_name-in-6.ensures

pub returns-in-7 : goal.returns-in-7
unfolding row_of table
returns-in-7 c = arm c.in-7.is c.by_name-in-7.ensures

pub returns-in_default : goal.returns-in_default
unfolding named NoneOf
returns-in_default c = let h : 8 ≤ c.args.format = omega arith in c.by_name-in_default.ensures ∙ sym (no_row _ h)
