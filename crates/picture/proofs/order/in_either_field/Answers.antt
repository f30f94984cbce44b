-- `picture::order::in_either_field` meets its contract.
use mathlib.Core.Path.{◌≡◌, sym, ◌∙◌}
use mathlib.Core.Bool.{false}
use borrow.Author.Tests.{eq-eqb, ne_eqb}
use Rattle.picture.specs.Lines.{among, interlaced, monitored}
use Rattle.picture.proofs.order.in_either_field.Goals as goal
use Rattle.picture.proofs.order.in_either_field.Goals.{Else-is_among}

first : (c : goal.Else-is_among) → let a = c.args in among a.r.vstart1 a.r.vstep 16 a.number ≡ false
first c = sym c.is_among.ensures ∙ c.if-is_among.false

pub returns-then-is_among : goal.returns-then-is_among
unfolding monitored
returns-then-is_among c = simp (c.if-is_among.true, sym c.is_among.ensures ∙ c.if-is_among.true)

pub returns-then-r-ne0 : goal.returns-then-r-ne0
unfolding monitored interlaced
returns-then-r-ne0 c = simp (first (goal.at.returns-then-r-ne0 c).Else-is_among, ne_eqb _ _ c.if-r-ne0.true, c.is_among-then-r-ne0.ensures)

pub returns-else-r-ne0 : goal.returns-else-r-ne0
unfolding monitored interlaced
returns-else-r-ne0 c = simp (first (goal.at.returns-else-r-ne0 c).Else-is_among, eq-eqb _ _ c.if-r-ne0.false)
