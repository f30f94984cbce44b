-- `picture::order::check_order` meets its contract.
use mathlib.Core.Path.{sym, ◌∙◌}
use mathlib.Core.Bool.{and-false}
use borrow.Author.Tests.{eq-eqb, ne_eqb}
use Rattle.picture.specs.Lines.{order_number}
use Rattle.picture.proofs.Monitored.{not_first, not_five}
use Rattle.picture.proofs.order.check_order.Goals as goal
use Rattle.picture.proofs.order.check_order.Goals.{else-ready-via-then-ready+else-number-r, else-ready-via-else-ready}

pub returns-then-in_either_field : goal.returns-then-in_either_field
unfolding order_number
returns-then-in_either_field c = simp (ne_eqb _ _ c.if-number-due.true, sym c.in_either_field.ensures ∙ c.if-in_either_field.true)

pub returns-else-in_either_field : goal.returns-else-in_either_field
unfolding order_number
returns-else-in_either_field c =
    let a = c.args in
    let m = sym c.in_either_field.ensures ∙ c.if-in_either_field.false in
    simp (m, not_five a.ready _ (not_first a.r a.number m))

pub returns-then-number-r : goal.returns-then-number-r
unfolding order_number
returns-then-number-r c = simp (eq-eqb _ _ c.if-number-due.false, and-false, eq-eqb _ _ c.if-number-r.true, c.if-ready.true)

pub returns-else-ready : goal.returns-else-ready
unfolding order_number
returns-else-ready c =
    let a = c.args in
    elim c.else-ready.branch [
      | else-ready-via-then-ready+else-number-r w ↦ simp (eq-eqb _ _ c.if-number-due.false, and-false, not_five a.ready _ (ne_eqb _ _ w.if-number-r.false))
      | else-ready-via-else-ready w ↦ simp (eq-eqb _ _ c.if-number-due.false, and-false, w.if-ready.false)
    ]
