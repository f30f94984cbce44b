use Rattle.std.proofs.Common.{eq-eqb}
use borrow.Author.Tests.{ne_eqb}
use Rattle.picture.specs.Lines.{due_line}
use Rattle.picture.proofs.order.due_line.Goals as goal
use Rattle.picture.proofs.order.due_line.Goals.{then-field-eq1, else-field-eq1}

pub returns : goal.returns
unfolding due_line
returns c =
    elim c.if-field-eq1.branch [
      | then-field-eq1 w ↦ simp (eq-eqb _ _ w.if-field-eq1.true, w.first-is)
      | else-field-eq1 w ↦ simp (ne_eqb _ _ w.if-field-eq1.false, w.first-is)
    ]
