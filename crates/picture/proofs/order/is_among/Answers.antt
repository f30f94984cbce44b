-- `picture::order::is_among` meets its contract.
use mathlib.Core.Path.{sym, ◌∙◌}
use borrow.Author.Rules.{rules}
use borrow.Author.Tests.{ne_eqb}
use Rattle.picture.proofs.Monitored.{none_below, none_between, by_quotient}
use Rattle.picture.proofs.order.is_among.Goals as goal

pub returns-then-number-first : goal.returns-then-number-first
returns-then-number-first c = sym (none_below _ _ _ c.if-number-first.true)

pub returns-then-d-step-eq0 : goal.returns-then-d-step-eq0
returns-then-d-step-eq0 c = by_quotient _ _ _ (search rules) c.if-number-first.false c.if-d-step-eq0.true

pub returns-else-d-step-eq0 : goal.returns-else-d-step-eq0
returns-else-d-step-eq0 c = ne_eqb _ _ c.if-d-step-eq0.false ∙ sym (none_between _ _ _ c.if-number-first.false c.if-d-step-eq0.false)
