-- `sound::pseudo_absolute` meets its contract.
use borrow.Author.Rules.{rules}
use Rattle.sound.proofs.Rounding.{absolute_low, absolute_high}
use Rattle.sound.proofs.pseudo_absolute.Goals as goal

pub returns-then-m-eq1 : goal.returns-then-m-eq1
returns-then-m-eq1 c = absolute_high c.args.m (search rules) (search rules)

pub returns-else-m-eq1 : goal.returns-else-m-eq1
returns-else-m-eq1 c = absolute_low c.args.m (search rules)
