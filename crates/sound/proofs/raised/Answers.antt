-- `sound::raised` meets its contract.
use Rattle.sound.proofs.Rounding.{raised_is}
use borrow.Author.Rules.{rules}
use Rattle.sound.proofs.raised.Goals as goal

pub returns : goal.returns
returns c = (search rules, rw c.from.ensures (raised_is c.args.s (search rules)))
