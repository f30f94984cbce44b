-- `answers::asks::fresh_work` meets its contract.
use mathlib.Core.Path.{refl}
use Rattle.answers.specs.Lines.{untouched}
use Rattle.answers.proofs.asks.fresh_work.Goals as goal

pub returns : goal.returns
unfolding untouched
returns c = refl
