-- `Receiver::fresh` meets its contract.
use mathlib.Core.Path.{refl}
use Rattle.receiving.specs.Receiver.{fresh_of}
use Rattle.receiving.proofs.Receiver.fresh.Goals as goal

pub returns : goal.returns
unfolding fresh_of
returns c = refl
