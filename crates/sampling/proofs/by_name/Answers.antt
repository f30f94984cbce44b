-- `sampling::by_name` meets its contract.
use mathlib.Core.Path.{refl}
use Rattle.sampling.specs.Formats.{named}
use Rattle.sampling.proofs.by_name.Goals as goal

pub returns : goal.returns
unfolding named
returns c = refl
