-- `picture::compare::is_darker` meets its contract.
use mathlib.Core.Path.{ap}
use mir.Syntax.{w16}
use mir.ValLaws.{to_z-of_z}
use Rattle.picture.specs.Fields.{is_darker}
use Rattle.picture.proofs.compare.is_darker.Goals as goal

pub returns : goal.returns
unfolding is_darker
returns c = ap is_darker (to_z-of_z w16 _ c.ranges.difference)
