-- `picture::compare::is_brighter` meets its contract.
use mathlib.Core.Path.{ap}
use mir.Syntax.{w16}
use mir.ValLaws.{to_z-of_z}
use Rattle.picture.specs.Fields.{is_brighter}
use Rattle.picture.proofs.compare.is_brighter.Goals as goal

pub returns : goal.returns
unfolding is_brighter
returns c = ap is_brighter (to_z-of_z w16 _ c.ranges.difference)
