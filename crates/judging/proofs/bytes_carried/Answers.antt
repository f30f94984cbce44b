-- `judging::bytes_carried` meets its contract.
use mathlib.Core.Path.{refl}
use Rattle.judging.specs.Packets.{carried}
use Rattle.judging.proofs.bytes_carried.Goals as goal

pub returns : goal.returns
unfolding carried
returns c = refl
