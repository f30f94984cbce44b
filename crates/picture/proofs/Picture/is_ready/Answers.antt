use Rattle.std.proofs.Common.{refl}
use Rattle.picture.specs.Pictures.{is_ready}
use Rattle.picture.proofs.Picture.is_ready.Goals as goal

pub returns : goal.returns
unfolding is_ready
returns c = refl
