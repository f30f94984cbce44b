use Rattle.picture.specs.Pictures.{restarted}
use Rattle.picture.proofs.Picture.restart.Goals as goal

pub returns : goal.returns
unfolding restarted
returns c = c.empty_with.ensures
