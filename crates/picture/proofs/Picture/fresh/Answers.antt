use Rattle.picture.specs.Pictures.{fresh_picture}
use Rattle.picture.proofs.Picture.fresh.Goals as goal

pub returns : goal.returns
unfolding fresh_picture
returns c = c.empty_with.ensures
