use Rattle.picture.specs.Pictures.{field_ended}
use Rattle.picture.proofs.Picture.end_field.Goals as goal

pub returns : goal.returns
unfolding field_ended
returns c = simp (c.held_after-self.ensures, c.frame_after-self.ensures, c.told-told.ensures)
