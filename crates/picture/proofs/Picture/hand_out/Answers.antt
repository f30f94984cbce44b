use Rattle.laws.specs.Video.{video_values}
use Rattle.picture.specs.Pictures.{handed_out, handed_values}
use Rattle.picture.proofs.Picture.hand_out.Goals as goal

pub returns-then-not-self-clause-frame : goal.returns-then-not-self-clause-frame
unfolding handed_out
returns-then-not-self-clause-frame c = simp c.if-not-self.true

pub returns-then-not-self-clause-values : goal.returns-then-not-self-clause-values
unfolding handed_values video_values
returns-then-not-self-clause-values c = simp c.if-not-self.true

pub returns-clause-frame : goal.returns-clause-frame
unfolding handed_out
returns-clause-frame c = simp c.if-not-self.false

pub returns-clause-values : goal.returns-clause-values
unfolding handed_values
returns-clause-values c = simp c.if-not-self.false
