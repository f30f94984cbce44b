-- `flat::video_bytes` meets its contract.
use mathlib.Core.Path.{sym, ap}
use Rattle.flat.specs.Flat.{flat_video}
use Rattle.flat.proofs.video_bytes.Goals as goal

pub returns-in-Absent : goal.returns-in-Absent
unfolding flat_video
returns-in-Absent c = sym (ap flat_video c.in-Absent.is)

pub returns-in-One : goal.returns-in-One
unfolding flat_video
returns-in-One c = sym (ap flat_video c.in-One.is)

pub returns-in-Two : goal.returns-in-Two
unfolding flat_video
returns-in-Two c = sym (ap flat_video c.in-Two.is)
