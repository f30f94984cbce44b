-- `bench_session::two_of_1080i` meets its contract.
use mathlib.Core.Path.{refl}
use Rattle.bench_session.specs.Frames.{two_of1080i}
use Rattle.bench_session.proofs.two_of_1080i.Goals as goal

pub returns : goal.returns
unfolding two_of1080i
returns c = refl
