-- `bench_session::begin` meets its contract.
use mathlib.Core.Path.{ap}
use Rattle.session.specs.Session.{Begun}
use Rattle.bench_session.proofs.begin.Goals as goal

pub returns : goal.returns
returns c = ap (λ (b : Begun). b.session) c.setup.ensures
