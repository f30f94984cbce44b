use Rattle.session.specs.Session.{empty_session}
use Rattle.session.proofs.Session.empty.Goals as goal

pub returns : goal.returns
unfolding empty_session
returns c = c.set_up.ensures
