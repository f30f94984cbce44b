-- `Session::set_up` meets its contract.
use Rattle.session.specs.Session.{set_up_with}
use Rattle.session.proofs.Session.set_up.Goals as goal

pub returns : goal.returns
unfolding set_up_with
returns c = rw (c.fresh.ensures, c.fresh_fingerprints.ensures)
