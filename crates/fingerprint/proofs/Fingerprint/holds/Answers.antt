-- `Fingerprint::holds` meets its contract.
use Rattle.fingerprint.specs.State.{holds_of}
use Rattle.fingerprint.proofs.Counts.{whole_bytes}
use Rattle.fingerprint.proofs.Fingerprint.holds.Goals as goal

pub returns : goal.returns
unfolding holds_of
returns c = whole_bytes c.args.n c.args.self.now.held
