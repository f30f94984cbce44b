-- `feed::calls::instant` meets its contract: the record brings no instant, or the call was made with it.
use Prim.Native.Nat.{◌<◌}
use mathlib.Core.Path.{sym, ◌∙◌}
use lib.ListN.{length}
use Rattle.feed.proofs.Instants.{brought_some}
use Rattle.feed.proofs.calls.instant.Goals as goal
use Rattle.feed.proofs.calls.instant.Goals.{In-Ok}

some : (c : goal.In-Ok) → 0 < length c.args.payload.now
some c = brought_some c.args.payload.now _ (sym c.instant_in.ensures ∙ c.in-Ok.is)

pub bounds-payload-0 : goal.bounds-payload-0
bounds-payload-0 c = some (goal.at.bounds-payload-0 c).In-Ok
