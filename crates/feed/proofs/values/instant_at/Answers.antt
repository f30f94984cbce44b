-- `feed::values::instant_at` meets its contract, kind by kind.
use Prim.Native.Nat.{◌+◌, ◌*◌}
use mathlib.Core.Path.{◌≡◌}
use mathlib.Core.Bool.{true}
use native.Mathlib.Omega.{arith}
use lib.ListN.{length, get_or}
use Rattle.records.specs.Records.{byte_at}
use Rattle.rates.specs.Mixes.{mix_listed}
use Rattle.feed.specs.Values.{instant_size}
use Rattle.feed.proofs.Instants.{last_kind}
use Rattle.feed.proofs.values.instant_at.Goals as goal
use Rattle.feed.proofs.values.instant_at.Goals.{Else-kind-eq2}

listed : (c : goal.Else-kind-eq2) → mix_listed (get_or c.args.payload.now 1 0) ≡ true
unfolding byte_at
listed c = c.requires.listed

size : (c : goal.Else-kind-eq2) → length c.args.payload.now ≡ 2 + 4 * get_or c.args.payload.now 1 0
unfolding instant_size byte_at
size c = c.requires.whole

long : (c : goal.Else-kind-eq2) → length c.args.payload.now ≡ 22
long c = omega (arith, size c, last_kind (get_or c.args.payload.now 1 0) (listed c) c.if-kind-eq1.false c.if-kind-eq2.false)

pub float_at-requires-2 : goal.float_at-requires-2
float_at-requires-2 c = omega (arith, long (goal.at.float_at-requires-2 c).Else-kind-eq2)

pub float_at-requires-3 : goal.float_at-requires-3
float_at-requires-3 c = omega (arith, long (goal.at.float_at-requires-3 c).Else-kind-eq2)

pub float_at-requires-4 : goal.float_at-requires-4
float_at-requires-4 c = omega (arith, long (goal.at.float_at-requires-4 c).Else-kind-eq2)

pub float_at-requires-5 : goal.float_at-requires-5
float_at-requires-5 c = omega (arith, long (goal.at.float_at-requires-5 c).Else-kind-eq2)

pub float_at-requires-6 : goal.float_at-requires-6
float_at-requires-6 c = omega (arith, long (goal.at.float_at-requires-6 c).Else-kind-eq2)
