-- `mending::field_end` meets its contract.
use native.Mathlib.Omega.{arith}
use Rattle.mending.specs.Fields.{field_size}
use Rattle.mending.proofs.Gaps.{pair_behind}
use Rattle.mending.proofs.field_end.Goals as goal

pub returns : goal.returns
unfolding field_size
returns c =
    let a = c.args in
    omega (arith, c.pair_at.ensures.0, pair_behind a.recording.now a.at 1)
