-- `records::pair_at` meets its contract.
use Prim.Native.Nat.{◌+◌}
use native.Mathlib.Omega.{arith}
use lib.ListN.{get_or-eq_default}
use Rattle.records.specs.Records.{byte_at, pair_at}
use Rattle.records.proofs.pair_at.Goals as goal

pub returns-then-at-bytes : goal.returns-then-at-bytes
unfolding pair_at
returns-then-at-bytes c = (omega (arith, c.byte_at.ensures.0, c.byte_at-then-at-bytes.ensures.0), omega (arith, c.byte_at.ensures.1, c.byte_at-then-at-bytes.ensures.1))

pub returns : goal.returns
unfolding pair_at byte_at
returns c =
    let a = c.args in
    (omega (arith, get_or-eq_default a.bytes.now 0 {n = a.at} (omega arith), get_or-eq_default a.bytes.now 0 {n = a.at + 1} (omega arith)), omega arith)
