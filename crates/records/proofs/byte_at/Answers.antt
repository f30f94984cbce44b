-- `records::byte_at` meets its contract.
use mathlib.Core.Path.{refl, sym}
use native.Mathlib.Omega.{arith}
use lib.ListN.{get_or-eq_default}
use Rattle.records.specs.Records.{byte_at}
use Rattle.records.proofs.byte_at.Goals as goal

pub returns-then-at-bytes : goal.returns-then-at-bytes
unfolding byte_at
returns-then-at-bytes c = (refl, omega (arith, c.shared_slice_known-1.given c.args.at))

pub returns : goal.returns
unfolding byte_at
returns c = (sym (get_or-eq_default c.args.bytes.now 0 c.if-at-bytes.false), omega arith)
