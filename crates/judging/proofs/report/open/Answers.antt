-- `judging::report::open` meets its contract.
use mathlib.Core.Path.{refl}
use native.Mathlib.Omega.{arith}
use Rattle.judging.specs.Report.{fresh_report}
use Rattle.judging.proofs.report.open.Goals as goal

pub returns : goal.returns
unfolding fresh_report
returns c = rw c.fresh.ensures (refl, record { packets = omega arith; size = omega arith })
