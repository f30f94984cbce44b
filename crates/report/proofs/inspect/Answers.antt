-- `report::inspect` meets its contract.
use mathlib.Core.Path.{◌≡◌, sym, ap, ◌∙◌}
use native.Mathlib.Omega.{arith}
use lib.ListN.{length, take}
use lib.Seq.{sets, length-take-le, take_all}
use Rattle.container.specs.Reading.{reading}
use Rattle.report.specs.Report.{reported, inspected}
use mathlib.Core.List.{List}
use Prim.Native.Nat.{ℕ}
use Rattle.report.proofs.inspect.Goals as goal

pub slice_bounds-report-end : goal.slice_bounds-report-end
slice_bounds-report-end c = sym (length-take-le 300 c.args.input.now (omega arith))

pub returns-then-input-gt300 : goal.returns-then-input-gt300
unfolding inspected
returns-then-input-gt300 c = c.report.ensures

pub returns : goal.returns
unfolding inspected
returns c =
    let a = c.args in
    let e : a.input.now ≡ take 300 a.input.now = sym (take_all 300 a.input.now (omega arith)) in
    (c.report-2.ensures.0 ∙ ap (λ (l : List ℕ). length (reported (reading l))) e, c.report-2.ensures.1 ∙ ap (λ (l : List ℕ). sets a.out.now 0 (reported (reading l))) e)
