use Rattle.std.proofs.Common.{◌≡◌, ◌+◌, ◌≤◌, drop, length, length-drop, arith, sym, ap, ◌∙◌}
use Rattle.laws.proofs.Lists.{tail_part}
use Rattle.container.specs.Parts.{print_part}
use Rattle.container.proofs.Parts.{print_used}
use Rattle.container.proofs.Runs.{filled_start, filled_bad, filled_next, filled_unlike, filled_same}
use Rattle.container.proofs.read.read_run.Goals as goal
use Rattle.container.proofs.read.read_run.Goals.{After-read_print, In_ok-part}

what : (c : goal.After-read_print) → print_part c.args.rate (drop c.loop-k.at c.args.b.now) ≡ c.read_print.result
what c = sym (c.read_print.ensures ∙ ap (print_part c.args.rate) (tail_part c.args.b.now c.loop-k.at))

pub returns-in_err-part : goal.returns-in_err-part
returns-in_err-part c =
    let w = goal.at.returns-in_err-part c in
    c.from_residual.ensures
    ∙ sym (filled_bad c.args.rate c.args.n c.args.b.now c.loop-k.k c.loop-k.at c.loop-k.prints c.loop-k.invariant.1 c.loop-k-test.true (what w.After-read_print ∙ c.in_err-part.was))

-- the next place is within b
within : (c : goal.In_ok-part) → c.loop-k.at + c.in_ok-part.part.used ≤ length c.args.b.now
within c =
    let u = print_used c.args.rate (drop c.loop-k.at c.args.b.now) c.in_ok-part.part (sym (c.read_print.ensures ∙ ap (print_part c.args.rate) (tail_part c.args.b.now c.loop-k.at)) ∙ c.in_ok-part.was) in
    omega (arith, rw length-drop at u)

pub overflow_add-at : goal.overflow_add-at
overflow_add-at c = omega (arith, within (goal.at.overflow_add-at c).In_ok-part)

pub loop-k-init : goal.loop-k-init
loop-k-init c = (omega arith, rw c.blank_print-prints.ensures (filled_start c.args.rate c.args.n c.args.b.now))

pub loop-k-preserved : goal.loop-k-preserved
loop-k-preserved c =
    let w = goal.at.loop-k-preserved c in (
      within w.In_ok-part,
      filled_next c.args.rate c.args.n c.args.b.now c.loop-k.k c.loop-k.at c.loop-k.prints c.loop-k.invariant.1 c.loop-k-test.true (omega arith) c.in_ok-part.part (what w.After-read_print ∙ c.in_ok-part.was),
    )

pub returns-then-not-same_count : goal.returns-then-not-same_count
returns-then-not-same_count c =
    sym (filled_unlike c.args.rate c.args.n c.args.b.now c.loop-k.k c.loop-k.at c.loop-k.prints c.loop-k.invariant.1 (omega arith) (sym c.same_count.ensures ∙ c.if-not-same_count.true))

pub returns : goal.returns
returns c =
    sym (filled_same c.args.rate c.args.n c.args.b.now c.loop-k.k c.loop-k.at c.loop-k.prints c.loop-k.invariant.1 (omega arith) (sym c.same_count.ensures ∙ c.if-not-same_count.false))
