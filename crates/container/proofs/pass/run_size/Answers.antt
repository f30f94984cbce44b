use Rattle.std.proofs.Common.{ℕ, ◌≡◌, ◌+◌, ◌/◌, get_or, drop, arith, sym, ap, subst, ◌∙◌}
use Rattle.std.specs.Option.{option_map}
use Rattle.laws.proofs.Lists.{tail_part}
use Rattle.container.specs.declared.AudioPart.{AudioPart}
use Rattle.container.specs.declared.PrintPart.{PrintPart}
use Rattle.container.specs.Parts.{print_part}
use Rattle.container.specs.Passing.{is_alike}
use Rattle.container.proofs.Parts.{map_none, PrintRight}
use Rattle.container.proofs.Passing.{size_right, size_is, Passed, passed_start, passed_none, pass_wrong, pass_next, pass_within, pass_end}
use Rattle.container.proofs.pass.run_size.Goals as goal
use Rattle.container.proofs.pass.run_size.Goals.{In_ok-size, After-is_alike}

right : (c : goal.In_ok-size) → PrintRight c.args.rate c.args.b.now
right c = size_right c.args.rate c.args.b.now c.in_ok-size.size (sym c.print_size.ensures ∙ c.in_ok-size.was)

size : (c : goal.In_ok-size) → get_or c.args.b.now 1 0 / 8 + 2 ≡ c.in_ok-size.size
size c = sym (size_is c.args.rate c.args.b.now c.in_ok-size.size (sym c.print_size.ensures ∙ c.in_ok-size.was))

said : (c : goal.After-is_alike) → is_alike (get_or c.args.b.now 1 0) (drop c.loop.at c.args.b.now) ≡ c.is_alike.result
said c = sym (c.is_alike.ensures ∙ ap (is_alike (get_or c.args.b.now 1 0)) (tail_part c.args.b.now c.loop.at))

pub returns-in_err-size : goal.returns-in_err-size
returns-in_err-size c =
    c.from_residual.ensures
    ∙ sym (ap (option_map (λ (a : AudioPart). a.used)) (passed_none c.args.rate c.args.n c.args.b.now (omega arith) (map_none (λ (p : PrintPart). p.used) (print_part c.args.rate c.args.b.now) (sym c.print_size.ensures ∙ c.in_err-size.was))))

pub bounds-b-1 : goal.bounds-b-1
bounds-b-1 c = omega (arith, (right (goal.at.bounds-b-1 c).In_ok-size).two)

pub loop-init : goal.loop-init
loop-init c = (omega arith, passed_start c.args.rate c.args.n c.args.b.now)

pub returns-then-not-is_alike : goal.returns-then-not-is_alike
returns-then-not-is_alike c =
    let w = goal.at.returns-then-not-is_alike c in
    sym (ap (option_map (λ (a : AudioPart). a.used))
    (pass_wrong c.args.rate c.args.n c.args.b.now c.loop.counter c.loop.at c.loop.invariant.1 (right w.In_ok-size) c.loop-test.true (said w.After-is_alike ∙ c.if-not-is_alike.true)))

pub overflow_add-at : goal.overflow_add-at
overflow_add-at c =
    let w = goal.at.overflow_add-at c in
    omega (arith, size w.In_ok-size, pass_within c.args.rate c.args.n c.args.b.now c.loop.counter c.loop.at c.loop.invariant.1 (right w.In_ok-size) c.loop-test.true (said w.After-is_alike ∙ c.if-not-is_alike.false) c.loop.invariant.0)

pub loop-preserved : goal.loop-preserved
loop-preserved c =
    let w = goal.at.loop-preserved c in
    let r = right w.In_ok-size in
    let e = said w.After-is_alike ∙ c.if-not-is_alike.false in (
      omega (arith, size w.In_ok-size, pass_within c.args.rate c.args.n c.args.b.now c.loop.counter c.loop.at c.loop.invariant.1 r c.loop-test.true e c.loop.invariant.0),
      subst (λ (m : ℕ). Passed c.args.rate c.args.n c.args.b.now (c.loop.counter + 1) (c.loop.at + m)) (size w.In_ok-size)
          (pass_next c.args.rate c.args.n c.args.b.now c.loop.counter c.loop.at c.loop.invariant.1 r c.loop-test.true e),
    )

pub returns : goal.returns
returns c =
    sym (pass_end c.args.rate c.args.n c.args.b.now c.loop.counter c.loop.at c.loop.invariant.1 (right (goal.at.returns c).In_ok-size) (omega arith) c.loop-test.false)
