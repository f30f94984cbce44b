use mathlib.Core.Path.{◌≡◌, refl, sym, ap, subst, ◌∙◌}
use mathlib.Core.List.{List}
use Prim.Native.Nat.{ℕ, ◌+◌, ◌-◌, ◌*◌, ◌/◌, ◌%◌, ◌≤◌, ◌<◌}
use native.Mathlib.Omega.{arith}
use Rattle.sampling.specs.Samples.{sample_at, tap_sum}
use Rattle.sampling.proofs.Means.{sum_small, sum_two, sum_more, sample_small, one_tap}
use Rattle.sampling.proofs.Pairs.{pair_more, last_more}
use Rattle.sampling.proofs.tap_sum.Goals as goal
use Rattle.sampling.proofs.tap_sum.Goals.{After-tap_pair-last}

-- what is there of the taps passed: small in both halves
small : (l : List ℕ) (s i pairs : ℕ) → i ≤ 6 → pairs % 65536 + pairs / 65536 ≡ tap_sum l s i → pairs % 65536 + pairs / 65536 ≤ 1530
small l s i pairs h e = omega (arith, sum_small l s i)

-- and with a pair more it fits
fits : (p l a b : ℕ) → p % 65536 + p / 65536 ≤ 1530 → l ≡ a + 65536 * b → a < 256 → b < 256 → p + l < 4294967296
fits p l a b k e g h = omega arith

-- the odd one out is added
last :
    (c : goal.After-tap_pair-last)
    → let a = c.args in
    let q = c.loop-i.pairs + c.tap_pair-last.result - c.tap_pair-last.result % 65536 in
    q % 65536 + q / 65536 ≡ tap_sum a.line.now a.s a.n
last c =
    let a = c.args in
    let l = c.loop-i in
    let n : 2 * l.i + 1 ≡ a.n = omega arith in
    let e : a.s + a.n - 2 + 1 ≡ a.s + 2 * l.i = omega arith in
    last_more l.pairs c.tap_pair-last.result _ _ c.tap_pair-last.ensures (sample_small _ _)
    ∙ (rw (l.invariant, e) (sym (sum_more a.line.now a.s (2 * l.i))) ∙ ap (tap_sum a.line.now a.s) n)

pub loop-i-init : goal.loop-i-init
unfolding tap_sum
loop-i-init c = refl

pub overflow_add-pairs : goal.overflow_add-pairs
overflow_add-pairs c =
    let a = c.args in
    let l = c.loop-i in
    let k = small a.line.now a.s (2 * l.i) l.pairs (omega arith) l.invariant in
    record { fits = fits l.pairs c.tap_pair-pairs.result _ _ k c.tap_pair-pairs.ensures (sample_small _ _) (sample_small _ _) }

pub loop-i-preserved : goal.loop-i-preserved
loop-i-preserved c =
    let a = c.args in
    let l = c.loop-i in
    let x = sample_at a.line.now (a.s + 2 * l.i) in
    let y = sample_at a.line.now (a.s + 2 * l.i + 1) in
    let k = small a.line.now a.s (2 * l.i) l.pairs (omega arith) l.invariant in
    let m = pair_more l.pairs x y (omega arith) (sample_small a.line.now (a.s + 2 * l.i)) in
    let e : 2 * (l.i + 1) ≡ 2 * l.i + 2 = omega arith in
    rw (c.tap_pair-pairs.ensures, m.0, m.1, e, sum_two a.line.now a.s (2 * l.i)) (omega (arith, l.invariant))

pub halves-requires : goal.halves-requires
halves-requires c =
    let a = c.args in
    let l = c.loop-i in
    let k = small a.line.now a.s (2 * l.i) l.pairs (omega arith) l.invariant in
    omega arith

pub returns-then-n-eq0 : goal.returns-then-n-eq0
returns-then-n-eq0 c =
    let a = c.args in
    let e : 2 * c.loop-i.i ≡ a.n = omega arith in
    c.halves.ensures ∙ c.loop-i.invariant ∙ ap (tap_sum a.line.now a.s) e

pub returns-then-n-eq1 : goal.returns-then-n-eq1
returns-then-n-eq1 c =
    let a = c.args in
    c.tap.ensures ∙ (sym (one_tap a.line.now a.s) ∙ ap (tap_sum a.line.now a.s) (sym c.if-n-eq1.true))

pub overflow_add-pairs-2 : goal.overflow_add-pairs-2
overflow_add-pairs-2 c =
    let a = c.args in
    let l = c.loop-i in
    let k = small a.line.now a.s (2 * l.i) l.pairs (omega arith) l.invariant in
    record { fits = fits l.pairs c.tap_pair-last.result _ _ k c.tap_pair-last.ensures (sample_small _ _) (sample_small _ _) }

pub halves-requires-2 : goal.halves-requires-2
halves-requires-2 c =
    let a = c.args in
    let k : tap_sum a.line.now a.s a.n < 65536 = omega (arith, sum_small a.line.now a.s a.n) in
    subst (λ (x : ℕ). x < 65536) (sym (last (goal.at.halves-requires-2 c).After-tap_pair-last)) k

pub returns : goal.returns
returns c = c.halves-2.ensures ∙ last (goal.at.returns c).After-tap_pair-last
