use Prim.Native.Nat.{ℕ, ◌+◌, ◌*◌, ◌≤◌}
use mathlib.Core.Path.{◌≡◌, ap, ◌∙◌}
use mathlib.Core.List.{◌∷◌}
use native.Mathlib.Nat.{mul-le-mul_right}
use native.Mathlib.Numerals.{add-one}
use native.Mathlib.Omega.{arith}
use lib.ListN.{length}
use Rattle.sound.specs.Mix.{instant_bytes, instant_value}
use Rattle.fingerprint.specs.State.{after, values_at, values_of, heard_of}
use Rattle.fingerprint.specs.declared.Filters.{Filters}
use Rattle.fingerprint.specs.Parts.{filters_of, with_filters_of}
use Rattle.fingerprint.proofs.Counts.{instants_fit}
use Rattle.fingerprint.proofs.Steps.{kept_on, run_on}
use Rattle.fingerprint.proofs.heard.Goals as goal
use Rattle.fingerprint.proofs.heard.Goals.{At-loop-i}

-- m more instants lie within the block
room : (c : goal.At-loop-i) (m : ℕ) → c.loop-i.i + m ≤ c.instants_in-n.result
    → (c.loop-i.i + m) * c.instant_bytes-size.result ≤ length c.args.block.now
room c m h =
    let n = c.instants_in-n in
    let size = c.instant_bytes-size in
    let b = c.args in
    let fit : n.result * size.result ≤ length b.block.now = rw (n.ensures, size.ensures) (instants_fit b.f.mix (length b.block.now)) in
    omega (arith, mul-le-mul_right size.result h)

pub loop-i-init : goal.loop-i-init
unfolding with_filters_of filters_of after values_at
loop-i-init c = (omega arith, omega arith, ap (λ (v : Filters). with_filters_of c.args.f v c.args.f.wait) c.filters_of-v.ensures)

pub overflow_add-at : goal.overflow_add-at
overflow_add-at c = omega (arith, room (goal.at.overflow_add-at c).At-loop-i 1 (omega arith))

pub loop-i-preserved-then-wait-eq0 : goal.loop-i-preserved-then-wait-eq0
unfolding values_at
loop-i-preserved-then-wait-eq0 c =
    let l = c.loop-i in
    let size = c.instant_bytes-size in
    let b = c.args in
    let a = c.instant_value in
    let v = c.next_filters-v in
    let h = values_at b.rule b.f.mix b.block.now 0 l.i in
    let e : a.result ≡ instant_value b.rule b.f.mix b.block.now (0 + l.i * instant_bytes b.f.mix) =
    a.ensures ∙ ap (instant_value b.rule b.f.mix b.block.now) (l.invariant.1 ∙ (ap (◌*◌ l.i) size.ensures ∙ omega arith)) in (
      omega arith,
      omega arith,
      rw add-one
          (kept_on b.d l.rest l.v l.wait a.result b.f h v.result c.kept-rest.result _ l.invariant.2
          c.if-wait-eq0.true v.ensures c.kept-rest.ensures c.less_one-pause.ensures
          ∙ ap (λ (x : ℕ). after b.d b.f (x ∷ h)) e),
    )

pub through-v-requires : goal.through-v-requires
through-v-requires c =
    let size = c.instant_bytes-size in
    let k = c.least-k.result in
    omega (arith, room (goal.at.through-v-requires c).At-loop-i k (omega arith), ap (◌*◌ k) size.ensures)

pub overflow_mul-at : goal.overflow_mul-at
overflow_mul-at c = omega (arith, room (goal.at.overflow_mul-at c).At-loop-i c.least-k.result (omega arith))

pub overflow_add-at-else-wait-eq0 : goal.overflow_add-at-else-wait-eq0
overflow_add-at-else-wait-eq0 c = omega (arith, room (goal.at.overflow_add-at-else-wait-eq0 c).At-loop-i c.least-k.result (omega arith))

pub loop-i-preserved : goal.loop-i-preserved
loop-i-preserved c =
    let l = c.loop-i in
    let size = c.instant_bytes-size in
    let b = c.args in (
      omega arith,
      omega arith,
      run_on b.d b.f l.rest l.v c.through-v.result l.wait b.rule b.f.mix b.block.now l.at l.i c.least-k.result
          l.invariant.2 (l.invariant.1 ∙ ap (◌*◌ l.i) size.ensures) (omega arith) c.through-v.ensures,
    )

pub returns : goal.returns
unfolding heard_of values_of
returns c =
    let l = c.loop-i in
    let b = c.args in
    let n = c.instants_in-n in
    let all : l.i ≡ n.result = omega arith in
    c.with_filters.ensures ∙ (l.invariant.2 ∙ ap (λ (i : ℕ). after b.d b.f (values_at b.rule b.f.mix b.block.now 0 i)) (all ∙ n.ensures))
