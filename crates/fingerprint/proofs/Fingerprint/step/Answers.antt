-- `Fingerprint::step` meets its contract.
use Prim.Native.Nat.{ℕ, ◌-◌}
use mathlib.Core.Path.{◌≡◌, ap, ap₂, ◌∙◌}
use lib.Dec.{ltb}
use Rattle.fingerprint.specs.declared.Fingerprint.{Fingerprint}
use Rattle.fingerprint.specs.declared.Filters.{Filters}
use Rattle.fingerprint.specs.State.{pushed_of}
use Rattle.fingerprint.specs.Parts.{filters_of, next_filters, with_filters_of}
use Rattle.fingerprint.proofs.Steps.{step_kept, step_passed}
use Rattle.fingerprint.proofs.Fingerprint.step.Goals as goal

pub returns-then-self-eq0 : goal.returns-then-self-eq0
unfolding with_filters_of filters_of
returns-then-self-eq0 c =
    let a = c.args in
    let p = c.kept in
    let v = c.next_filters-v in
    let e : v.result ≡ next_filters (filters_of a.self.now) a.a = v.ensures ∙ ap (λ (u : Filters). next_filters u a.a) c.filters_of.ensures in
    c.with_filters.ensures
    ∙ (ap₂ (λ (g : Fingerprint) (w : ℕ). with_filters_of g v.result w) p.ensures c.less_one.ensures
    ∙ (ap (λ (u : Filters). with_filters_of (pushed_of a.self.now (ltb u.mean u.envelope)) u (a.d - 1)) e
    ∙ step_kept a.d a.self.now (filters_of a.self.now) a.self.now.wait a.a c.if-self-eq0.true))

pub returns-else-self-eq0 : goal.returns-else-self-eq0
unfolding with_filters_of filters_of
returns-else-self-eq0 c =
    let a = c.args in
    let v = c.next_filters-v in
    let e : v.result ≡ next_filters (filters_of a.self.now) a.a = v.ensures ∙ ap (λ (u : Filters). next_filters u a.a) c.filters_of.ensures in
    c.with_filters-else-self-eq0.ensures
    ∙ (ap (λ (u : Filters). with_filters_of a.self.now u (a.self.now.wait - 1)) e
    ∙ step_passed a.d a.self.now (filters_of a.self.now) a.self.now.wait a.a c.if-self-eq0.false)
