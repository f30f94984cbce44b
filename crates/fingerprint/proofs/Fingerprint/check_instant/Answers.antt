-- `Fingerprint::check_instant` meets its contract.
use Prim.Native.Nat.{ℕ}
use mathlib.Core.Path.{◌≡◌, sym, ◌∙◌}
use mathlib.Core.Bool.{true, false, or-true}
use borrow.Author.Tests.{eq-eqb, ne_eqb}
use Rattle.floats.specs.declared.Instant.{Instant}
use Rattle.floats.specs.Instants.{kind_of, has_nan}
use Rattle.fingerprint.specs.declared.Fingerprint.{Fingerprint}
use Rattle.fingerprint.specs.State.{store_number, instant_number}
use Rattle.fingerprint.proofs.Fingerprint.check_instant.Goals as goal
use Rattle.fingerprint.proofs.Fingerprint.check_instant.Goals.{then-has_nan-via-then-has_nan, then-has_nan-via-else-has_nan+then-kind-self}

-- its numbers, in their order
module _ (d : ℕ) (f : Fingerprint) (i : Instant) where
  nan_14 : has_nan i ≡ true → 14 ≡ instant_number d f i
  unfolding instant_number
  nan_14 e = rw e

  kind_14 : (kind_of i ≡ f.mix → ⊥) → 14 ≡ instant_number d f i
  unfolding instant_number
  kind_14 e = rw (ne_eqb (kind_of i) f.mix e, or-true (has_nan i))

  taken : has_nan i ≡ false → kind_of i ≡ f.mix → store_number f.held d f.wait 1 ≡ instant_number d f i
  unfolding instant_number
  taken e k = rw (e, eq-eqb (kind_of i) f.mix k)

pub returns-then-has_nan : goal.returns-then-has_nan
returns-then-has_nan c =
    let a = c.args in
    elim c.then-has_nan.branch [
      | then-has_nan-via-then-has_nan w ↦ nan_14 a.d a.self.now a.i (sym c.has_nan.ensures ∙ w.if-has_nan.true)
      | then-has_nan-via-else-has_nan+then-kind-self w ↦ kind_14 a.d a.self.now a.i (λ e. w.if-kind-self.true (w.kind.ensures ∙ e))
    ]

pub returns : goal.returns
returns c =
    let a = c.args in
    c.check_store.ensures ∙ taken a.d a.self.now a.i (sym c.has_nan.ensures ∙ c.if-has_nan.false) (sym c.kind.ensures ∙ c.if-kind-self.false)
