-- Tests: their value from the fact, and the facts from a chain of them.
use Prim.Native.Nat.{ℕ, zero, suc, ◌+◌, ◌≤◌, ◌<◌}
use mathlib.Core.Path.{◌≡◌, refl, sym, ap, ◌∙◌}
use mathlib.Core.Bool.{Bool, true, false, cond, ◌&&◌, false≢true}
use native.Mathlib.Omega.{arith}
use native.Mathlib.Decide.{dec_le}
use lib.Dec.{leb, eqb}
use borrow.Author.Tests.{le-leb, lt-leb, lt-ltb, le-ltb, eq-eqb, ne_eqb, eqb-true, eqb-false}

-- a test's value from the fact
pub ruleset tests = (le-leb, lt-leb, lt-ltb, le-ltb, eq-eqb, ne_eqb)

-- two tests of one fact
pub same_test : (a b c d : ℕ) → (a ≤ b → c ≤ d) → (c ≤ d → a ≤ b) → leb a b ≡ leb c d
same_test a b c d f g =
    elim (dec_le a b) [
      | yes h ↦ le-leb a b h ∙ sym (le-leb c d (f h))
      | no n ↦ lt-leb a b (omega arith) ∙ sym (lt-leb c d (not_within (λ k. n (g k))))
    ]
  where
    not_within : (c ≤ d → ⊥) → d < c
    not_within m = omega arith

-- two tests that both hold
pub both : (s t : Bool) → (s && t) ≡ true → (s ≡ true) × (t ≡ true)
both true t e = (refl, e)
both false t e = absurd (false≢true e)

pub and_stops : (s t : Bool) → s ≡ false → (s && t) ≡ false
and_stops s t e = rw e

pub and_goes : (s t : Bool) → s ≡ true → (s && t) ≡ t
and_goes s t e = rw e

-- a chain of refusals that ends in 0 passed its first test, and the rest of it ends in 0
pub past : (t : Bool) (n rest : ℕ) → cond t rest n ≡ 0 → 0 < n → (t ≡ true) × (rest ≡ 0)
past true n rest e h = (refl, e)
past false n rest e h = absurd (let z : ⊥ = omega arith in z)

-- a fact about a choice, from the fact about each side
pub chosen : {A : Type 0} (P : A → Type 0) (t : Bool) (x y : A) → (t ≡ true → P x) → (t ≡ false → P y) → P (cond t x y)
chosen P true x y f g = f refl
chosen P false x y f g = g refl

-- a choice that has what its other side lacks is the first side
pub held : {A : Type 0} (P : A → Type 0) (t : Bool) (x y : A) → P (cond t x y) → (P y → ⊥) → (t ≡ true) × P x
held P true x y h f = (refl, h)
held P false x y h f = absurd (f h)

-- whether p holds of each number below n
unfoldable pub below : (ℕ → Bool) → ℕ → Bool
below p zero = true
below p (suc n) = p n && below p n

pub at_below : (p : ℕ → Bool) (n k : ℕ) → below p n ≡ true → k < n → p k ≡ true
unfolding below
at_below p zero k e h = absurd (let z : ⊥ = omega arith in z)
at_below p (suc n) k e h =
    let b = both (p n) (below p n) e in
    go (eqb k n) refl b.0 (λ l. at_below p n k b.1 l)
  where
    go : (t : Bool) → eqb k n ≡ t → p n ≡ true → (k < n → p k ≡ true) → p k ≡ true
    go true x y r = ap p (eqb-true k n x) ∙ y
    go false x y r = let q : (k ≡ n → ⊥) = eqb-false k n x in r (omega arith)

-- what the last arm of a `match` over n keys from m on knows
unfoldable pub NoneOf : ℕ → ℕ → ℕ → Type 0
NoneOf k m zero = Unit {0}
NoneOf k m (suc n) = NoneOf k m n × (k ≡ m + n → ⊥)

pub none_left : (k m n : ℕ) → NoneOf k m n → m ≤ k → m + n ≤ k
unfolding NoneOf
none_left k m zero r h = omega arith
none_left k m (suc n) r h =
    let l = none_left k m n r.0 h in
    let d = r.1 in
    omega arith
