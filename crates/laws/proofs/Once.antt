-- No second outcome: what it says of a contract, and why it holds of one that gives each outcome by an equation.
-- A contract is taken as the function's own `Post` has it: lifetimes, arguments, result, and the lent values at exit.
use mathlib.Core.Path.{◌≡◌, refl, sym, ◌∙◌}

module _ {L : Type 0} {A R S : L → Type 0} (Post : (κs : L) → A κs → R κs → S κs → Type 0) where
  -- no two results meet the contract
  abbrev pub OneResult : Type 0
  OneResult = (κs : L) (a : A κs) (r r' : R κs) (s s' : S κs) → Post κs a r s → Post κs a r' s' → r ≡ r'

  -- no two states of what was lent meet it
  abbrev pub OneLeft : {X : Type 0} → ((κs : L) → S κs → X) → Type 0
  OneLeft left = (κs : L) (a : A κs) (r r' : R κs) (s s' : S κs) → Post κs a r s → Post κs a r' s' → left κs s ≡ left κs s'

  -- neither two results nor two states
  abbrev pub OneOutcome : {X : Type 0} → ((κs : L) → S κs → X) → Type 0
  OneOutcome left =
      (κs : L) (a : A κs) (r r' : R κs) (s s' : S κs) → Post κs a r s → Post κs a r' s' → (r ≡ r') × (left κs s ≡ left κs s')

pub one_value : {A : Type 0} {a x y : A} → x ≡ a → y ≡ a → x ≡ y
one_value p q = p ∙ sym q

pub one_pair : {A B : Type 0} {a x y : A} {b v w : B} → (x ≡ a) × (v ≡ b) → (y ≡ a) × (w ≡ b) → (x ≡ y) × (v ≡ w)
one_pair p q = (one_value p.0 q.0, one_value p.1 q.1)

-- a state and what is lent beside it
pub one_both : {A B : Type 0} {a a' : A} {b b' : B} → a ≡ a' → b ≡ b' → ◌≡◌ {A = A × B} (a, b) (a', b')
one_both p q = rw (p, q) refl
