-- Histories as 02's A12 tells them: what is taken in under a counter is one container or none.
use Prim.Native.Nat.{ℕ, suc, ◌%◌, ◌≤◌, ◌<◌}
use mathlib.Core.Path.{◌≡◌, refl, sym, ap, subst, ◌∙◌}
use mathlib.Core.Bool.{Bool, true, false, cond, ◌&&◌, true≢false}
use mathlib.Core.List.{List, [], ◌∷◌}
use native.Mathlib.Omega.{arith}
use borrow.Author.Tests.{eqb-true}
use lib.Dec.{eqb}
use Rattle.laws.specs.Bytes.{Bytes}
use Rattle.laws.proofs.Tests.{both}
use Rattle.container.specs.Reading.{reading}
use Rattle.container_laws.proofs.Container.{accepted_counter}
use Rattle.receiving.specs.Numbers.{ahead}
use Rattle.receiving.proofs.Calls.{arrive_free}
use Rattle.receiving_laws.specs.Calls.{Call, arrive, next, give_up, Event, event, Lent}
use Rattle.receiving_laws.specs.History.{counter_of, distance, extended, taken_at, taken, is_some, paper}
use Rattle.receiving_laws.specs.Fates.{ArrivedIn, here, before}

-- each answer is the paper's, and what arrived was lent as bytes
pub data Told (e : ℕ) : List Event → Type 0 where
  none : Told e []
  more : {es : List Event} (c : Call) → Lent c → Told e es → Told e (event c (paper e es c) ∷ es)

-- no call moves back
pub grows : (moved : Bool) (n : ℕ) → n ≤ cond moved (suc n) n
grows true n = omega arith
grows false n = omega arith

pub is_empty : (ts : List (List ℕ)) → is_some ts ≡ false → ts ≡ []
unfolding is_some
is_empty [] z = refl
is_empty (b ∷ bs) z = absurd (true≢false z)

-- an arrival that was told 0
pub record TakenIn (e : ℕ) (es : List Event) (b : List ℕ) : Type 0 where
  pub accepted : (reading b).number ≡ 0
  pub near : distance e es b < 8
  pub free : taken e es (extended e es b) ≡ []

pub taken_in : (e : ℕ) (es : List Event) (b : List ℕ) → (paper e es (arrive b)).number ≡ 0 → TakenIn e es b
unfolding paper
taken_in e es b z =
    let f = arrive_free (reading b).number (distance e es b) (is_some (taken e es (extended e es b))) z in
    record { accepted = f.0; near = f.1.0; free = is_empty (taken e es (extended e es b)) f.1.1 }

-- the counter counted on is a container's own, modulo 256
pub extended_is : (e : ℕ) (es : List Event) (b : List ℕ) → Bytes b → (reading b).number ≡ 0 → counter_of b ≡ extended e es b % 256
unfolding counter_of extended distance ahead
extended_is e es b small a =
    let c : (reading b).contents.counter < 256 = omega (arith, accepted_counter b a, small 1) in
    omega arith

-- ---- What was taken in under x

pub data Once (es : List Event) (x : ℕ) : List (List ℕ) → Type 0 where
  nothing : Once es x []
  one : (b : List ℕ) → ArrivedIn b es → Bytes b → (reading b).number ≡ 0 → counter_of b ≡ x % 256 → Once es x (b ∷ [])

later : (v : Event) {es : List Event} {x : ℕ} {ts : List (List ℕ)} → Once es x ts → Once (v ∷ es) x ts
later v nothing = nothing
later v (one b i s a c) = one b (before i) s a c

-- one arrival more
once_arrived : (e : ℕ) (es : List Event) (b : List ℕ) (x : ℕ) → Bytes b → Once es x (taken e es x) → (y : Bool)
    → (eqb (paper e es (arrive b)).number 0 && eqb (extended e es b) x) ≡ y
    → Once (event (arrive b) (paper e es (arrive b)) ∷ es) x (cond y (b ∷ taken e es x) (taken e es x))
once_arrived e es b x small o false p = later _ o
once_arrived e es b x small o true p =
    let q = both (eqb (paper e es (arrive b)).number 0) (eqb (extended e es b) x) p in
    let z = eqb-true (paper e es (arrive b)).number 0 q.0 in
    let at = eqb-true (extended e es b) x q.1 in
    let i = taken_in e es b z in
    subst (λ (ts : List (List ℕ)). Once (event (arrive b) (paper e es (arrive b)) ∷ es) x (b ∷ ts)) (sym (ap (taken e es) (sym at) ∙ i.free))
    (one b (here z) small i.accepted (extended_is e es b small i.accepted ∙ ap (λ (n : ℕ). n % 256) at))

pub once : {e : ℕ} {es : List Event} → Told e es → (x : ℕ) → Once es x (taken e es x)
unfolding taken taken_at Lent
once none x = nothing
once {e} (more {es} (arrive b) small t) x = once_arrived e es b x small (once t x) (eqb (paper e es (arrive b)).number 0 && eqb (extended e es b) x) refl
once (more (next out) l t) x = later _ (once t x)
once (more give_up l t) x = later _ (once t x)
