-- All that a receiver holds: how many they are, and that 72 means one of them.
use Prim.Native.Nat.{ℕ, zero, suc, ◌+◌, ◌%◌, ◌≤◌, ◌<◌}
use mathlib.Core.Path.{◌≡◌, refl, sym, ap, ◌∙◌}
use mathlib.Core.Bool.{Bool, true, false, cond, ◌&&◌, false≢true}
use mathlib.Core.List.{List, [], ◌∷◌}
use native.Mathlib.Omega.{arith}
use native.Mathlib.Decide.{ℕ_discrete, dec_le}
use borrow.Author.Tests.{eq-eqb, ne_eqb, eqb-true, le-leb, lt-leb, lt-ltb, leb-true}
use lib.Dec.{eqb, leb}
use lib.ListN.{length}
use Rattle.laws.specs.Bytes.{Bytes}
use Rattle.laws.proofs.Tests.{both}
use Rattle.container.specs.Reading.{reading}
use Rattle.receiving.specs.Numbers.{place_number, arrive_number}
use Rattle.receiving_laws.specs.Calls.{Call, arrive, next, give_up, Answer, Event, Lent}
use Rattle.receiving_laws.specs.History.{gone_at, gone, expected, counter_of, distance, extended, taken_at, taken, is_some, first, paper}
use Rattle.receiving_laws.specs.Fates.{taken_from_at, taken_from, all_held, any_with}
use Rattle.receiving_laws.proofs.Told.{Told, none, more, grows, TakenIn, taken_in, extended_is, Once, nothing, one, once}
use Rattle.receiving_laws.proofs.Fates.{at_most_one}

-- ---- At most eight

-- those of x and more are those of x, and those of more
from_one : (e : ℕ) (es : List Event) (b : List ℕ) (a : Answer) (x : ℕ)
    → length (taken_from e es x) ≡ length (taken e es x) + length (taken_from e es (suc x))
    → length (taken_from_at e es (arrive b) a x (taken_from e es x)) ≡ length (taken_at e es (arrive b) a x (taken e es x)) + length (taken_from_at e es (arrive b) a (suc x) (taken_from e es (suc x)))
unfolding taken_from_at taken_at
from_one e es b a x h = go (eqb a.number 0)
  where
    go : (y : Bool)
        → length (cond (y && leb x (extended e es b)) (b ∷ taken_from e es x) (taken_from e es x))
        ≡ length (cond (y && eqb (extended e es b) x) (b ∷ taken e es x) (taken e es x)) + length (cond (y && leb (suc x) (extended e es b)) (b ∷ taken_from e es (suc x)) (taken_from e es (suc x)))
    go false = h
    go true =
        elim (ℕ_discrete (extended e es b) x) [
          | yes q ↦ rw (le-leb x (extended e es b) (omega (arith, q)), eq-eqb (extended e es b) x q, lt-leb (suc x) (extended e es b) (omega (arith, q))) (omega (arith, h))
          | no q ↦
              elim (dec_le x (extended e es b)) [
                | yes k ↦ rw (le-leb x (extended e es b) k, ne_eqb (extended e es b) x q, le-leb (suc x) (extended e es b) (omega arith)) (omega (arith, h))
                | no k ↦ rw (lt-leb x (extended e es b) (omega arith), ne_eqb (extended e es b) x q, lt-leb (suc x) (extended e es b) (omega arith)) h
              ]
        ]

from_split : (e : ℕ) (es : List Event) (x : ℕ) → length (taken_from e es x) ≡ length (taken e es x) + length (taken_from e es (suc x))
unfolding taken_from taken taken_from_at taken_at
from_split e [] x = refl
from_split e (v ∷ es) x = go v.call (from_split e es x)
  where
    go : (c : Call) → length (taken_from e es x) ≡ length (taken e es x) + length (taken_from e es (suc x))
        → length (taken_from_at e es c v.answer x (taken_from e es x))
        ≡ length (taken_at e es c v.answer x (taken e es x)) + length (taken_from_at e es c v.answer (suc x) (taken_from e es (suc x)))
    go (arrive b) h = from_one e es b v.answer x h
    go (next out) h = h
    go give_up h = h

-- none is beyond the eighth place
beyond_eight : (e : ℕ) (es : List Event) (b : List ℕ) (x : ℕ) → expected e es + 8 ≤ x → taken_from e es x ≡ [] → (y : Bool)
    → (eqb (paper e es (arrive b)).number 0 && leb x (extended e es b)) ≡ y → cond y (b ∷ taken_from e es x) (taken_from e es x) ≡ []
unfolding extended
beyond_eight e es b x h r false p = r
beyond_eight e es b x h r true p =
    let q = both (eqb (paper e es (arrive b)).number 0) (leb x (expected e es + distance e es b)) p in
    let i = taken_in e es b (eqb-true (paper e es (arrive b)).number 0 q.0) in
    let l = leb-true x (expected e es + distance e es b) q.1 in
    absurd (let z : ⊥ = omega (arith, i.near, l, h) in z)

none_beyond : {e : ℕ} {es : List Event} → Told e es → (x : ℕ) → expected e es + 8 ≤ x → taken_from e es x ≡ []
unfolding taken_from taken_from_at expected gone gone_at
none_beyond none x h = refl
none_beyond {e} (more {es} (arrive b) l t) x h = beyond_eight e es b x h (none_beyond t x h) (eqb (paper e es (arrive b)).number 0 && leb x (extended e es b)) refl
none_beyond {e} (more {es} (next out) l t) x h = none_beyond t x (omega (arith, h, grows (eqb (paper e es (next out)).number 0) (gone es)))
none_beyond (more give_up l t) x h = none_beyond t x (omega (arith, h))

-- one for each counter at most
one_each : {e : ℕ} {es : List Event} → Told e es → (n x : ℕ) → length (taken_from e es x) ≤ n + length (taken_from e es (x + n))
one_each {e} {es} t zero x =
    let here : x + 0 ≡ x = omega arith in
    omega (arith, ap (λ (y : ℕ). length (taken_from e es y)) here)
one_each {e} {es} t (suc n) x =
    let there : suc x + n ≡ x + suc n = omega arith in
    omega (arith, from_split e es x, at_most_one (once t x), one_each t n (suc x), ap (λ (y : ℕ). length (taken_from e es y)) there)

pub at_most_eight : {e : ℕ} {es : List Event} → Told e es → length (all_held e es) ≤ 8
unfolding all_held
at_most_eight {e} {es} t = omega (arith, one_each t 8 (expected e es), ap length (none_beyond t (expected e es + 8) (omega arith)))

-- ---- 72

unlike : (x y : ℕ) → x < y + 8 → y < x + 8 → (x ≡ y → ⊥) → x % 256 ≡ y % 256 → ⊥
unlike x y h k n m = omega (arith, h, k, n, m)

within : (e : ℕ) (es : List Event) (b : List ℕ) → distance e es b < 8 → extended e es b < expected e es + 8
unfolding extended
within e es b h = omega (arith, h)

from_here : (e : ℕ) (es : List Event) (b : List ℕ) → expected e es ≤ extended e es b
unfolding extended
from_here e es b = omega arith

abbrev Same : ℕ → List Event → ℕ → ℕ → Type 0
Same e es n x = any_with (x % 256) (taken_from e es n) ≡ is_some (taken e es x)

none_held : (x : ℕ) → any_with (x % 256) [] ≡ is_some []
unfolding any_with is_some
none_held x = refl

-- an arrival that was told 0 has the counter x where it has it counted on
same_arrived : (e : ℕ) (es : List Event) (b : List ℕ) (n x : ℕ) → Bytes b → TakenIn e es b → expected e es ≤ n → n ≤ x → x < n + 8 → Same e es n x
    → any_with (x % 256) (cond (leb n (extended e es b)) (b ∷ taken_from e es n) (taken_from e es n)) ≡ is_some (cond (eqb (extended e es b) x) (b ∷ taken e es x) (taken e es x))
unfolding any_with is_some
same_arrived e es b n x small i h k l r =
    elim (ℕ_discrete (extended e es b) x) [
      | yes q ↦
          rw (le-leb n (extended e es b) (omega (arith, q)), eq-eqb (extended e es b) x q, eq-eqb (counter_of b) (x % 256) (counter ∙ ap (λ (y : ℕ). y % 256) q))
      | no q ↦
          elim (dec_le n (extended e es b)) [
            | yes m ↦ rw (le-leb n (extended e es b) m, ne_eqb (extended e es b) x q, ne_eqb (counter_of b) (x % 256) (λ z. unlike (extended e es b) x (omega (arith, below)) (omega (arith, m)) q (sym counter ∙ z))) r
            | no m ↦ rw (lt-leb n (extended e es b) (omega arith), ne_eqb (extended e es b) x q) r
          ]
    ]
  where
    counter : counter_of b ≡ extended e es b % 256
    counter = extended_is e es b small i.accepted

    below : extended e es b < n + 8
    below = omega (arith, within e es b i.near)

same_taken : (e : ℕ) (es : List Event) (b : List ℕ) (n x : ℕ) → Bytes b → expected e es ≤ n → n ≤ x → x < n + 8 → Same e es n x → (y : Bool)
    → eqb (paper e es (arrive b)).number 0 ≡ y
    → any_with (x % 256) (cond (y && leb n (extended e es b)) (b ∷ taken_from e es n) (taken_from e es n)) ≡ is_some (cond (y && eqb (extended e es b) x) (b ∷ taken e es x) (taken e es x))
same_taken e es b n x small h k l r false p = r
same_taken e es b n x small h k l r true p = same_arrived e es b n x small (taken_in e es b (eqb-true (paper e es (arrive b)).number 0 p)) h k l r

same_held : {e : ℕ} {es : List Event} → Told e es → (n x : ℕ) → expected e es ≤ n → n ≤ x → x < n + 8 → Same e es n x
unfolding taken_from taken_from_at taken taken_at expected gone gone_at Lent
same_held none n x h k l = none_held x
same_held {e} (more {es} (arrive b) small t) n x h k l =
    same_taken e es b n x small h k l (same_held t n x h k l) (eqb (paper e es (arrive b)).number 0) refl
same_held {e} (more {es} (next out) s t) n x h k l = same_held t n x (omega (arith, h, grows (eqb (paper e es (next out)).number 0) (gone es))) k l
same_held (more give_up s t) n x h k l = same_held t n x (omega (arith, h)) k l

near_number : (d : ℕ) (held : Bool) → d < 8 → arrive_number 0 d held ≡ cond held 72 0
unfolding arrive_number place_number
near_number d held h = rw (lt-ltb d 128 (omega arith), lt-ltb d 8 h)

-- of a container that is accepted, and near enough, 72 says that one with its counter is held
pub already_held : {e : ℕ} {es : List Event} → Told e es → (b : List ℕ) → Bytes b → (reading b).number ≡ 0 → distance e es b < 8
    → (paper e es (arrive b)).number ≡ cond (any_with (counter_of b) (all_held e es)) 72 0
unfolding paper all_held
already_held {e} {es} t b small a h =
    rw (a, extended_is e es b small a, same_held t (expected e es) (extended e es b) (omega arith) (from_here e es b) (omega (arith, within e es b h)))
    (near_number (distance e es b) (is_some (taken e es (extended e es b))) h)

-- ---- A counter that has come round again

counter_of_lem : {es : List Event} {x : ℕ} {ts : List (List ℕ)} (b : List ℕ) → Once es x ts → ts ≡ b ∷ [] → counter_of b ≡ x % 256
unfolding is_some first
counter_of_lem b nothing p = absurd (false≢true (ap is_some p))
counter_of_lem b (one b' i small a c) p = ap counter_of (sym (ap first p)) ∙ c

-- two containers with one counter, the one taken in under x and the other under a later y
pub come_round : {e : ℕ} {es : List Event} → Told e es → (x y : ℕ) (b c : List ℕ) → taken e es x ≡ b ∷ [] → taken e es y ≡ c ∷ []
    → counter_of b ≡ counter_of c → x < y → x + 256 ≤ y
come_round t x y b c p q same h =
    let m : x % 256 ≡ y % 256 = sym (counter_of_lem b (once t x) p) ∙ same ∙ counter_of_lem c (once t y) q in
    omega (arith, h, m)
