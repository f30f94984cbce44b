-- What becomes of each container that was taken in.
use Prim.Native.Nat.{ℕ, suc, ◌+◌, ◌≤◌, ◌<◌}
use mathlib.Core.Path.{◌≡◌, refl, sym, ap, subst, ◌∙◌}
use mathlib.Core.Bool.{Bool, true, false, cond, ◌&&◌, false≢true}
use mathlib.Core.List.{List, [], ◌∷◌, ◌++◌, append-nil}
use native.Mathlib.Omega.{arith}
use native.Mathlib.Decide.{ℕ_discrete, dec_le}
use borrow.Author.Tests.{eq-eqb, ne_eqb, eqb-true, le-leb, lt-leb}
use lib.Dec.{eqb}
use lib.ListN.{length, take}
use Rattle.laws.proofs.Calls as calls
use Rattle.laws.proofs.Tests.{past}
use Rattle.receiving.specs.Numbers.{there_number, next_number}
use Rattle.receiving_laws.specs.Calls.{Call, arrive, next, give_up, Answer, Event}
use Rattle.receiving_laws.specs.History.{gone_at, gone, expected, distance, extended, taken_at, taken, is_some, first, handing, asked, paper}
use Rattle.receiving_laws.specs.Fates.{handed_at, handed, held, given_up_at, given_up, InOrder, HandsOut}
use Rattle.receiving_laws.proofs.Told.{Told, none, more, grows, Once, nothing, one, once}

pub at_most_one : {es : List Event} {x : ℕ} {ts : List (List ℕ)} → Once es x ts → length ts ≤ 1
at_most_one nothing = omega arith
at_most_one (one b i s a c) = omega arith

-- ---- A call that hands out

-- it hands out the one that was taken in
pub record HandedOver (ts : List (List ℕ)) (a : Answer) : Type 0 where
  pub there : is_some ts ≡ true
  pub bytes : take a.written a.out ≡ first ts

pub handed_over : (ts : List (List ℕ)) (out : List ℕ) → (asked ts out).number ≡ 0 → HandedOver ts (asked ts out)
unfolding asked handing next_number there_number
handed_over ts out z =
    let t = calls.told_zero (there_number (is_some ts)) (first ts) (length out) z in
    record { there = (past (is_some ts) 73 0 t.0 (omega arith)).0; bytes = calls.handed (next_number (is_some ts) (first ts) (length out)) (first ts) out z }

pub alone : {es : List Event} {x : ℕ} {ts : List (List ℕ)} → Once es x ts → is_some ts ≡ true → ts ≡ first ts ∷ []
unfolding is_some first
alone nothing s = absurd (false≢true s)
alone (one b i small a c) s = refl

pub in_order : (e : ℕ) (es : List Event) (ts : List (List ℕ)) → Once es (expected e es) ts → is_some ts ≡ true → InOrder e es (first ts)
unfolding is_some first expected
in_order e es [] o s = absurd (false≢true s)
in_order e es (b ∷ bs) (one b' i small a c) s = record { arrived = i; accepted = a; counter = c }

pub hands_out : {e : ℕ} {es : List Event} → Told e es → (c : Call) → HandsOut e es c (paper e es c)
unfolding HandsOut paper
hands_out t (arrive b) = tt
hands_out {e} {es} t (next out) = λ z.
    let h = handed_over (taken e es (expected e es)) out z in
    subst (InOrder e es) (sym h.bytes) (in_order e es (taken e es (expected e es)) (once t (expected e es)) h.there)
hands_out t give_up = tt

-- ---- Before its turn, and after

held_now : (e : ℕ) (es : List Event) (x : ℕ) → expected e es ≤ x → held e es x ≡ taken e es x
unfolding held
held_now e es x h = rw (le-leb (expected e es) x h)

held_past : (e : ℕ) (es : List Event) (x : ℕ) → x < expected e es → held e es x ≡ []
unfolding held
held_past e es x h = rw (lt-leb (expected e es) x h)

-- a counter that has not been passed: nothing was handed out or given up under it
pub not_yet : {e : ℕ} {es : List Event} → Told e es → (x : ℕ) → expected e es ≤ x → (handed e es x ≡ []) × (given_up e es x ≡ [])
unfolding handed handed_at given_up given_up_at expected gone gone_at
not_yet none x h = (refl, refl)
not_yet (more (arrive b) l t) x h = not_yet t x h
not_yet {e} (more {es} (next out) l t) x h =
    let w = not_yet t x (omega (arith, h, grows (eqb (paper e es (next out)).number 0) (gone es))) in
    (go (eqb (paper e es (next out)).number 0) h w.0, w.1)
  where
    go : (y : Bool) → e + cond y (suc (gone es)) (gone es) ≤ x → handed e es x ≡ []
        → cond (y && eqb (e + gone es) x) (take (paper e es (next out)).written (paper e es (next out)).out ∷ handed e es x) (handed e es x) ≡ []
    go true p r = rw (ne_eqb (e + gone es) x (λ q. omega (arith, p, q))) r
    go false p r = r
not_yet {e} (more {es} give_up l t) x h =
    let w = not_yet t x (omega (arith, h)) in
    (w.0, rw (ne_eqb (e + gone es) x (λ q. omega (arith, h, q))) w.1)

-- an arrival under a counter that has been passed is not taken in
untaken : (e : ℕ) (es : List Event) (b : List ℕ) (a : Answer) (x : ℕ) → x < expected e es → taken_at e es (arrive b) a x (taken e es x) ≡ taken e es x
unfolding taken_at extended
untaken e es b a x h = go (eqb a.number 0)
  where
    go : (y : Bool) → cond (y && eqb (expected e es + distance e es b) x) (b ∷ taken e es x) (taken e es x) ≡ taken e es x
    go true = rw (ne_eqb (expected e es + distance e es b) x (λ q. omega (arith, h, q)))
    go false = refl

-- the turn of x: what is handed out or given up
handed_at_turn : {e : ℕ} {es : List Event} → Told e es → (out : List ℕ) (x : ℕ) → expected e es ≡ x → (paper e es (next out)).number ≡ 0
    → taken e es x ≡ take (paper e es (next out)).written (paper e es (next out)).out ∷ []
unfolding paper
handed_at_turn {e} {es} t out x p z =
    let h = handed_over (taken e es (expected e es)) out z in
    ap (taken e es) (sym p) ∙ alone (once t (expected e es)) h.there ∙ ap (λ (b : List ℕ). b ∷ []) (sym h.bytes)

pub passed : {e : ℕ} {es : List Event} → Told e es → (x : ℕ) → x < expected e es → taken e es x ≡ handed e es x ++ given_up e es x
unfolding taken taken_at handed handed_at given_up given_up_at expected gone gone_at
passed none x h = refl
passed {e} (more {es} (arrive b) l t) x h = untaken e es b (paper e es (arrive b)) x h ∙ passed t x h
passed {e} (more {es} (next out) l t) x h = go (eqb (paper e es (next out)).number 0) refl h (λ k. passed t x k)
  where
    go : (y : Bool) → eqb (paper e es (next out)).number 0 ≡ y → x < e + cond y (suc (gone es)) (gone es) → (x < e + gone es → taken e es x ≡ handed e es x ++ given_up e es x)
        → taken e es x ≡ cond (y && eqb (e + gone es) x) (take (paper e es (next out)).written (paper e es (next out)).out ∷ handed e es x) (handed e es x) ++ given_up e es x
    go false p k r = r k
    go true p k r =
        elim (ℕ_discrete (e + gone es) x) [
          | yes q ↦
              let w = not_yet t x (omega (arith, q)) in
              rw (eq-eqb (e + gone es) x q, w.0, w.1) (handed_at_turn t out x q (eqb-true (paper e es (next out)).number 0 p))
          | no q ↦ rw (ne_eqb (e + gone es) x q) (r (omega arith))
        ]
passed {e} (more {es} give_up l t) x h = go (λ k. passed t x k)
  where
    go : (x < e + gone es → taken e es x ≡ handed e es x ++ given_up e es x)
        → taken e es x ≡ handed e es x ++ cond (eqb (e + gone es) x) (held e es x ++ given_up e es x) (given_up e es x)
    go r =
        elim (ℕ_discrete (e + gone es) x) [
          | yes q ↦
              let w = not_yet t x (omega (arith, q)) in
              rw (eq-eqb (e + gone es) x q, w.0, w.1, append-nil, held_now e es x (omega (arith, q)))
          | no q ↦ rw (ne_eqb (e + gone es) x q) (r (omega arith))
        ]

-- handed out, given up or still held
pub each_fate : {e : ℕ} {es : List Event} → Told e es → (x : ℕ) → taken e es x ≡ handed e es x ++ (given_up e es x ++ held e es x)
each_fate {e} {es} t x =
    elim (dec_le (expected e es) x) [
      | yes h ↦ let w = not_yet t x h in rw (w.0, w.1, held_now e es x h)
      | no h ↦ rw (held_past e es x (omega arith), append-nil) (passed t x (omega arith))
    ]
