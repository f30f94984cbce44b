-- Any run from a fresh receiver: what its places hold is what the history says, so that the next answer is the paper's.
use Prim.Native.Nat.{ℕ, zero, suc, ◌+◌, ◌%◌}
use mathlib.Core.Path.{◌≡◌, refl, sym, ap, subst, ◌∙◌}
use mathlib.Core.Bool.{Bool, true, false, cond}
use mathlib.Core.List.{List, [], ◌∷◌, ◌++◌}
use native.Mathlib.Omega.{arith}
use native.Mathlib.Decide.{ℕ_discrete}
use borrow.Author.Tests.{eq-eqb, ne_eqb, eqb-true}
use lib.Dec.{eqb}
use lib.Seq.{get_or-set_same, get_or-set_other}
use lib.ListN.{length, get_or, drop, replicate, length-set, length-append, length-drop}
use Rattle.std.specs.Prelude.{Option, Some, None}
use Rattle.laws.specs.Bytes.{Bytes}
use Rattle.laws.specs.Calls.{room_number, done_with, out_with}
use Rattle.laws.proofs.Lists.{stored_front}
use Rattle.container.specs.Reading.{reading}
use Rattle.container_laws.proofs.Container.{accepted_size}
use Rattle.receiving.specs.declared.Slot.{Slot}
use Rattle.receiving.specs.declared.Receiver.{Receiver}
use Rattle.receiving.specs.Slots.{slot_of, container_in, is_held}
use Rattle.receiving.specs.Numbers.{ahead, there_number, next_number}
use Rattle.receiving.specs.Receiver.{fresh_of, slot_at, distance_of, arriving, holding, arrive_of, moved_on, asking, next_done, asked_with, next_of, next_out}
use Rattle.receiving_laws.specs.Calls.{Call, arrive, next, give_up, Answer, saying, Event, event, answer_of, after_call, Lent, Run, none, then}
use Rattle.receiving_laws.specs.History.{gone_at, gone, expected, counter_of, distance, extended, taken_at, taken, is_some, first, handing, asked, paper}
use Rattle.receiving_laws.proofs.Told.{Told, more, TakenIn, taken_in, Once, nothing, one, once}
use Rattle.receiving_laws.proofs.Told as told

-- ---- Places

-- a place holds what was taken in
unfoldable pub Fits : Option Slot → List (List ℕ) → Type 0
Fits s [] = s ≡ None
Fits s (b ∷ bs) = s ≡ Some (slot_of b)

fits_some_lem : (s : Option Slot) (ts : List (List ℕ)) → Fits s ts → is_held s ≡ is_some ts
unfolding Fits is_held is_some
fits_some_lem s [] f = rw f
fits_some_lem s (b ∷ bs) f = rw f

-- a container is held as it came
kept_whole : (b : List ℕ) → Bytes b → (reading b).number ≡ 0 → container_in (Some (slot_of b)) ≡ b
unfolding container_in slot_of
kept_whole b small a = stored_front b (replicate 255 0) (length b) refl (omega (arith, (accepted_size b small a).1))

-- ---- What holds after a run

pub record Holds (e : ℕ) (es : List Event) (r : Receiver) : Type 0 where
  pub told : Told e es
  pub counter : r.expected % 256 ≡ expected e es % 256
  pub eight : length r.held ≡ 8
  pub fits : (k : ℕ) → Fits (slot_at r k) (taken e es (expected e es + k))

all_free : (n k : ℕ) → ◌≡◌ {A = Option Slot} (get_or (replicate n None) k None) None
all_free zero k = refl
all_free (suc n) zero = refl
all_free (suc n) (suc k) = all_free n k

pub fresh_holds : (e : ℕ) → Holds e [] (fresh_of e)
unfolding fresh_of slot_at Fits taken expected gone
fresh_holds e = record { told = told.none; counter = ap (λ (n : ℕ). n % 256) (omega arith); eight = refl; fits = all_free 8 }

-- ---- Moving on

with_one_more : (xs : List (Option Slot)) (ts : ℕ → List (List ℕ)) → ((k : ℕ) → Fits (get_or xs k None) (ts k)) → (k : ℕ) → Fits (get_or (xs ++ None ∷ []) k None) (ts k)
with_one_more [] ts f zero = f 0
with_one_more [] ts f (suc k) = f (suc k)
with_one_more (x ∷ xs) ts f zero = f 0
with_one_more (x ∷ xs) ts f (suc k) = with_one_more xs (λ i. ts (suc i)) (λ i. f (suc i)) k

without_first : (xs : List (Option Slot)) (k : ℕ) → get_or (drop 1 xs) k None ≡ get_or xs (suc k) None
without_first [] k = refl
without_first (x ∷ xs) k = refl

moved_eight : (xs : List (Option Slot)) → length xs ≡ 8 → length (drop 1 xs ++ None ∷ []) ≡ 8
moved_eight xs l = length-append (drop 1 xs) (None ∷ []) ∙ rw length-drop (omega (arith, l))

module _ (e : ℕ) (es : List Event) (r : Receiver) (h : Holds e es r) (v : Event) (t : Told e (v ∷ es)) (same : (x : ℕ) → taken e (v ∷ es) x ≡ taken e es x) where
  pub stays : gone (v ∷ es) ≡ gone es → Holds e (v ∷ es) r
  unfolding expected
  stays g = record {
    told = t;
    counter = rw g h.counter;
    eight = h.eight;
    fits = λ k. subst (Fits (slot_at r k)) (sym (same (e + gone (v ∷ es) + k) ∙ ap (λ (n : ℕ). taken e es (e + n + k)) g)) (h.fits k);
  }

  pub moves : gone (v ∷ es) ≡ suc (gone es) → Holds e (v ∷ es) (moved_on r)
  unfolding expected moved_on slot_at
  moves g = record {
    told = t;
    counter = rw g (omega (arith, h.counter));
    eight = moved_eight r.held h.eight;
    fits = λ k.
        subst (Fits (slot_at (moved_on r) k)) (sym (same (e + gone (v ∷ es) + k) ∙ ap (taken e es) (on k)))
        (with_one_more (drop 1 r.held) (λ i. taken e es (e + gone es + suc i)) (λ i. rw without_first (h.fits (suc i))) k);
  }
    where
      on : (k : ℕ) → e + gone (v ∷ es) + k ≡ e + gone es + suc k
      on k = omega (arith, g)

-- ---- Asking for the next

pub same_next : (s : Option Slot) (es : List Event) (x : ℕ) (out : List ℕ) {ts : List (List ℕ)} → Fits s ts → Once es x ts
    → handing (next_number (is_held s) (container_in s) (length out)) (container_in s) out ≡ asked ts out
unfolding Fits asked first is_some handing next_number there_number room_number done_with out_with is_held container_in
same_next s es x out f nothing = rw f
same_next s es x out f (one b i small a c) = rw (f, kept_whole b small a)

-- ---- Arrival

same_distance : (counter x y : ℕ) → x % 256 ≡ y % 256 → ahead counter x ≡ ahead counter y
unfolding ahead
same_distance counter x y h = rw h

module _ (e : ℕ) (es : List Event) (r : Receiver) (h : Holds e es r) (b : List ℕ) where
  abbrev d : ℕ
  d = distance e es b

  away : distance_of r b ≡ d
  unfolding distance_of distance counter_of
  away = same_distance (reading b).contents.counter r.expected (expected e es) h.counter

  same_arrival : arriving r b ≡ (paper e es (arrive b)).number
  unfolding arriving paper extended
  same_arrival = rw (away, fits_some_lem (slot_at r d) (taken e es (expected e es + d)) (h.fits d))

  same_answer : saying (arriving r b) ≡ paper e es (arrive b)
  unfolding paper
  same_answer = ap saying same_arrival

  -- the place that takes it, and the others
  at_place : Bytes b → TakenIn e es b → Fits (slot_at (holding r d b) d) (b ∷ taken e es (expected e es + d))
  unfolding slot_at holding Fits
  at_place small i = get_or-set_same r.held d (Some (slot_of b)) None (omega (arith, h.eight, i.near))

  elsewhere : (k : ℕ) → (k ≡ d → ⊥) → Fits (slot_at (holding r d b) k) (taken e es (expected e es + k))
  unfolding slot_at holding
  elsewhere k n = rw (get_or-set_other r.held d k (Some (slot_of b)) None n) (h.fits k)

  fits_after : Bytes b → (paper e es (arrive b)).number ≡ 0 → (k : ℕ)
      → Fits (slot_at (holding r d b) k) (taken e (event (arrive b) (paper e es (arrive b)) ∷ es) (expected e es + k))
  unfolding taken taken_at extended
  fits_after small z k =
      elim (ℕ_discrete k d) [
        | yes p ↦ rw (p, eq-eqb (paper e es (arrive b)).number 0 z, eq-eqb (expected e es + d) (expected e es + d) refl) (at_place small (taken_in e es b z))
        | no p ↦ rw (eq-eqb (paper e es (arrive b)).number 0 z, ne_eqb (expected e es + d) (expected e es + k) (λ q. p (omega (arith, q)))) (elsewhere k p)
      ]

  arrived : Lent (arrive b) → Told e (event (arrive b) (paper e es (arrive b)) ∷ es) → (t : Bool) → eqb (paper e es (arrive b)).number 0 ≡ t
      → Holds e (event (arrive b) (paper e es (arrive b)) ∷ es) (cond t (holding r d b) r)
  unfolding expected gone gone_at holding Lent taken taken_at
  arrived small t true p = record {
    told = t;
    counter = h.counter;
    eight = rw length-set h.eight;
    fits = fits_after small (eqb-true (paper e es (arrive b)).number 0 p);
  }
  arrived small t false p = stays e es r h _ t untaken refl
    where
      untaken : (x : ℕ) → taken_at e es (arrive b) (paper e es (arrive b)) x (taken e es x) ≡ taken e es x
      untaken x = rw p

-- ---- Any call, any run

-- what a call answers is the paper's, and what holds after it
pub record Right (e : ℕ) (es : List Event) (r : Receiver) (c : Call) : Type 0 where
  pub answer : answer_of r c ≡ paper e es c
  pub holds : Holds e (event c (paper e es c) ∷ es) (after_call r c)

right_arrival : (e : ℕ) (es : List Event) (r : Receiver) → Holds e es r → (b : List ℕ) → Lent (arrive b) → Right e es r (arrive b)
unfolding answer_of after_call arrive_of
right_arrival e es r h b l = record {
  answer = same_answer e es r h b;
  holds = rw (same_arrival e es r h b, away e es r h b) (arrived e es r h b l (more (arrive b) l h.told) (eqb (paper e es (arrive b)).number 0) refl);
}

module _ (e : ℕ) (es : List Event) (r : Receiver) (h : Holds e es r) (out : List ℕ) where
  next_same : answer_of r (next out) ≡ paper e es (next out)
  unfolding answer_of next_of next_out next_done asked_with asking done_with handing paper
  next_same = same_next (slot_at r 0) es (expected e es) out (subst (λ (n : ℕ). Fits (slot_at r 0) (taken e es n)) (omega arith) (h.fits 0)) (once h.told (expected e es))

  next_number_lem : (next_done r (length out)).number ≡ (paper e es (next out)).number
  unfolding answer_of next_of asked_with
  next_number_lem = ap (λ (a : Answer). a.number) next_same

  next_holds : Told e (event (next out) (paper e es (next out)) ∷ es) → (t : Bool) → eqb (paper e es (next out)).number 0 ≡ t
      → Holds e (event (next out) (paper e es (next out)) ∷ es) (cond t (moved_on r) r)
  unfolding taken taken_at gone gone_at
  next_holds t true p = moves e es r h _ t (λ x. refl) (rw p)
  next_holds t false p = stays e es r h _ t (λ x. refl) (rw p)

right_next : (e : ℕ) (es : List Event) (r : Receiver) → Holds e es r → (out : List ℕ) → Lent (next out) → Right e es r (next out)
unfolding after_call next_of asked_with
right_next e es r h out l = record {
  answer = next_same e es r h out;
  holds = rw (next_number_lem e es r h out) (next_holds e es r h out (more (next out) l h.told) (eqb (paper e es (next out)).number 0) refl);
}

right_give_up : (e : ℕ) (es : List Event) (r : Receiver) → Holds e es r → Lent give_up → Right e es r give_up
unfolding answer_of after_call paper taken taken_at gone gone_at
right_give_up e es r h l = record { answer = refl; holds = moves e es r h _ (more give_up l h.told) (λ x. refl) refl }

pub right : (e : ℕ) (es : List Event) (r : Receiver) → Holds e es r → (c : Call) → Lent c → Right e es r c
right e es r h (arrive b) l = right_arrival e es r h b l
right e es r h (next out) l = right_next e es r h out l
right e es r h give_up l = right_give_up e es r h l

pub always : (e : ℕ) {es : List Event} {r : Receiver} → Run (fresh_of e) es r → Holds e es r
always e none = fresh_holds e
always e (then {es} {t} c l run) =
    let w = right e es t (always e run) c l in
    subst (λ (a : Answer). Holds e (event c a ∷ es) (after_call t c)) (sym w.answer) w.holds

-- what a call answers after any run
pub next_answer : (e : ℕ) {es : List Event} {r : Receiver} → Run (fresh_of e) es r → (c : Call) → Lent c → answer_of r c ≡ paper e es c
next_answer e {es} {r} run c l = (right e es r (always e run) c l).answer
