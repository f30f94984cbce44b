-- The fingerprints of a session hold what was heard: no word on events.
use Prim.Native.Nat.{ℕ, zero, suc, ◌+◌, ◌-◌, ◌*◌, ◌≤◌, ◌<◌}
use mathlib.Core.Path.{◌≡◌, refl, ◌∙◌}
use mathlib.Core.Bool.{true, cond}
use mathlib.Core.List.{List, [], ◌∷◌, ◌++◌, map}
use native.Mathlib.Omega.{arith}
use native.Mathlib.Nat.{add-zero, add-suc, suc-add, not-suc-le-zero, le_of_suc-le-suc}
use lib.Dec.{eqb}
use lib.ListN.{length, get_or, set, replicate}
use borrow.Author.Tests.{le-leb, eq-eqb, ne_eqb}
use Rattle.laws.proofs.Tests.{both}
use Rattle.fingerprint.specs.declared.Fingerprint.{Fingerprint}
use Rattle.fingerprint.specs.State.{fresh_of, take_of}
use Rattle.fingerprint.specs.History.{bytes_from, Holds}
use Rattle.fingerprint.specs.Paper.{held_answer, leave_answer, bytes_answer, AllRight}
use Rattle.fingerprint.proofs.History.{holds_fresh, holds_take, holds_restart}
use Rattle.fingerprint.proofs.Answers.{holds_paper, can_take_paper, taken_paper, all_right}
use Rattle.container.specs.declared.Print.{Print}
use Rattle.session.specs.Fingerprints.{each, cleared, shed, all_hold, print_of, prints_of}
use Rattle.session.specs.Session.{no_fingerprint}
use Rattle.demands.specs.Paper.{every_holds, prints_said}

-- fingerprints, from k on, of the mix types given: that of mix type m and number n has heard h m n, of whose bits g have left
pub data Voices (d g : ℕ) (h : ℕ → ℕ → List ℕ) : ℕ → List ℕ → List Fingerprint → Type 0 where
  none : {k : ℕ} {fs : List Fingerprint} → Voices d g h k [] fs
  more : {k m : ℕ} {ms : List ℕ} {f : Fingerprint} {fs : List Fingerprint} → Holds m d (h m k) g f → Voices d g h (suc k) ms fs → Voices d g h k (m ∷ ms) (f ∷ fs)

pub fresh_voices : (d : ℕ) → 0 < d → (k : ℕ) (ms : List ℕ) (fs : List Fingerprint) → Voices d 0 (λ m n. []) k ms (map fresh_of ms ++ fs)
fresh_voices d p k [] fs = none
fresh_voices d p k (m ∷ ms) fs = more (holds_fresh m d p) (fresh_voices d p (suc k) ms fs)

-- one of them
pub voice_at : {d g : ℕ} {h : ℕ → ℕ → List ℕ} {k : ℕ} {ms : List ℕ} {fs : List Fingerprint} → Voices d g h k ms fs
    → (i : ℕ) → i < length ms → Holds (get_or ms i 0) d (h (get_or ms i 0) (k + i)) g (get_or fs i no_fingerprint)
voice_at none i l = absurd (not-suc-le-zero l)
voice_at {k = k} (more v vs) zero l = rw (add-zero k) v
voice_at {k = k} (more {ms = ms} v vs) (suc i) l = rw (add-suc k i, ← (suc-add k i)) (voice_at vs i (le_of_suc-le-suc l))

-- the same samples, as far as they count
pub same_voices : {d g : ℕ} {h h' : ℕ → ℕ → List ℕ} {k : ℕ} {ms : List ℕ} {fs : List Fingerprint}
    → ((m n : ℕ) → k ≤ n → h m n ≡ h' m n) → Voices d g h k ms fs → Voices d g h' k ms fs
same_voices e none = none
same_voices {k = k} e (more {m = m} v vs) = more (rw (e m k (omega arith)) at v) (same_voices (λ m n l. e m n (omega arith)) vs)

-- the i-th, number j, has heard more: x m if it is of mix type m; that makes it f
pub heard_voices : {d g : ℕ} {h : ℕ → ℕ → List ℕ} {k : ℕ} {ms : List ℕ} {fs : List Fingerprint} (x : ℕ → List ℕ) (j : ℕ) (f : Fingerprint) → Voices d g h k ms fs
    → (i : ℕ) → j ≡ k + i → ((m : ℕ) (y : List ℕ) → Holds m d y g (get_or fs i no_fingerprint) → Holds m d (x m ++ y) g f)
    → Voices d g (λ m n. cond (eqb j n) (x m ++ h m n) (h m n)) k ms (set fs i f)
heard_voices x j f none i e a = none
heard_voices {d} {g} {h} {k} x j f (more {m = m} v vs) zero e a =
    let z : Holds m d (cond (eqb j k) (x m ++ h m k) (h m k)) g f = rw (eq-eqb j k (omega arith)) (a m (h m k) v) in
    more z
    (same_voices (λ m n l. rw (ne_eqb j n (omega arith)) refl) vs)
heard_voices {d} {g} {h} {k} x j f (more {m = m} {f = e₀} v vs) (suc i) e a =
    let z : Holds m d (cond (eqb j k) (x m ++ h m k) (h m k)) g e₀ = rw (ne_eqb j k (omega arith)) v in
    more z (heard_voices x j f vs i (omega arith) a)

-- an audio restart
pub cleared_voices : {d g : ℕ} {h : ℕ → ℕ → List ℕ} {k : ℕ} {ms : List ℕ} {fs : List Fingerprint} → Voices d g h k ms fs
    → Voices d 0 (λ m n. []) k ms (each cleared (length ms) fs)
unfolding each cleared
cleared_voices none = none
cleared_voices {d} {g} {h} {k} (more {m = m} {f = f} v vs) = more (holds_restart m d (h m k) g f v) (cleared_voices vs)

-- all hold n bytes exactly where the paper says so
pub all_hold_lem : {d g : ℕ} {h : ℕ → ℕ → List ℕ} {k : ℕ} {ms : List ℕ} {fs : List Fingerprint} (n : ℕ) → Voices d g h k ms fs
    → all_hold n (length ms) fs ≡ every_holds d g n h k ms
unfolding all_hold every_holds
all_hold_lem n none = refl
all_hold_lem {d} {g} {h} {k} n (more {m = m} {f = f} v vs) = rw (holds_paper m d (h m k) g f v n, all_hold_lem n vs) refl

-- n bytes, at most 5, that all hold: they leave, and are those of the paper
leaves : (d : ℕ) (h : List ℕ) (g n : ℕ) → n ≤ 5 → held_answer d h g n ≡ true → leave_answer d h g n ≡ true
unfolding leave_answer
leaves d h g n l e = rw (le-leb n 5 l, e) refl

given : (d : ℕ) (h : List ℕ) (g n : ℕ) → leave_answer d h g n ≡ true → bytes_answer d h g n ≡ bytes_from d h g n ++ replicate (5 - n) 0
unfolding bytes_answer
given d h g n e = rw e refl

pub shed_voices : {d g : ℕ} {h : ℕ → ℕ → List ℕ} {k : ℕ} {ms : List ℕ} {fs : List Fingerprint} (n : ℕ) → n ≤ 5 → Voices d g h k ms fs
    → every_holds d g n h k ms ≡ true → Voices d (g + 8 * n) h k ms (each (shed n) (length ms) fs)
unfolding every_holds each shed
shed_voices n l none e = none
shed_voices {d} {g} {h} {k} n l (more {m = m} {ms = ms} {f = f} v vs) e =
    let a = both (held_answer d (h m k) g n) (every_holds d g n h (suc k) ms) e in
    more (holds_take m d (h m k) g f v n true (can_take_paper m d (h m k) g f v n ∙ leaves d (h m k) g n l a.0)) (shed_voices n l vs a.1)

same_print : (k n : ℕ) {a b : ℕ} {xs ys : List ℕ} {ps qs : List Print} → a ≡ b → xs ≡ ys → ps ≡ qs
    → record { id = k; mix = a; size = n; bytes = xs } ∷ ps ≡ record { id = k; mix = b; size = n; bytes = ys } ∷ qs
same_print k n p q r = cc

pub prints_said_lem : {d g : ℕ} {h : ℕ → ℕ → List ℕ} {k : ℕ} {ms : List ℕ} {fs : List Fingerprint} (n : ℕ) → n ≤ 5 → Voices d g h k ms fs
    → every_holds d g n h k ms ≡ true → prints_of n k (length ms) fs ≡ prints_said d g n h k ms
unfolding every_holds prints_of prints_said print_of
prints_said_lem n l none e = refl
prints_said_lem {d} {g} {h} {k} n l (more {m = m} {ms = ms} {f = f} v vs) e =
    let a = both (held_answer d (h m k) g n) (every_holds d g n h (suc k) ms) e in
    let t : (take_of f n).bytes ≡ bytes_from d (h m k) g n ++ replicate (5 - n) 0 =
    taken_paper m d (h m k) g f v n ∙ given d (h m k) g n (leaves d (h m k) g n l a.0) in
    same_print k n v.mix_type t (prints_said_lem n l vs a.1)

-- demand 3: each bit of those bytes
pub voice_right : {d g : ℕ} {h : ℕ → ℕ → List ℕ} {k : ℕ} {ms : List ℕ} {fs : List Fingerprint} (n : ℕ) → n ≤ 5 → Voices d g h k ms fs
    → every_holds d g n h k ms ≡ true → (i : ℕ) → i < length ms
    → AllRight d (h (get_or ms i 0) (k + i)) g (bytes_from d (h (get_or ms i 0) (k + i)) g n ++ replicate (5 - n) 0) n
unfolding every_holds
voice_right n l none e i j = absurd (not-suc-le-zero j)
voice_right {d} {g} {h} {k} n l (more {m = m} {ms = ms} {f = f} v vs) e zero j =
    let a = both (held_answer d (h m k) g n) (every_holds d g n h (suc k) ms) e in
    let t = leaves d (h m k) g n l a.0 in
    let b : (take_of f n).bytes ≡ bytes_from d (h m k) g n ++ replicate (5 - n) 0 = taken_paper m d (h m k) g f v n ∙ given d (h m k) g n t in
    rw (add-zero k, ← b) (all_right m d (h m k) g f v n (can_take_paper m d (h m k) g f v n ∙ t))
voice_right {d} {g} {h} {k} n l (more {m = m} {ms = ms} v vs) e (suc i) j =
    let a = both (held_answer d (h m k) g n) (every_holds d g n h (suc k) ms) e in
    rw (add-suc k i, ← (suc-add k i)) (voice_right n l vs a.1 i (le_of_suc-le-suc j))

-- the i-th of the fingerprints said
pub said_at : (d g n : ℕ) (h : ℕ → ℕ → List ℕ) (k : ℕ) (ms : List ℕ) (ps : List Print) (x : Print) (i : ℕ) → i < length ms
    → get_or (prints_said d g n h k ms ++ ps) i x
    ≡ record { id = k + i; mix = get_or ms i 0; size = n; bytes = bytes_from d (h (get_or ms i 0) (k + i)) g n ++ replicate (5 - n) 0 }
unfolding prints_said
said_at d g n h k [] ps x i l = absurd (not-suc-le-zero l)
said_at d g n h k (m ∷ ms) ps x zero l = rw (add-zero k) refl
said_at d g n h k (m ∷ ms) ps x (suc i) l = rw (add-suc k i, ← (suc-add k i)) (said_at d g n h (suc k) ms ps x i (le_of_suc-le-suc l))
