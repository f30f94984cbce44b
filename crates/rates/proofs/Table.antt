-- Laws of the cadences: the rows as the code holds them, and one test over the whole table.
use Prim.Native.Nat.{ℕ, zero, suc, ◌+◌, ◌-◌, ◌%◌, ◌≤◌, ◌<◌}
use mathlib.Core.Path.{◌≡◌, refl, sym, ap, subst, ◌∙◌}
use mathlib.Core.Bool.{Bool, true, false, cond, ◌&&◌, beq, false≢true, and-false}
use mathlib.Core.Logic.{◌↔◌}
use mathlib.Core.List.{List, [], ◌∷◌}
use native.Mathlib.Omega.{arith}
use native.Mathlib.Nat.{le_of_suc-le-suc, not-suc-le-zero, mod-lt, mod-eq_of_lt, mod_self, mod-add-mod}
use native.Mathlib.Decide.{dec_lt}
use lib.Dec.{leb, ltb}
use lib.ListN.{length, get_or, drop, get_or-eq_default}
use lib.Seq.{get_or-drop}
use borrow.Author.Tests.{leb-true, lt-ltb, le-ltb, lt-leb}
use Rattle.laws.proofs.Lists.{stands_in}
use Rattle.laws.proofs.Tests.{both, below, at_below}
use Rattle.rates.specs.Rates.{rate_listed}
use Rattle.rates.specs.Cadence.{cadences, cadence, count_occurs, frames, from, place_after, fewest, most}
use Rattle.laws.specs.Lists.{is_one_of, StandsIn}

-- one test: each entry is 1 to 5, no row is longer than 40, and from code 2 on none is empty
abbrev fitting : List ℕ → Bool
fitting [] = true
fitting (x ∷ l) = (leb 1 x && leb x 5) && fitting l

abbrev all_fitting : List (List ℕ) → Bool
all_fitting [] = true
all_fitting (l ∷ ls) = (leb (length l) 40 && fitting l) && all_fitting ls

fitting_at : (l : List ℕ) → fitting l ≡ true → (i : ℕ) → i < length l → (1 ≤ get_or l i 0) × (get_or l i 0 ≤ 5)
fitting_at [] e i h = absurd (not-suc-le-zero h)
fitting_at (x ∷ l) e zero h =
    let p = both (leb 1 x) (leb x 5) (both (leb 1 x && leb x 5) (fitting l) e).0 in
    (leb-true 1 x p.0, leb-true x 5 p.1)
fitting_at (x ∷ l) e (suc i) h = fitting_at l (both (leb 1 x && leb x 5) (fitting l) e).1 i (le_of_suc-le-suc h)

row_fits : (ls : List (List ℕ)) → all_fitting ls ≡ true → (k : ℕ) → (length (get_or ls k []) ≤ 40) × (fitting (get_or ls k []) ≡ true)
row_fits [] e k = (omega arith, refl)
row_fits (l ∷ ls) e zero =
    let p = both (leb (length l) 40) (fitting l) (both (leb (length l) 40 && fitting l) (all_fitting ls) e).0 in
    (leb-true (length l) 40 p.0, p.1)
row_fits (l ∷ ls) e (suc k) = row_fits ls (both (leb (length l) 40 && fitting l) (all_fitting ls) e).1 k

cadence_fits : (code : ℕ) → (length (cadence code) ≤ 40) × (fitting (cadence code) ≡ true)
unfolding cadence cadences frames from is_one_of
cadence_fits code = row_fits cadences refl code

-- no cadence has more than 40 frames
pub at_most_40 : (code : ℕ) → length (cadence code) ≤ 40
at_most_40 code = (cadence_fits code).0

-- each frame of a cadence asks for 1 to 5 bytes
pub due_1_to_5 : (code place : ℕ) → place < length (cadence code) → (1 ≤ get_or (cadence code) place 0) × (get_or (cadence code) place 0 ≤ 5)
due_1_to_5 code place h = fitting_at (cadence code) (cadence_fits code).1 place h

abbrev all_some : List (List ℕ) → Bool
all_some [] = true
all_some (l ∷ ls) = leb 1 (length l) && all_some ls

some_at : (ls : List (List ℕ)) → all_some ls ≡ true → (k : ℕ) → k < length ls → 0 < length (get_or ls k [])
some_at [] e k h = absurd (not-suc-le-zero h)
some_at (l ∷ ls) e zero h = leb-true 1 (length l) (both (leb 1 (length l)) (all_some ls) e).0
some_at (l ∷ ls) e (suc k) h = some_at ls (both (leb 1 (length l)) (all_some ls) e).1 k (le_of_suc-le-suc h)

-- a listed rate has a cadence
pub some_frames : (code : ℕ) → rate_listed code ≡ true → 0 < length (cadence code)
unfolding rate_listed cadence cadences frames from is_one_of
some_frames code e =
    let p = both (leb 2 code) (leb code 11) e in
    let l = leb-true 2 code p.0 in
    let h = leb-true code 11 p.1 in
    let k : 2 + (code - 2) ≡ code = omega arith in
    let r = some_at (drop 2 cadences) refl (code - 2) (omega arith) in
    subst (λ (n : ℕ). 0 < length (get_or cadences n [])) k (rw get_or-drop at r)

-- the place after n frames of a cadence is n modulo its length
pub place_after_lem : (code n : ℕ) → 0 < length (cadence code) → place_after code (n % length (cadence code)) ≡ (n + 1) % length (cadence code)
unfolding place_after
place_after_lem code n h = go (dec_lt (n % m + 1) m)
  where
    m : ℕ
    m = length (cadence code)

    go : Dec (n % m + 1 < m) → cond (ltb (n % m + 1) m) (n % m + 1) 0 ≡ (n + 1) % m
    go (yes l) = rw (lt-ltb (n % m + 1) m l) (sym (mod-eq_of_lt l) ∙ mod-add-mod n m 1)
    go (no f) =
        let l = mod-lt n h in
        let e : n % m + 1 ≡ m = omega arith in
        rw (le-ltb (n % m + 1) m (omega arith)) (sym (mod_self m) ∙ ap (λ (k : ℕ). k % m) (sym e) ∙ mod-add-mod n m 1)

-- ---- the rates that are listed

pub at_most_11 : (code : ℕ) → rate_listed code ≡ true → code ≤ 11
unfolding rate_listed
at_most_11 code e = leb-true code 11 (both (leb 2 code) (leb code 11) e).1

-- whether p holds of each of them, computed once
unfoldable pub listed_below : (ℕ → Bool) → Bool
listed_below p = below (λ code. cond (rate_listed code) (p code) true) 12

pub at_listed : (p : ℕ → Bool) (code : ℕ) → listed_below p ≡ true → rate_listed code ≡ true → p code ≡ true
unfolding listed_below
at_listed p code t e = rw e at (at_below (λ c. cond (rate_listed c) (p c) true) 12 code t (omega (arith, at_most_11 code e)))

-- ---- which counts occur

pub occurs_is : (code count : ℕ) → (count_occurs code count ≡ true) ↔ StandsIn count (cadence code)
unfolding count_occurs
occurs_is code count = stands_in count (cadence code)

pub occurs_1_to_5 : (code count : ℕ) → count_occurs code count ≡ true → (1 ≤ count) × (count ≤ 5)
occurs_1_to_5 code count e =
    let s = (occurs_is code count).0 e in
    subst (λ (n : ℕ). (1 ≤ n) × (n ≤ 5)) s.there (due_1_to_5 code s.place s.within)

-- whether a count lies between a row's ends
unfoldable pub between : ℕ → ℕ → Bool
between code count = leb (get_or fewest code 1) count && leb count (get_or most code 0)

-- one test: of 0 to 5 a row has just the counts from its fewest to its most, and its most is at most 5
abbrev ends_right : ℕ → Bool
ends_right code = leb (get_or most code 0) 5 && below (λ n. beq (count_occurs code n) (between code n)) 6

all_right : below ends_right 12 ≡ true
unfolding below count_occurs cadence cadences frames from is_one_of between fewest most
all_right = refl

beq_true : (s t : Bool) → beq s t ≡ true → s ≡ t
beq_true true true e = refl
beq_true true false e = absurd (false≢true e)
beq_true false true e = absurd (false≢true e)
beq_true false false e = refl

-- above 5 neither the row nor its ends have a count
none_above : (code count : ℕ) → leb (get_or most code 0) 5 ≡ true → 5 < count → count_occurs code count ≡ between code count
unfolding between
none_above code count e h = go (count_occurs code count) refl
  where
    go : (t : Bool) → count_occurs code count ≡ t → count_occurs code count ≡ between code count
    go true q = absurd (let z : ⊥ = omega (arith, (occurs_1_to_5 code count q).1) in z)
    go false q = q ∙ rw (lt-leb count (get_or most code 0) (omega (arith, leb-true (get_or most code 0) 5 e))) (sym (and-false (leb (get_or fewest code 1) count)))

at_row : (code count : ℕ) → code < 12 → count_occurs code count ≡ between code count
at_row code count h =
    let e = both (leb (get_or most code 0) 5) _ (at_below ends_right 12 code all_right h) in
    go (dec_lt count 6) e
  where
    go : Dec (count < 6) → (leb (get_or most code 0) 5 ≡ true) × (below (λ n. beq (count_occurs code n) (between code n)) 6 ≡ true) → count_occurs code count ≡ between code count
    go (yes l) e = beq_true _ _ (at_below (λ n. beq (count_occurs code n) (between code n)) 6 count e.1 l)
    go (no f) e = none_above code count e.0 (omega arith)

-- a code beyond the table has neither
past_table : (code count : ℕ) → 12 ≤ code → count_occurs code count ≡ between code count
unfolding between count_occurs cadence cadences fewest most is_one_of
past_table code count h = rw (get_or-eq_default cadences [] h, get_or-eq_default fewest 1 h, get_or-eq_default most 0 h) (none count)
  where
    none : (n : ℕ) → false ≡ leb 1 n && leb n 0
    none zero = refl
    none (suc n) = rw (lt-leb (suc n) 0 (omega arith)) (sym (and-false (leb 1 (suc n))))

pub occurs_between : (code count : ℕ) → count_occurs code count ≡ between code count
occurs_between code count = go (dec_lt code 12)
  where
    go : Dec (code < 12) → count_occurs code count ≡ between code count
    go (yes l) = at_row code count l
    go (no f) = past_table code count (omega arith)
