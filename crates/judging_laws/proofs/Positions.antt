-- The places that are kept are the starting positions that fit: for each of them the place after the counts so far, or 40.
use Prim.Native.Nat.{ℕ, zero, suc, ◌+◌, ◌≤◌, ◌<◌}
use mathlib.Core.Path.{◌≡◌, refl, sym, ap, ap₂, subst, ◌∙◌}
use mathlib.Core.Bool.{Bool, true, false, cond, ◌&&◌, ◌||◌, false≢true, or-true}
use mathlib.Core.List.{List, [], ◌∷◌, ◌++◌, map}
use native.Mathlib.Omega.{arith}
use native.Mathlib.Decide.{dec_lt}
use native.Mathlib.Nat.{not-suc-le-zero}
use lib.ListN.{length, get_or, get_or-eq_default}
use lib.Dec.{ltb, eqb}
use borrow.Author.Tests.{lt-ltb, ltb-true, ne_eqb, eqb-true, eqb-false}
use Rattle.laws.proofs.Tests.{chosen}
use Rattle.rates.specs.Cadence.{cadence, place_after}
use Rattle.rates.proofs.Table.{at_most_40}
use Rattle.judging.specs.Places.{places_from, every_place, place_fitted, any_place}
use Rattle.judging_laws.specs.Faults.{fits_from, fits_below, fits_some}

-- the place after so many counts, the oldest first
unfoldable pub place_on : ℕ → List ℕ → ℕ → ℕ
place_on rate [] place = place
place_on rate (n ∷ ns) place = place_on rate ns (place_fitted rate n place)

-- one count more
pub on_more : (rate : ℕ) (ns : List ℕ) (n place : ℕ) → place_on rate (ns ++ n ∷ []) place ≡ place_fitted rate n (place_on rate ns place)
unfolding place_on
on_more rate [] n place = refl
on_more rate (m ∷ ns) n place = on_more rate ns n (place_fitted rate m place)

pub all_more : (rate : ℕ) (ns : List ℕ) (n : ℕ) (places : List ℕ)
    → map (place_fitted rate n) (map (place_on rate ns) places) ≡ map (place_on rate (ns ++ n ∷ [])) places
all_more rate ns n [] = refl
all_more rate ns n (p ∷ ps) = ap₂ (λ (x : ℕ) (l : List ℕ). x ∷ l) (sym (on_more rate ns n p)) (all_more rate ns n ps)

pub all_none : (rate : ℕ) (places : List ℕ) → map (place_on rate []) places ≡ places
unfolding place_on
all_none rate [] = refl
all_none rate (p ∷ ps) = ap (◌∷◌ p) (all_none rate ps)

-- counts of one byte and more
unfoldable pub Some : List ℕ → Type 0
Some [] = Unit {0}
Some (n ∷ ns) = (1 ≤ n) × Some ns

pub some_more : (ns : List ℕ) (n : ℕ) → Some ns → 1 ≤ n → Some (ns ++ n ∷ [])
unfolding Some
some_more [] n s h = (h, tt)
some_more (m ∷ ns) n s h = (s.0, some_more ns n s.1 h)

module _ (rate : ℕ) where
  -- at a place of which nothing is due no count fits, and so on for good
  nothing_due : (n place : ℕ) → 1 ≤ n → length (cadence rate) ≤ place → place_fitted rate n place ≡ 40
  unfolding place_fitted
  nothing_due n place h l =
      let z : get_or (cadence rate) place 0 ≡ 0 = get_or-eq_default (cadence rate) 0 l in
      rw (ne_eqb (get_or (cadence rate) place 0) n (λ e. omega (arith, e, z, h)))

  lost : (ns : List ℕ) → Some ns → place_on rate ns 40 ≡ 40
  unfolding place_on Some
  lost [] s = refl
  lost (n ∷ ns) s = ap (place_on rate ns) (nothing_due n 40 s.0 (at_most_40 rate)) ∙ lost ns s.1

  after_within : (place : ℕ) → place < length (cadence rate) → place_after rate place < length (cadence rate)
  unfolding place_after
  after_within place h =
      chosen (λ (p : ℕ). p < length (cadence rate)) (ltb (place + 1) (length (cadence rate))) _ _ (λ e. ltb-true (place + 1) (length (cadence rate)) e) (λ _. omega arith)

  -- a starting position fits where a place is left of it
  place_left : (ns : List ℕ) → Some ns → (place : ℕ) → place < length (cadence rate) → ltb (place_on rate ns place) 40 ≡ fits_from rate place ns
  unfolding place_on fits_from Some place_fitted
  place_left [] s place h = lt-ltb place 40 (omega (arith, at_most_40 rate))
  place_left (n ∷ ns) s place h = go (eqb (get_or (cadence rate) place 0) n) (place_left ns s.1 (place_after rate place) (after_within place h))
    where
      go : (t : Bool) → ltb (place_on rate ns (place_after rate place)) 40 ≡ fits_from rate (place_after rate place) ns
          → ltb (place_on rate ns (cond t (place_after rate place) 40)) 40 ≡ (t && fits_from rate (place_after rate place) ns)
      go true e = e
      go false e = rw (lost ns s.1) refl

  none_past : (n : ℕ) (ns : List ℕ) → Some (n ∷ ns) → (place : ℕ) → length (cadence rate) ≤ place → ltb (place_on rate (n ∷ ns) place) 40 ≡ false
  unfolding place_on Some
  none_past n ns s place h = rw (nothing_due n place s.0 h, lost ns s.1) refl

-- ---- some place, some starting position

pub record Fits (rate : ℕ) (ns : List ℕ) : Type 0 where
  pub place : ℕ
  pub within : place < length (cadence rate)
  pub fits : fits_from rate place ns ≡ true

below_fits : (rate p : ℕ) (ns : List ℕ) → p ≤ length (cadence rate) → fits_below rate p ns ≡ true → Fits rate ns
unfolding fits_below
below_fits rate zero ns h e = absurd (false≢true e)
below_fits rate (suc p) ns h e = go (fits_from rate p ns) refl e (below_fits rate p ns (omega arith))
  where
    go : (t : Bool) → fits_from rate p ns ≡ t → (t || fits_below rate p ns) ≡ true → (fits_below rate p ns ≡ true → Fits rate ns) → Fits rate ns
    go true q _ _ = record { place = p; within = omega arith; fits = q }
    go false _ r f = f r

fits_below_lem : (rate p : ℕ) (ns : List ℕ) (place : ℕ) → place < p → fits_from rate place ns ≡ true → fits_below rate p ns ≡ true
unfolding fits_below
fits_below_lem rate zero ns place h e = absurd (not-suc-le-zero h)
fits_below_lem rate (suc p) ns place h e = go (eqb place p) refl (λ l. fits_below_lem rate p ns place l e)
  where
    go : (t : Bool) → eqb place p ≡ t → (place < p → fits_below rate p ns ≡ true) → (fits_from rate p ns || fits_below rate p ns) ≡ true
    go true q _ = rw (subst (λ (k : ℕ). fits_from rate k ns ≡ true) (eqb-true place p q) e) refl
    go false q r = let f : (place ≡ p → ⊥) = eqb-false place p q in rw (r (omega arith)) (or-true (fits_from rate p ns))

-- "no starting position fits": none does
pub some_fits : (rate : ℕ) (ns : List ℕ) → fits_some rate ns ≡ true → Fits rate ns
unfolding fits_some
some_fits rate ns e = below_fits rate (length (cadence rate)) ns (omega arith) e

pub fits_some_lem : (rate : ℕ) (ns : List ℕ) → Fits rate ns → fits_some rate ns ≡ true
unfolding fits_some
fits_some_lem rate ns f = fits_below_lem rate (length (cadence rate)) ns f.place f.within f.fits

record Left (f : ℕ → ℕ) : Type 0 where
  place : ℕ
  left : ltb (f place) 40 ≡ true

any_left : (f : ℕ → ℕ) (k m : ℕ) → any_place (map f (places_from k m)) ≡ true → Left f
unfolding any_place places_from
any_left f k zero e = absurd (false≢true e)
any_left f k (suc m) e = go (ltb (f k) 40) refl e (any_left f (suc k) m)
  where
    go : (t : Bool) → ltb (f k) 40 ≡ t → (t || any_place (map f (places_from (suc k) m))) ≡ true → (any_place (map f (places_from (suc k) m)) ≡ true → Left f) → Left f
    go true q _ _ = record { place = k; left = q }
    go false _ r next = next r

left_any : (f : ℕ → ℕ) (k m place : ℕ) → k ≤ place → place < k + m → ltb (f place) 40 ≡ true → any_place (map f (places_from k m)) ≡ true
unfolding any_place places_from
left_any f k zero place l h e = absurd (let z : ⊥ = omega arith in z)
left_any f k (suc m) place l h e = go (eqb k place) refl (λ lower upper. left_any f (suc k) m place lower upper e)
  where
    go : (t : Bool) → eqb k place ≡ t → (suc k ≤ place → place < suc k + m → any_place (map f (places_from (suc k) m)) ≡ true)
        → (ltb (f k) 40 || any_place (map f (places_from (suc k) m))) ≡ true
    go true q _ = rw (eqb-true k place q, e) refl
    go false q r = let n : (k ≡ place → ⊥) = eqb-false k place q in rw (r (omega arith) (omega arith)) (or-true (ltb (f k) 40))

same_truth : (s t : Bool) → (s ≡ true → t ≡ true) → (t ≡ true → s ≡ true) → s ≡ t
same_truth true true f g = refl
same_truth true false f g = sym (f refl)
same_truth false true f g = g refl
same_truth false false f g = refl

-- the test of the code is the definition's
any_fits : (rate n : ℕ) (ns : List ℕ) → Some (n ∷ ns) → any_place (map (place_on rate (n ∷ ns)) every_place) ≡ fits_some rate (n ∷ ns)
unfolding every_place
any_fits rate n ns s = same_truth _ _ there back
  where
    there : any_place (map (place_on rate (n ∷ ns)) (places_from 0 40)) ≡ true → fits_some rate (n ∷ ns) ≡ true
    there e =
        let l = any_left (place_on rate (n ∷ ns)) 0 40 e in
        within l (dec_lt l.place (length (cadence rate)))
      where
        within : (l : Left (place_on rate (n ∷ ns))) → Dec (l.place < length (cadence rate)) → fits_some rate (n ∷ ns) ≡ true
        within l (yes h) = fits_some_lem rate (n ∷ ns) (record { place = l.place; within = h; fits = sym (place_left rate (n ∷ ns) s l.place h) ∙ l.left })
        within l (no f) = absurd (false≢true (sym (none_past rate n ns s l.place (omega arith)) ∙ l.left))

    back : fits_some rate (n ∷ ns) ≡ true → any_place (map (place_on rate (n ∷ ns)) (places_from 0 40)) ≡ true
    back e =
        let f = some_fits rate (n ∷ ns) e in
        left_any (place_on rate (n ∷ ns)) 0 40 f.place (omega arith) (omega (arith, f.within, at_most_40 rate))
        (place_left rate (n ∷ ns) s f.place f.within ∙ f.fits)

pub any_fits_more : (rate : ℕ) (ns : List ℕ) (n : ℕ) → Some (ns ++ n ∷ []) → any_place (map (place_on rate (ns ++ n ∷ [])) every_place) ≡ fits_some rate (ns ++ n ∷ [])
any_fits_more rate [] n s = any_fits rate n [] s
any_fits_more rate (m ∷ ns) n s = any_fits rate m (ns ++ n ∷ []) s
