-- Laws on lists that the kit does not have.
use Prim.Native.Nat.{ℕ, zero, suc, ◌+◌, ◌-◌, ◌≤◌, ◌<◌}
use mathlib.Core.Path.{◌≡◌, refl, sym, ap, subst, ◌∙◌}
use mathlib.Core.Bool.{Bool, true, false, or-true, false≢true}
use mathlib.Core.Logic.{◌↔◌}
use mathlib.Core.List.{List, [], ◌∷◌, ◌++◌, map}
use native.Mathlib.Omega.{arith}
use native.Mathlib.Numerals.{add-one}
use native.Mathlib.Nat.{add-zero, add-suc, suc-add, zero-add, not-suc-le-zero, le_of_suc-le-suc}
use lib.ListN.{length, get_or, take, drop, set, replicate, length-drop}
use lib.Seq.{sets, sets-eq, set_out, drop-cons, take_at, take_all}
use lib.Dec.{eqb}
use borrow.Author.Tests.{eqb-true, eq-eqb}
use Rattle.laws.specs.Calls.{over}
use Rattle.laws.specs.Lists.{is_one_of, StandsIn, each}

module _ {A : Type 0} where
  -- a run of stores, then one from where it ended
  pub sets_append : (l : List A) (i : ℕ) (xs ys : List A) → sets (sets l i xs) (i + length xs) ys ≡ sets l i (xs ++ ys)
  sets_append l i [] ys = rw add-zero
  sets_append l i (x ∷ xs) ys = rw (add-suc, ← suc-add) (sets_append (set l i x) (suc i) xs ys)

  pub sets_then : (l l' l'' xs ys : List A) (i j : ℕ) → l' ≡ sets l i xs → j ≡ i + length xs → l'' ≡ sets l' j ys → l'' ≡ sets l i (xs ++ ys)
  sets_then l l' l'' xs ys i j p q r = r ∙ rw (p, q) (sets_append l i xs ys)

  -- stores past the end change nothing
  pub sets_out : (l : List A) (i : ℕ) (xs : List A) → length l ≤ i → sets l i xs ≡ l
  sets_out l i [] h = refl
  sets_out l i (x ∷ xs) h = rw (set_out l i x h) (sets_out l (suc i) xs (omega arith))

  -- one store of a run that is left
  pub sets_step : (l s : List A) (at i : ℕ) (d : A) → i < length s
      → sets l (at + i) (drop i s) ≡ sets (set l (at + i) (get_or s i d)) (at + (i + 1)) (drop (i + 1) s)
  sets_step l s at i d h = rw (drop-cons s i d, add-one, add-suc)

  -- below its length a list's element does not turn on the default
  pub get_d_any : (l : List A) (k : ℕ) (d e : A) → k < length l → get_or l k d ≡ get_or l k e
  get_d_any [] k d e h = absurd (not-suc-le-zero h)
  get_d_any (x ∷ l) zero d e h = refl
  get_d_any (x ∷ l) (suc k) d e h = get_d_any l k d e (le_of_suc-le-suc h)

-- the front of a list made anew, one place after the other
module _ {A : Type 0} (g : A → A) where
  module _ (d : A) where
    suc_each : (n : ℕ) (l : List A) → n < length l → set (each g n l) n (g (get_or (each g n l) n d)) ≡ each g (suc n) l
    unfolding each
    suc_each n [] h = absurd (not-suc-le-zero h)
    suc_each zero (x ∷ l) h = refl
    suc_each (suc n) (x ∷ l) h = ap (◌∷◌ (g x)) (suc_each n l (le_of_suc-le-suc h))

    pub each_more : (n : ℕ) (l : List A) → n < length l → set (each g n l) n (g (get_or (each g n l) n d)) ≡ each g (n + 1) l
    each_more n l h = rw add-one (suc_each n l h)

    -- those from place n on are as they were
    pub each_at : (n : ℕ) (l : List A) → get_or (each g n l) n d ≡ get_or l n d
    unfolding each
    each_at zero l = refl
    each_at (suc n) [] = refl
    each_at (suc n) (x ∷ l) = each_at n l

  pub each_all : (l : List A) → each g (length l) l ≡ map g l
  unfolding each
  each_all [] = refl
  each_all (x ∷ l) = ap (◌∷◌ (g x)) (each_all l)

-- what is lent from a place on is the rest
module _ {A : Type 0} where
  pub tail_part : (l : List A) (n : ℕ) → take (length l - n) (drop n l) ≡ drop n l
  tail_part l n = take_all (length l - n) (drop n l) (omega (arith, length-drop n l))

-- stores from the start on stand over the front
pub sets_over : (bytes out : List ℕ) → length bytes ≤ length out → sets out 0 bytes ≡ over bytes out
unfolding over
sets_over bytes out h = sets-eq bytes out 0 (omega arith) ∙ simp zero-add

-- and are at the front
pub stored_front : (bytes out : List ℕ) (n : ℕ) → length bytes ≡ n → n ≤ length out → take n (sets out 0 bytes) ≡ bytes
unfolding over
stored_front bytes out n e h = rw (sets_over bytes out (omega arith)) (take_at bytes _ n e)

-- zeros behind a list are what stands there by default
pub get_d_zeros : (m i : ℕ) → ◌≡◌ {A = ℕ} (get_or (replicate m 0) i 0) 0
get_d_zeros zero i = refl
get_d_zeros (suc m) zero = refl
get_d_zeros (suc m) (suc i) = get_d_zeros m i

pub get_d_padded : (l : List ℕ) (m i : ℕ) → get_or (l ++ replicate m 0) i 0 ≡ get_or l i 0
get_d_padded [] m i = get_d_zeros m i
get_d_padded (x ∷ l) m zero = refl
get_d_padded (x ∷ l) m (suc i) = get_d_padded l m i

-- a list of six or more by its first six
pub first_six : (l : List ℕ) → 6 ≤ length l
    → l ≡ get_or l 0 0 ∷ get_or l 1 0 ∷ get_or l 2 0 ∷ get_or l 3 0 ∷ get_or l 4 0 ∷ get_or l 5 0 ∷ drop 6 l
first_six (a ∷ b ∷ c ∷ d ∷ e ∷ f ∷ l) h = refl
first_six [] h = absurd (let z : ⊥ = omega arith in z)
first_six (a ∷ []) h = absurd (let z : ⊥ = omega arith in z)
first_six (a ∷ b ∷ []) h = absurd (let z : ⊥ = omega arith in z)
first_six (a ∷ b ∷ c ∷ []) h = absurd (let z : ⊥ = omega arith in z)
first_six (a ∷ b ∷ c ∷ d ∷ []) h = absurd (let z : ⊥ = omega arith in z)
first_six (a ∷ b ∷ c ∷ d ∷ e ∷ []) h = absurd (let z : ⊥ = omega arith in z)

-- ---- a number that stands in a list

stands : (n : ℕ) (l : List ℕ) → is_one_of n l ≡ true → StandsIn n l
unfolding is_one_of
stands n [] e = absurd (false≢true e)
stands n (x ∷ l) e = go (eqb n x) refl (λ t. stands n l (rw t at e))
  where
    go : (t : Bool) → eqb n x ≡ t → (eqb n x ≡ false → StandsIn n l) → StandsIn n (x ∷ l)
    go true q r = record { place = 0; within = omega arith; there = sym (eqb-true n x q) }
    go false q r = let s = r q in record { place = suc s.place; within = omega (arith, s.within); there = s.there }

is_one : (l : List ℕ) (i : ℕ) → i < length l → is_one_of (get_or l i 0) l ≡ true
unfolding is_one_of
is_one [] i h = absurd (not-suc-le-zero h)
is_one (x ∷ l) zero h = rw (eq-eqb x x refl)
is_one (x ∷ l) (suc i) h = rw (is_one l i (le_of_suc-le-suc h)) (or-true (eqb (get_or l i 0) x))

pub stands_in : (n : ℕ) (l : List ℕ) → (is_one_of n l ≡ true) ↔ StandsIn n l
stands_in n l = (stands n l, λ s. subst (λ (m : ℕ). is_one_of m l ≡ true) s.there (is_one l s.place s.within))
