-- Laws of the fingerprints as lists: what a loop over them keeps.
use Prim.Native.Nat.{ℕ, zero, suc, ◌+◌, ◌≤◌, ◌<◌}
use mathlib.Core.List.{List, [], ◌∷◌, map}
use mathlib.Core.Path.{◌≡◌, refl, ap, sym, ◌∙◌}
use mathlib.Core.Bool.{Bool, ◌&&◌}
use Rattle.std.specs.List.{list_all}
use native.Mathlib.Omega.{arith}
use native.Mathlib.Numerals.{add-one}
use native.Mathlib.Nat.{not-suc-le-zero, le_of_suc-le-suc, add-zero, add-suc, suc-add}
use lib.ListN.{length, get_or, set, take}
use Rattle.fingerprint.specs.declared.Fingerprint.{Fingerprint}
use Rattle.fingerprint.specs.State.{fresh_of, holds_of}
use Rattle.rates.specs.Mixes.{mix_listed}
use Rattle.container.specs.declared.Print.{Print}
use Rattle.session.specs.Fingerprints.{all_listed, each, all_hold, print_of, prints_of}

-- the mix type of a place, made fresh
pub fresh_at : (ms : List ℕ) (i : ℕ) (d : Fingerprint) → i < length ms → fresh_of (get_or ms i 0) ≡ get_or (map fresh_of ms) i d
fresh_at [] i d h = absurd (not-suc-le-zero h)
fresh_at (m ∷ ms) zero d h = refl
fresh_at (m ∷ ms) (suc i) d h = fresh_at ms i d (le_of_suc-le-suc h)

-- one fingerprint more that g makes
module _ (g : Fingerprint → Fingerprint) (d : Fingerprint) where
  suc_each : (n : ℕ) (fs : List Fingerprint) → n < length fs → set (each g n fs) n (g (get_or (each g n fs) n d)) ≡ each g (suc n) fs
  unfolding each
  suc_each n [] h = absurd (not-suc-le-zero h)
  suc_each zero (f ∷ fs) h = refl
  suc_each (suc n) (f ∷ fs) h = ap (λ (l : List Fingerprint). g f ∷ l) (suc_each n fs (le_of_suc-le-suc h))

  pub each_more : (n : ℕ) (fs : List Fingerprint) → n < length fs → set (each g n fs) n (g (get_or (each g n fs) n d)) ≡ each g (n + 1) fs
  each_more n fs h = rw add-one (suc_each n fs h)

  -- those from place n on are as they were
  pub each_at : (n : ℕ) (fs : List Fingerprint) → get_or (each g n fs) n d ≡ get_or fs n d
  unfolding each
  each_at zero fs = refl
  each_at (suc n) [] = refl
  each_at (suc n) (f ∷ fs) = each_at n fs

pub each_length : (g : Fingerprint → Fingerprint) (n : ℕ) (fs : List Fingerprint) → length (each g n fs) ≡ length fs
unfolding each
each_length g zero fs = refl
each_length g (suc n) [] = refl
each_length g (suc n) (f ∷ fs) = ap suc (each_length g n fs)

pub prints_length : (due k n : ℕ) (fs : List Fingerprint) → n ≤ length fs → length (prints_of due k n fs) ≡ n
unfolding prints_of
prints_length due k zero fs h = refl
prints_length due k (suc n) [] h = absurd (not-suc-le-zero h)
prints_length due k (suc n) (f ∷ fs) h = ap suc (prints_length due (suc k) n fs (le_of_suc-le-suc h))

-- fingerprint i of those that a container has
print_from : (due k n : ℕ) (fs : List Fingerprint) (i : ℕ) (p : Print) (d : Fingerprint) → i < n → i < length fs
    → get_or (prints_of due k n fs) i p ≡ print_of (k + i) due (get_or fs i d)
unfolding prints_of
print_from due k zero fs i p d h l = absurd (not-suc-le-zero h)
print_from due k (suc n) [] i p d h l = absurd (not-suc-le-zero l)
print_from due k (suc n) (f ∷ fs) zero p d h l = rw add-zero
print_from due k (suc n) (f ∷ fs) (suc i) p d h l =
    print_from due (suc k) n fs i p d (le_of_suc-le-suc h) (le_of_suc-le-suc l) ∙ ap (λ (j : ℕ). print_of j due (get_or fs i d)) (suc-add k i ∙ sym (add-suc k i))

pub print_at : (due n : ℕ) (fs : List Fingerprint) (i : ℕ) (p : Print) (d : Fingerprint) → i < n → i < length fs
    → get_or (prints_of due 0 n fs) i p ≡ print_of i due (get_or fs i d)
print_at due n fs i p d h l = print_from due 0 n fs i p d h l ∙ ap (λ (j : ℕ). print_of j due (get_or fs i d)) (omega arith)

-- the test that `all` computes
pub listed_all : (ms : List ℕ) → list_all mix_listed ms ≡ all_listed ms
unfolding all_listed
listed_all [] = refl
listed_all (m ∷ ms) = ap (λ (b : Bool). mix_listed m && b) (listed_all ms)

pub hold_all : (due n : ℕ) (fs : List Fingerprint) → list_all (λ f. holds_of f due) (take n fs) ≡ all_hold due n fs
unfolding all_hold
hold_all due zero fs = refl
hold_all due (suc n) [] = refl
hold_all due (suc n) (f ∷ fs) = ap (λ (b : Bool). holds_of f due && b) (hold_all due n fs)
