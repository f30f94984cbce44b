-- Laws of the comparison of two bytes and of two fields.
use Prim.Native.Nat.{ℕ, zero, suc, ◌+◌, ◌-◌, ◌/◌, ◌≤◌, ◌<◌}
use mathlib.Core.Path.{◌≡◌, refl, sym, ap, ◌∙◌}
use mathlib.Core.Bool.{Bool, true, false, cond, ◌||◌}
use mathlib.Core.List.{List, [], ◌∷◌}
use native.Mathlib.Omega.{arith}
use native.Mathlib.Numerals.{add-one}
use native.Mathlib.Nat.{le_of_suc-le-suc, not-suc-le-zero}
use borrow.Author.Tests.{le-leb, lt-leb}
use lib.Dec.{leb}
use lib.IntN.{ℤ, pos, negsuc, neg_ℤ, sub_ℕ}
use lib.Signed.{mag, le_z}
use lib.ListN.{get_or, length, take}
use Rattle.laws.proofs.Tests.{same_test}
use Rattle.laws.proofs.Whole.{by_order, sub_pos, sub_neg}
use Rattle.picture.specs.Fields.{difference, is_brighter, is_darker, count_of, brighter_in, darker_in, fingerprint_of}
use Rattle.picture.specs.Changed.{changed_by, changes_in}

-- ---- two bytes

difference_is : (x y : ℕ) → difference x y ≡ sub_ℕ x y
unfolding difference
difference_is x zero = ap pos (omega arith) ∙ sym (sub_pos x 0 x (omega arith))
difference_is x (suc y) = refl

module _ (x y : ℕ) where
  up : y ≤ x → difference x y ≡ pos (x - y)
  up h = difference_is x y ∙ sub_pos x y (x - y) (omega arith)

  down : x < y → difference x y ≡ negsuc (y - suc x)
  down h = difference_is x y ∙ sub_neg x y (y - suc x) (omega arith)

  -- "current minus older, from -255 to 255" (02, A1)
  pub in_range : x < 256 → y < 256 → (le_z (neg_ℤ (pos 255)) (difference x y) ≡ true) × (le_z (difference x y) (pos 255) ≡ true)
  in_range h k =
      by_order x y
      (λ l. rw (down l) (le-leb (y - suc x) 254 (omega arith), refl))
      (λ l. rw (up l) (refl, le-leb (x - y) 255 (omega arith)))

  pub few_bits : x < 256 → y < 256 → mag (difference x y) < 256
  few_bits h k = by_order x y (λ l. rw (down l) (omega arith)) (λ l. rw (up l) (omega arith))

  -- brighter or darker where one byte is 32 or more above the other
  pub brighter_is : is_brighter (difference x y) ≡ leb (y + 32) x
  unfolding is_brighter
  brighter_is =
      by_order x y
      (λ l. rw (down l) (sym (lt-leb (y + 32) x (omega arith))))
      (λ l. rw (up l) (same_test _ (x - y) (y + 32) x (λ h. omega arith) (λ h. omega arith)))

  pub darker_is : is_darker (difference x y) ≡ leb (x + 32) y
  unfolding is_darker
  darker_is =
      by_order x y
      (λ l. rw (down l) (same_test _ (y - suc x) (x + 32) y (λ h. omega arith) (λ h. omega arith)))
      (λ l. rw (up l) (sym (lt-leb (x + 32) y (omega arith))))

  -- a changed pixel is counted once: brighter or darker, and never both
  counted_once : cond (is_brighter (difference x y)) 1 0 + cond (is_darker (difference x y)) 1 0 ≡ cond (changed_by x y) 1 0
  unfolding changed_by
  counted_once =
      rw (brighter_is, darker_is) (by_order x y
      (λ l. rw (lt-leb (y + 32) x (omega arith)) (omega arith))
      (λ l. rw (lt-leb (x + 32) y (omega arith)) (either (leb (y + 32) x))))
    where
      either : (b : Bool) → cond b 1 0 + 0 ≡ cond (b || false) 1 0
      either true = refl
      either false = refl

-- ---- two fields

-- one place more, under any rule
module _ (rule : ℤ → Bool) where
  count_suc :
      (f g : List ℕ) (i : ℕ) → i < length f → i < length g
      → count_of rule (take (suc i) f) (take (suc i) g) ≡ count_of rule (take i f) (take i g) + cond (rule (difference (get_or f i 0) (get_or g i 0))) 1 0
  unfolding count_of
  count_suc [] g i h k = absurd (not-suc-le-zero h)
  count_suc (x ∷ f) [] i h k = absurd (not-suc-le-zero k)
  count_suc (x ∷ f) (y ∷ g) zero h k = omega arith
  count_suc (x ∷ f) (y ∷ g) (suc i) h k = omega (arith, count_suc f g i (le_of_suc-le-suc h) (le_of_suc-le-suc k))

  pub count_more :
      (f g : List ℕ) (i : ℕ) → i < length f → i < length g
      → count_of rule (take (i + 1) f) (take (i + 1) g) ≡ count_of rule (take i f) (take i g) + cond (rule (difference (get_or f i 0) (get_or g i 0))) 1 0
  count_more f g i h k = rw (add-one i) (count_suc f g i h k)

-- "their sum is the count of old" (02, A1)
pub sum_is : (f g : List ℕ) → brighter_in f g + darker_in f g ≡ changes_in f g
unfolding brighter_in darker_in count_of changes_in
sum_is [] g = refl
sum_is (x ∷ f) [] = refl
sum_is (x ∷ f) (y ∷ g) = omega (arith, sum_is f g, counted_once x y)

-- "Fingerprints and containers stay the same" (02, A1): "the count of changed pixels divided by 4, rounded down"
pub fingerprint_is : (f g : List ℕ) → fingerprint_of f g ≡ changes_in f g / 4
unfolding fingerprint_of
fingerprint_is f g = ap (λ (n : ℕ). n / 4) (sum_is f g)

changes_small : (f g : List ℕ) → changes_in f g ≤ length f
unfolding changes_in
changes_small [] g = omega arith
changes_small (x ∷ f) [] = omega arith
changes_small (x ∷ f) (y ∷ g) = omega (arith, changes_small f g, one (changed_by x y))
  where
    one : (b : Bool) → cond b 1 0 ≤ 1
    one true = omega arith
    one false = omega arith

pub sum_small : (f g : List ℕ) → brighter_in f g + darker_in f g ≤ length f
sum_small f g = omega (arith, sum_is f g, changes_small f g)
