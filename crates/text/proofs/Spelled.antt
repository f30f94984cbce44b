-- Laws of the spelling of numbers and bytes: how long it is, and one byte more.
use Prim.Native.Nat.{ℕ, zero, suc, ◌+◌, ◌-◌, ◌*◌, ◌/◌, ◌%◌, ◌≤◌, ◌<◌}
use mathlib.Core.Path.{◌≡◌, refl, sym, ap, ◌∙◌}
use mathlib.Core.List.{List, [], ◌∷◌, ◌++◌, append_assoc, append-nil}
use native.Mathlib.Omega.{arith}
use native.Mathlib.Numerals.{add-one, sub-one}
use lib.ListN.{length, get_or, take, length-append}
use lib.Seq.{take-suc}
use lib.Dec.{ltb}
use borrow.Author.Tests.{lt-ltb, le-ltb}
use Rattle.laws.proofs.Tests.{chosen}
use Rattle.text.specs.Spelling.{digit_of, digits_of, decimal_text, hex_of, hex_text}
use Rattle.text.specs.Lines.{item, newline, refused, refused_text}

-- no digit; one; one more
pub digits_none : (most n : ℕ) → most ≡ 0 → digits_of most n ≡ []
unfolding digits_of
digits_none most n e = rw e

pub digits_one : (most n : ℕ) → (most ≡ 0 → ⊥) → n < 10 → digits_of most n ≡ digit_of n
unfolding digits_of
digits_one zero n h k = absurd (h refl)
digits_one (suc most) n h k = rw (lt-ltb n 10 k)

pub digits_more : (most n : ℕ) → (most ≡ 0 → ⊥) → 10 ≤ n → digits_of most n ≡ digits_of (most - 1) (n / 10) ++ digit_of (n % 10)
unfolding digits_of
digits_more zero n h k = absurd (h refl)
digits_more (suc most) n h k = rw (le-ltb n 10 k, sub-one)

digits_size : (most n : ℕ) → length (digits_of most n) ≤ most
unfolding digits_of
digits_size zero n = omega arith
digits_size (suc most) n =
    let P : List ℕ → Type 0 = λ l. length l ≤ suc most in
    chosen P (ltb n 10) _ _ (λ _. omega arith) (λ _. omega (arith, digits_size most (n / 10), length-append (digits_of most (n / 10)) (digit_of (n % 10))))

-- at most 20 digits
pub decimal_size : (n : ℕ) → length (decimal_text n) ≤ 20
unfolding decimal_text
decimal_size n = digits_size 20 n

-- below 1,000 at most 3
module _ (most n : ℕ) where
  more_size : (k : ℕ) → length (digits_of most (n / 10)) ≤ k → length (digits_of (suc most) n) ≤ suc k
  unfolding digits_of
  more_size k h =
      chosen (λ (l : List ℕ). length l ≤ suc k) (ltb n 10) _ _ (λ _. omega arith)
      (λ _. omega (arith, h, length-append (digits_of most (n / 10)) (digit_of (n % 10))))

one_digit : (most n : ℕ) → n < 10 → length (digits_of (suc most) n) ≤ 1
unfolding digits_of
one_digit most n h = rw (lt-ltb n 10 h) (omega arith)

pub small_size : (n : ℕ) → n < 1000 → length (decimal_text n) ≤ 3
unfolding decimal_text
small_size n h = more_size 19 n 2 (more_size 18 (n / 10) 1 (one_digit 17 (n / 10 / 10) (omega arith)))

pub item_small : (word : List ℕ) (n : ℕ) → n < 1000 → length (item word n) ≤ length word + 3
unfolding item
item_small word n h = omega (arith, length-append word (decimal_text n), small_size n h)

-- below 100,000 at most 5
five_size : (n : ℕ) → n < 100000 → length (decimal_text n) ≤ 5
unfolding decimal_text
five_size n h = more_size 19 n 4 (more_size 18 (n / 10) 3 (more_size 17 (n / 10 / 10) 2 (more_size 16 (n / 10 / 10 / 10) 1 (one_digit 15 (n / 10 / 10 / 10 / 10) (omega arith)))))

pub item_five : (word : List ℕ) (n : ℕ) → n < 100000 → length (item word n) ≤ length word + 5
unfolding item
item_five word n h = omega (arith, length-append word (decimal_text n), five_size n h)

pub item_size : (word : List ℕ) (n : ℕ) → length (item word n) ≤ length word + 20
unfolding item
item_size word n = omega (arith, length-append word (decimal_text n), decimal_size n)

pub refused_size : (n : ℕ) → length (refused_text n) ≤ 29
unfolding refused_text
refused_size n = omega (arith, length-append (item refused n) newline, item_size refused n)

hex_append : (xs ys : List ℕ) → hex_text (xs ++ ys) ≡ hex_text xs ++ hex_text ys
unfolding hex_text
hex_append [] ys = refl
hex_append (x ∷ xs) ys = ap (λ (l : List ℕ). hex_of x ++ l) (hex_append xs ys) ∙ sym (append_assoc (hex_of x) (hex_text xs) (hex_text ys))

-- one byte more
pub hex_step : (s : List ℕ) (i : ℕ) → i < length s → hex_text (take (i + 1) s) ≡ hex_text (take i s) ++ hex_of (get_or s i 0)
unfolding hex_text
hex_step s i h = rw (add-one, take-suc s i 0) (hex_append (take i s) (get_or s i 0 ∷ []) ∙ ap (λ (l : List ℕ). hex_text (take i s) ++ l) (append-nil (hex_of (get_or s i 0))))

pub hex_size : (s : List ℕ) → length (hex_text s) ≡ 2 * length s
unfolding hex_text hex_of
hex_size [] = refl
hex_size (b ∷ s) = omega (arith, hex_size s)
