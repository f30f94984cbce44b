-- An instant's samples, their weighted sum and its value.
use Prim.Native.Nat.{ℕ, zero, suc, ◌+◌, ◌*◌, ◌≤◌}
use mathlib.Core.Path.{◌≡◌, refl, sym, ap, ap₂, ◌∙◌}
use mathlib.Core.List.{List, [], ◌∷◌, ◌++◌, map}
use native.Mathlib.Nat.{zero-div, mul-zero, add_assoc, add-zero, zero-add}
use native.Mathlib.Omega.{arith}
use lib.Dec.{eqb}
use lib.IntN.{ℤ, pos, sub_ℕ, ◌+ℤ◌}
use lib.ListN.{length, get_or, drop, replicate, get_or-eq_default}
use lib.Seq.{get_or-drop}
use borrow.Author.Tests.{ne_eqb}
use Rattle.laws.proofs.Lists.{get_d_zeros}
use Rattle.laws.proofs.Tests.{chosen}
use Rattle.sound.specs.Mix.{signed, signed_at, instant_samples, weights, divisor, weighted, quotient, mixed, pseudo_absolute, instant_bytes, instant_value}
use Rattle.laws.proofs.Whole.{sub_add, sub_mul}
use Rattle.sound.proofs.Rounding.{lowered, rounds_alike}

-- the sum of the products of two lists
abbrev pub dot : List ℕ → List ℕ → ℕ
dot [] xs = 0
dot (w ∷ ws) [] = 0
dot (w ∷ ws) (x ∷ xs) = w * x + dot ws xs

abbrev pub biases : List ℕ → List ℕ
biases xs = map (λ (x : ℕ). 32768) xs

pub weighted_raised : (ws xs : List ℕ) → weighted ws (map lowered xs) ≡ sub_ℕ (dot ws xs) (dot ws (biases xs))
unfolding weighted
weighted_raised [] xs = refl
weighted_raised (w ∷ ws) [] = refl
weighted_raised (w ∷ ws) (x ∷ xs) =
    ap₂ ◌+ℤ◌ (sub_mul w x 32768) (weighted_raised ws xs) ∙ sub_add (w * x) (w * 32768) (dot ws xs) (dot ws (biases xs))

-- a(i) of a listed type, from its raised samples xs, their weighted sum s and the bias b of that sum
pub value_raised : (rule mix : ℕ) (zs : List ℤ) (xs : List ℕ) (s b m a : ℕ) → map lowered xs ≡ zs → s ≡ dot (weights mix) xs → b ≡ dot (weights mix) (biases xs)
    → signed m ≡ quotient rule (sub_ℕ s b) (divisor mix) → a ≡ pseudo_absolute (signed m) → a ≡ pseudo_absolute (mixed rule mix zs)
unfolding mixed
value_raised rule mix zs xs s b m a e p q f g = g ∙ ap pseudo_absolute (f ∙ rw (← e, weighted_raised, p, q))

-- the samples of an instant, each at its own place
pub five_samples : (block : List ℕ) (at : ℕ) → instant_samples block at 5
    ≡ signed_at block at ∷ signed_at block (at + 2) ∷ signed_at block (at + 4) ∷ signed_at block (at + 6) ∷ signed_at block (at + 8) ∷ []
unfolding instant_samples
five_samples block at = simp add_assoc

-- a(i), by the mix type
pub value_of : (rule mix k : ℕ) (block : List ℕ) (at : ℕ) (zs : List ℤ) (a : ℕ) → mix ≡ k → a ≡ pseudo_absolute (mixed rule k zs)
    → zs ≡ instant_samples block at (length (weights k)) → a ≡ instant_value rule mix block at
unfolding instant_value
value_of rule mix k block at zs a e f g = f ∙ (ap (λ (ys : List ℤ). pseudo_absolute (mixed rule k ys)) g ∙ ap (λ (j : ℕ). instant_value rule j block at) (sym e))

-- a sum of 0 gives 0
silent : (rule d : ℕ) → 0 ≡ pseudo_absolute (quotient rule (pos 0) d)
unfolding pseudo_absolute
silent rule d = rw (rounds_alike rule 0 d) (sym (zero-div d))

pub bytes_of : (mix k : ℕ) → mix ≡ k → instant_bytes mix ≡ instant_bytes k
bytes_of mix k e = ap instant_bytes e

pub few_bytes : (mix : ℕ) → instant_bytes mix ≤ 10
unfolding instant_bytes weights
few_bytes mix =
    chosen (λ (ws : List ℕ). 2 * length ws ≤ 10) (eqb mix 1) _ _ (λ e. omega arith)
    (λ e. chosen (λ (ws : List ℕ). 2 * length ws ≤ 10) (eqb mix 2) _ _ (λ f. omega arith)
    (λ f. chosen (λ (ws : List ℕ). 2 * length ws ≤ 10) (eqb mix 5) _ _ (λ g. omega arith) (λ g. omega arith)))

pub not_listed : (rule mix : ℕ) (block : List ℕ) (at : ℕ) → (mix ≡ 1 → ⊥) → (mix ≡ 2 → ⊥) → (mix ≡ 5 → ⊥) → 0 ≡ instant_value rule mix block at
unfolding instant_value mixed weights divisor weighted
not_listed rule mix block at x y z = simp (ne_eqb mix 1 x, ne_eqb mix 2 y, ne_eqb mix 5 z) (silent rule 1)

-- zeros are silent
silent_samples : (ws block : List ℕ) (at : ℕ) → ((k : ℕ) → at ≤ k → get_or block k 0 ≡ 0) → weighted ws (instant_samples block at (length ws)) ≡ pos 0
unfolding weighted instant_samples signed_at signed
silent_samples [] block at z = refl
silent_samples (w ∷ ws) block at z =
    rw (z at (omega arith), z (at + 1) (omega arith), silent_samples ws block (at + 2) (λ k l. z k (omega arith))) (simp mul-zero)

pub silent_value : (rule mix : ℕ) (block : List ℕ) (at : ℕ) → ((k : ℕ) → at ≤ k → get_or block k 0 ≡ 0) → 0 ≡ instant_value rule mix block at
unfolding instant_value mixed
silent_value rule mix block at z = rw (silent_samples (weights mix) block at z) (silent rule (divisor mix))

-- and so is what lies past the block
pub past_value : (rule mix : ℕ) (block : List ℕ) (at : ℕ) → length block ≤ at → 0 ≡ instant_value rule mix block at
past_value rule mix block at h = silent_value rule mix block at (λ k l. get_or-eq_default block 0 (omega arith))

-- the same bytes give the same samples, wherever they lie
same_samples : (b c : List ℕ) (p q n : ℕ) → ((k : ℕ) → get_or b (p + k) 0 ≡ get_or c (q + k) 0) → instant_samples b p n ≡ instant_samples c q n
unfolding instant_samples signed_at
same_samples b c p q zero e = refl
same_samples b c p q (suc n) e =
    let e0 : get_or b p 0 ≡ get_or c q 0 = simp add-zero at (e 0) in
    rw (e0, e 1, same_samples b c (p + 2) (q + 2) n (λ k. rw (add_assoc p 2 k, add_assoc q 2 k) (e (2 + k))))

-- an instant cut off by the block's end, before zeros
pub cut_value : (rule mix : ℕ) (block : List ℕ) (at n : ℕ) → instant_value rule mix (drop at block ++ drop n (replicate 10 0)) 0 ≡ instant_value rule mix block at
unfolding instant_value mixed
cut_value rule mix block at n = rw (same_samples (drop at block ++ drop n (replicate 10 0)) block 0 at (length (weights mix)) same)
  where
    tail : (xs : List ℕ) (i : ℕ) → get_or (xs ++ drop n (replicate 10 0)) i 0 ≡ get_or xs i 0
    tail [] i = get_or-drop n (replicate 10 0) i 0 ∙ get_d_zeros 10 (n + i)
    tail (x ∷ xs) zero = refl
    tail (x ∷ xs) (suc i) = tail xs i

    same : (k : ℕ) → get_or (drop at block ++ drop n (replicate 10 0)) (0 + k) 0 ≡ get_or block (at + k) 0
    same k = rw zero-add (tail (drop at block) k ∙ get_or-drop at block k 0)
