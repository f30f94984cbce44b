-- A list that is written from the front.
use Prim.Native.Nat.{ℕ, zero, suc, ◌+◌, ◌<◌}
use mathlib.Core.Path.{◌≡◌, refl, sym, ap, ◌∙◌}
use mathlib.Core.List.{List, [], ◌∷◌, ◌++◌, append_assoc}
use native.Mathlib.Omega.{arith}
use native.Mathlib.Numerals.{add-one}
use lib.ListN.{length, get_or, drop, set, length-append}
use lib.Seq.{set_at, drop-cons}
use Rattle.laws.specs.Calls.{over}
use Rattle.sampling.specs.declared.Row.{Row}
use Rattle.sampling.specs.Samples.{firsts, pixels}

module _ {A : Type 0} (f : ℕ → A) (n : ℕ) where
  pub length_firsts : length (firsts f n) ≡ n
  unfolding firsts
  length_firsts = go n
    where
      go : (k : ℕ) → length (firsts f k) ≡ k
      go zero = refl
      go (suc k) = simp length-append (omega (arith, go k))

  pub firsts_more : (d : List A) (x : A) → n < length d → set (firsts f n ++ drop n d) n (f n) ≡ firsts f (n + 1) ++ drop (n + 1) d
  unfolding firsts
  firsts_more d x h =
      rw (add-one, drop-cons d n x)
      (set_at (firsts f n) (get_or d n x) (drop (suc n) d) (f n) n length_firsts
      ∙ sym (append_assoc (firsts f n) (f n ∷ []) (drop (suc n) d)))

-- four more
pub firsts_four :
    {A : Type 0} (f : ℕ → A) (n : ℕ) (d : List A) (x : A) → n + 3 < length d
    → set (set (set (set (firsts f n ++ drop n d) n (f n)) (n + 1) (f (n + 1))) (n + 2) (f (n + 2))) (n + 3) (f (n + 3)) ≡ firsts f (n + 4) ++ drop (n + 4) d
firsts_four {A} f n d x h =
    ap (λ (l : List A). set (set (set l (n + 1) (f (n + 1))) (n + 2) (f (n + 2))) (n + 3) (f (n + 3))) (next n (n + 1) refl (omega arith))
    ∙ (ap (λ (l : List A). set (set l (n + 2) (f (n + 2))) (n + 3) (f (n + 3))) (next (n + 1) (n + 2) (omega arith) (omega arith))
    ∙ (ap (λ (l : List A). set l (n + 3) (f (n + 3))) (next (n + 2) (n + 3) (omega arith) (omega arith)) ∙ next (n + 3) (n + 4) (omega arith) h))
  where
    next : (k m : ℕ) → m ≡ k + 1 → k < length d → set (firsts f k ++ drop k d) k (f k) ≡ firsts f m ++ drop m d
    next k m e l = firsts_more f k d x l ∙ ap (λ (j : ℕ). firsts f j ++ drop j d) (sym e)

pub sixty : (r : Row) (line : List ℕ) → length (pixels r line) ≡ 60
unfolding pixels
sixty r line = length_firsts _ 60

pub over_sixty : (r : Row) (line out : List ℕ) → over (pixels r line) out ≡ pixels r line ++ drop 60 out
unfolding over
over_sixty r line out = rw sixty refl
