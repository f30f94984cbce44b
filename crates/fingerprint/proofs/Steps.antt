-- Samples, with the filters and the wait kept apart from the rest of a fingerprint.
use Prim.Native.Nat.{ℕ, zero, suc, ◌+◌, ◌-◌, ◌*◌, ◌≤◌}
use mathlib.Core.Path.{◌≡◌, refl, sym, ap, ap₂, ◌∙◌}
use mathlib.Core.List.{List, [], ◌∷◌, ◌++◌}
use native.Mathlib.Nat.{add-zero, add-suc, sub-zero}
use native.Mathlib.Omega.{arith}
use lib.Dec.{ltb}
use lib.ListN.{length}
use borrow.Author.Tests.{eq-eqb, ne_eqb}
use Rattle.sound.specs.Mix.{instant_bytes}
use Rattle.fingerprint.specs.declared.Fingerprint.{Fingerprint}
use Rattle.fingerprint.specs.declared.Filters.{Filters}
use Rattle.fingerprint.specs.State.{filtered_of, holding, pushed_of, with_wait, kept_of, step_of, after, values_at}
use Rattle.fingerprint.specs.Parts.{next_filters, through_of, with_filters_of}

module _ (d : ℕ) (g : Fingerprint) (v : Filters) (w a : ℕ) where
  pub step_kept : w ≡ 0 → with_filters_of (pushed_of g (ltb (next_filters v a).mean (next_filters v a).envelope)) (next_filters v a) (d - 1) ≡ step_of d (with_filters_of g v w) a
  unfolding step_of kept_of filtered_of pushed_of holding with_wait with_filters_of next_filters
  step_kept e = simp (eq-eqb w 0 e)

  pub step_passed : (w ≡ 0 → ⊥) → with_filters_of g (next_filters v a) (w - 1) ≡ step_of d (with_filters_of g v w) a
  unfolding step_of kept_of filtered_of with_wait with_filters_of next_filters
  step_passed e = simp (ne_eqb w 0 e)

  -- a kept sample, after those of h
  pub kept_on : (f : Fingerprint) (h : List ℕ) (v' : Filters) (g' : Fingerprint) (w' : ℕ) → with_filters_of g v w ≡ after d f h → w ≡ 0
      → v' ≡ next_filters v a → g' ≡ pushed_of g (ltb v'.mean v'.envelope) → w' ≡ d - 1 → with_filters_of g' v' w' ≡ after d f (a ∷ h)
  unfolding after
  kept_on f h v' g' w' before z next e k =
      ap₂ (λ (x : Fingerprint) (m : ℕ). with_filters_of x v' m) e k
      ∙ (ap (λ (u : Filters). with_filters_of (pushed_of g (ltb u.mean u.envelope)) u (d - 1)) next
      ∙ (step_kept z ∙ ap (λ (x : Fingerprint). step_of d x a) before))

-- samples of which none is kept
pub passed : (d : ℕ) (g : Fingerprint) (v : Filters) (w : ℕ) (h : List ℕ) → length h ≤ w → after d (with_filters_of g v w) h ≡ with_filters_of g (through_of v h) (w - length h)
unfolding after through_of
passed d g v w [] l = ap (with_filters_of g v) (sym (sub-zero w))
passed d g v w (a ∷ h) l =
    let e : w - length h - 1 ≡ w - suc (length h) = omega arith in
    ap (λ (x : Fingerprint). step_of d x a) (passed d g v w h (omega arith))
    ∙ (sym (step_passed d g (through_of v h) (w - length h) a (omega arith)) ∙ ap (with_filters_of g (next_filters (through_of v h) a)) e)

pub after_append : (d : ℕ) (f : Fingerprint) (xs ys : List ℕ) → after d f (xs ++ ys) ≡ after d (after d f ys) xs
unfolding after
after_append d f [] ys = refl
after_append d f (a ∷ xs) ys = ap (λ (x : Fingerprint). step_of d x a) (after_append d f xs ys)

pub length_values : (rule mix : ℕ) (block : List ℕ) (at n : ℕ) → length (values_at rule mix block at n) ≡ n
unfolding values_at
length_values rule mix block at zero = refl
length_values rule mix block at (suc n) = ap suc (length_values rule mix block at n)

pub values_more : (rule mix : ℕ) (block : List ℕ) (at m n : ℕ)
    → values_at rule mix block at (m + n) ≡ values_at rule mix block (at + m * instant_bytes mix) n ++ values_at rule mix block at m
unfolding values_at
values_more rule mix block at m zero = rw add-zero
values_more rule mix block at m (suc n) =
    let e : at + (m + n) * instant_bytes mix ≡ at + m * instant_bytes mix + n * instant_bytes mix = omega arith in
    rw (add-suc, e, values_more rule mix block at m n)

-- n samples of a block of which none is kept, after the first i
pub run_on : (d : ℕ) (f g : Fingerprint) (v v' : Filters) (w rule mix : ℕ) (block : List ℕ) (at i n : ℕ)
    → with_filters_of g v w ≡ after d f (values_at rule mix block 0 i) → at ≡ i * instant_bytes mix → n ≤ w → v' ≡ through_of v (values_at rule mix block at n)
    → with_filters_of g v' (w - n) ≡ after d f (values_at rule mix block 0 (i + n))
run_on d f g v v' w rule mix block at i n before place l next =
    let h = values_at rule mix block at n in
    let same : at ≡ 0 + i * instant_bytes mix = omega arith in
    let size = length_values rule mix block at n in
    ap₂ (with_filters_of g) next (ap (◌-◌ w) (sym size))
    ∙ (sym (passed d g v w h (omega arith))
    ∙ (ap (λ (x : Fingerprint). after d x h) before
    ∙ (sym (after_append d f h (values_at rule mix block 0 i))
    ∙ ap (after d f) (ap (λ (p : ℕ). values_at rule mix block p n ++ values_at rule mix block 0 i) same ∙ sym (values_more rule mix block 0 i n)))))
