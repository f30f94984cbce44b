-- The values that a record brings: which bits are a NaN's, and that a payload which brings an instant is long enough.
use Prim.Native.Nat.{ℕ, ◌%◌, ◌≤◌, ◌<◌}
use mathlib.Core.Path.{◌≡◌, refl, sym, subst, ◌∙◌}
use mathlib.Core.List.{List}
use mathlib.Core.Bool.{Bool, true, false, not, cond, true≢false}
use native.Mathlib.Omega.{arith}
use lib.ListN.{length}
use lib.Dec.{T, ltb}
use lib.Ieee.{Float, nan, inf, fin, binary32, is_nan, of_bits, nan_bits}
use lib.Ieee.Bits.{nan_bits_is, nan_bits_above}
use borrow.Author.Tests.{lt-ltb, le-ltb, ltb-false, eqb-true, ne_eqb}
use Rattle.std.specs.declared.result.Result.{Result}
use Rattle.std.specs.declared.result.Result.TheVariants.{Ok, Err}
use Rattle.rates.specs.Mixes.{mix_listed}
use Rattle.floats.specs.declared.Instant.{Instant}
use Rattle.answers.specs.declared.Cause.{Cause}
use Rattle.answers.specs.declared.Cause.TheVariants.{TooShort}
use Rattle.feed.specs.Values.{instant_in}

-- ---- without the sign, a NaN's bits lie above an infinity's

one_nan : (x : Float) → is_nan x ≡ true → nan ≡ x
unfolding is_nan
one_nan nan h = refl
one_nan (inf s) h = absurd (true≢false (sym h))
one_nan (fin s m e) h = absurd (true≢false (sym h))

pub nan_above : (n : ℕ) → 0x7f800000 < n % 0x80000000 → nan ≡ of_bits binary32 n
nan_above n h = one_nan (of_bits binary32 n) (sym (nan_bits_is binary32 n) ∙ nan_bits_above binary32 n ∙ lt-ltb 0x7f800000 (n % 0x80000000) h)

pub none_below : (n : ℕ) → n % 0x80000000 ≤ 0x7f800000 → T (not (nan_bits binary32 n))
none_below n h = subst (λ (b : Bool). T (not b)) (sym (nan_bits_above binary32 n ∙ le-ltb 0x7f800000 (n % 0x80000000) h)) tt

-- ---- the kind and the size of a payload

-- "1, 2 or 5"
pub last_kind : (kind : ℕ) → mix_listed kind ≡ true → (kind ≡ 1 → ⊥) → (kind ≡ 2 → ⊥) → kind ≡ 5
unfolding mix_listed
last_kind kind h m n = eqb-true kind 5 (sym (rw (ne_eqb kind 1 m, ne_eqb kind 2 n)) ∙ h)

long_enough : (t : Bool) (rest : Result Instant Cause) (i : Instant) → cond t (Err TooShort) rest ≡ Ok i → t ≡ false
long_enough true rest i e = absurd (let z : ◌≡◌ {A = ℕ} 0 1 = cc in omega arith)
long_enough false rest i e = refl

pub brought_some : (p : List ℕ) (i : Instant) → instant_in p ≡ Ok i → 0 < length p
unfolding instant_in
brought_some p i e = let h = ltb-false (length p) 2 (long_enough (ltb (length p) 2) _ i e) in omega arith
