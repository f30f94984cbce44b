-- Unused places: zeros after a fingerprint's bytes, and blank fingerprints, as Write and the types ask for them.
use Prim.Native.Nat.{ℕ, zero, suc, ◌-◌, ◌≤◌}
use mathlib.Core.Path.{◌≡◌, refl, ap, ◌∙◌}
use mathlib.Core.List.{List, ◌++◌}
use mathlib.Core.Bool.{true}
use native.Mathlib.Omega.{arith}
use lib.ListN.{length, drop, replicate, length-append, length-replicate}
use lib.Seq.{drop_at}
use Rattle.laws.specs.Bytes.{Bytes}
use Rattle.laws.proofs.Bytes.{bytes_replicate, bytes_append}
use Rattle.container.specs.declared.Print.{Print}
use Rattle.container.specs.Contents.{blank_print}
use Rattle.container.specs.Writing.{all_zero, print_blank, prints_readable}
use Rattle.container_laws.specs.Typed.{TypedPrint}

pub zeros_pass : (n k : ℕ) → all_zero (drop k (replicate n 0)) ≡ true
unfolding all_zero
zeros_pass zero zero = refl
zeros_pass zero (suc k) = refl
zeros_pass (suc n) zero = zeros_pass n zero
zeros_pass (suc n) (suc k) = zeros_pass n k

pub blanks_pass : (rate n k : ℕ) → prints_readable rate 0 (drop k (replicate n blank_print)) ≡ true
unfolding prints_readable print_blank all_zero
blanks_pass rate zero zero = refl
blanks_pass rate zero (suc k) = refl
blanks_pass rate (suc n) zero = blanks_pass rate n zero
blanks_pass rate (suc n) (suc k) = blanks_pass rate n k

-- a fingerprint of the bytes xs
abbrev pub padded : ℕ → ℕ → ℕ → List ℕ → Print
padded id mix n xs = record { id = id; mix = mix; size = n; bytes = xs ++ replicate (5 - n) 0 }

pub padded_zeros : (id mix n : ℕ) (xs : List ℕ) → length xs ≡ n → all_zero (drop n (padded id mix n xs).bytes) ≡ true
padded_zeros id mix n xs l = ap all_zero (drop_at xs (replicate (5 - n) 0) n l) ∙ zeros_pass (5 - n) 0

pub padded_typed : (id mix n : ℕ) (xs : List ℕ) → length xs ≡ n → n ≤ 5 → Bytes xs → TypedPrint (padded id mix n xs)
padded_typed id mix n xs l h b = record {
  long = length-append xs (replicate (5 - n) 0) ∙ omega (arith, l, length-replicate {A = ℕ} (5 - n) 0);
  bytes = bytes_append xs (replicate (5 - n) 0) b (bytes_replicate (5 - n) 0 (omega arith));
}
