-- The mix of 16-bit samples is one again, by any rule, from -32,768 to 32,767: so a(i), by any rule, is at most 32,767.
use Prim.Native.Nat.{ℕ, zero, suc, ◌+◌, ◌-◌, ◌*◌, ◌/◌, ◌%◌, ◌≤◌, ◌<◌}
use mathlib.Core.Path.{◌≡◌, refl, sym, ap, ap₂, subst, ◌∙◌}
use mathlib.Core.Bool.{Bool, true, false, cond}
use mathlib.Core.List.{List, [], ◌∷◌, map}
use native.Mathlib.Nat.{div-lt_iff_lt-mul, mul-le-mul_left}
use native.Mathlib.Omega.{arith}
use lib.Dec.{eqb}
use lib.IntN.{ℤ, pos, negsuc, neg_ℤ, sub_ℕ}
use lib.ListN.{get_or}
use Rattle.laws.specs.Sums.{sum}
use Rattle.laws.proofs.Tests.{chosen}
use Rattle.laws.proofs.Whole.{by_order, sub_pos, sub_neg}
use Rattle.sound.specs.Mix.{signed, weights, divisor, weighted, floor, towards_zero, quotient, mixed, pseudo_absolute}
use Rattle.sound.proofs.Rounding.{lowered, raised_is}
use Rattle.sound.proofs.Instants.{dot, biases, weighted_raised}

-- n for n and for -(n + 1): z is from -m to m - 1 where this is below m
pub quotient_range : (rule : ℕ) (z : ℤ) (d m : ℕ) → 0 < d → pseudo_absolute z < m * d → pseudo_absolute (quotient rule z d) < m
unfolding quotient towards_zero floor pseudo_absolute
quotient_range rule (pos n) d m p h = chosen (λ (z : ℤ). pseudo_absolute z < m) (eqb rule 2) _ _ (λ _. (div-lt_iff_lt-mul p).1 h) (λ _. (div-lt_iff_lt-mul p).1 h)
quotient_range rule (negsuc n) d m p h =
    chosen (λ (z : ℤ). pseudo_absolute z < m) (eqb rule 2) _ _
    (λ _. nearer (suc n / d) (some m h) (up m h))
    (λ _. (div-lt_iff_lt-mul p).1 h)
  where
    some : (j : ℕ) → n < j * d → 0 < j
    some zero l = absurd (omega arith)
    some (suc j) l = omega arith

    up : (j : ℕ) → n < j * d → suc n / d < suc j
    up j l =
        let k : suc n < suc j * d = omega arith in
        (div-lt_iff_lt-mul p).1 k

    nearer : (q : ℕ) → 0 < m → q < suc m → pseudo_absolute (neg_ℤ (pos q)) < m
    nearer zero l k = l
    nearer (suc q) l k = omega arith

abbrev raise : ℕ → ℕ
raise w = (w + 32768) % 65536

raised_all : (ws : List ℕ) → ((k : ℕ) → get_or ws k 0 < 65536) → map lowered (map raise ws) ≡ map signed ws
raised_all [] h = refl
raised_all (w ∷ ws) h = ap₂ ◌∷◌ (raised_is w (h 0)) (raised_all ws (λ k. h (suc k)))

few : (vs xs : List ℕ) → dot vs (biases xs) ≤ 32768 * sum vs
unfolding sum
few [] xs = omega arith
few (v ∷ vs) [] = omega arith
few (v ∷ vs) (x ∷ xs) = omega (arith, few vs xs)

most : (vs ws : List ℕ) → dot vs (map raise ws) ≤ dot vs (biases (map raise ws)) + 32767 * sum vs
unfolding sum
most [] ws = omega arith
most (v ∷ vs) [] = omega arith
most (v ∷ vs) (w ∷ ws) =
    let l : raise w ≤ 65535 = omega arith in
    omega (arith, most vs ws, mul-le-mul_left v l)

apart : (s b n : ℕ) → b ≤ n → s < b + n → pseudo_absolute (sub_ℕ s b) < n
unfolding pseudo_absolute
apart s b n f m =
    by_order s b
    (λ h. subst (λ (z : ℤ). pseudo_absolute z < n) (sym (sub_neg s b (b - s - 1) (omega arith))) (omega arith))
    (λ h. subst (λ (z : ℤ). pseudo_absolute z < n) (sym (sub_pos s b (s - b) (omega arith))) (omega arith))

-- a type's weights are together no more than what their sum is divided by
light : (mix : ℕ) → (0 < divisor mix) × (sum (weights mix) ≤ divisor mix)
unfolding sum weights divisor
light mix = go (eqb mix 1) (eqb mix 2) (eqb mix 5)
  where
    go : (mono stereo five : Bool) → (0 < cond mono 1 (cond stereo 20000 (cond five 40000 1)))
        × (sum (cond mono (1 ∷ []) (cond stereo (7071 ∷ 7071 ∷ []) (cond five (7071 ∷ 7071 ∷ 10000 ∷ 5000 ∷ 5000 ∷ []) []))) ≤ cond mono 1 (cond stereo 20000 (cond five 40000 1)))
    go true stereo five = (omega arith, omega arith)
    go false true five = (omega arith, omega arith)
    go false false true = (omega arith, omega arith)
    go false false false = (omega arith, omega arith)

pub mixed_range : (rule mix : ℕ) (ws : List ℕ) → ((k : ℕ) → get_or ws k 0 < 65536) → pseudo_absolute (mixed rule mix (map signed ws)) < 32768
unfolding mixed
mixed_range rule mix ws h =
    let vs = weights mix in
    let d = divisor mix in
    let s = dot vs (map raise ws) in
    let b = dot vs (biases (map raise ws)) in
    let l = light mix in
    let under : pseudo_absolute (sub_ℕ s b) < 32768 * d = apart s b (32768 * d) (omega (arith, few vs (map raise ws), l.1)) (omega (arith, most vs ws, l.0, l.1)) in
    quotient_range rule (weighted vs (map signed ws)) d 32768 l.0
    (subst (λ (z : ℤ). pseudo_absolute z < 32768 * d) (sym (ap (weighted vs) (sym (raised_all ws h)) ∙ weighted_raised vs (map raise ws))) under)
