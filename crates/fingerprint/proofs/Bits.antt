-- A store of bits in bytes, bit 0 of a byte first.
use Prim.Native.Nat.{ℕ, zero, suc, ◌+◌, ◌-◌, ◌*◌, ◌/◌, ◌%◌, ◌^◌, ◌<◌, ◌≤◌}
use mathlib.Core.Path.{◌≡◌, refl, sym, ap, ap₂, ◌∙◌}
use mathlib.Core.Logic.{◌≢◌}
use mathlib.Core.List.{List}
use mathlib.Core.Bool.{Bool, true, false, cond}
use native.Mathlib.Nat.{div-eq_of_lt, mul-div_cancel, zero-mod, zero-div, div_self, mod-one, mod-eq_of_lt}
use native.Mathlib.Omega.{arith}
use native.Mathlib.Decide.{ℕ_discrete}
use lib.ListN.{length, get_or, set, replicate, drop, length-append, length-drop, length-replicate, length-set}
use lib.Seq.{get_or-set_same, get_or-set_other, get_or-drop, set_out, ext_get_or}
use lib.Bits.{bit_or, or_lt, or_shr, or_mod, or_zero_r}
use lib.Pow.{pow_pos, pow-lt, pow-add, mod-pow-add}
use Rattle.laws.proofs.Lists.{get_d_zeros, get_d_padded}
use Rattle.laws.proofs.Whole.{by_order}
use Rattle.fingerprint.specs.State.{with_bit, shifted}
use Rattle.fingerprint.specs.History.{from_bits, bit_in}

-- bit i of a number
abbrev pub bit : ℕ → ℕ → ℕ
bit x i = x / 2 ^ i % 2

bit_or_lem : (x y i : ℕ) → bit (bit_or x y) i ≡ bit_or (bit x i) (bit y i)
bit_or_lem x y i = ap (λ (n : ℕ). n % 2) (or_shr x y i) ∙ or_mod (x / 2 ^ i) (y / 2 ^ i) 1

bit_power : (i : ℕ) → bit (2 ^ i) i ≡ 1
bit_power i = ap (λ (n : ℕ). n % 2) (div_self (pow_pos i))

bit_power_other : (i j : ℕ) → i ≢ j → bit (2 ^ j) i ≡ 0
bit_power_other i j h = by_order j i (λ l. ap (λ (n : ℕ). n % 2) (div-eq_of_lt (pow-lt l))) high
  where
    high : i ≤ j → bit (2 ^ j) i ≡ 0
    high b =
        let m : ℕ = j - suc i in
        let e : j ≡ suc m + i = omega arith in
        ap (λ (n : ℕ). bit (2 ^ n) i) e
        ∙ (ap (λ (n : ℕ). n / 2 ^ i % 2) (pow-add 2 (suc m) i) ∙ (ap (λ (n : ℕ). n % 2) (mul-div_cancel (2 ^ suc m) (pow_pos i)) ∙ omega arith))

or_one : (b : ℕ) → b < 2 → bit_or b 1 ≡ 1
or_one zero h = refl
or_one (suc zero) h = refl
or_one (suc (suc n)) h = absurd (omega arith)

-- bit j set: bit j is 1, and every other bit as before
or_same : (x j : ℕ) → bit (bit_or x (2 ^ j)) j ≡ 1
or_same x j = bit_or_lem x (2 ^ j) j ∙ (ap (bit_or (bit x j)) (bit_power j) ∙ or_one (bit x j) (omega arith))

or_other : (x i j : ℕ) → i ≢ j → bit (bit_or x (2 ^ j)) i ≡ bit x i
or_other x i j h = bit_or_lem x (2 ^ j) i ∙ (ap (bit_or (bit x i)) (bit_power_other i j h) ∙ or_zero_r (bit x i))

module _ (l : List ℕ) (n : ℕ) (fits : n < 8 * length l) where
  set_same : bit_in (with_bit true l n) n ≡ 1
  unfolding bit_in with_bit
  set_same = ap (λ (x : ℕ). bit x (n % 8)) (get_or-set_same l (n / 8) _ 0 (omega arith)) ∙ or_same (get_or l (n / 8) 0) (n % 8)

  set_other : (k : ℕ) → k ≢ n → bit_in (with_bit true l n) k ≡ bit_in l k
  unfolding bit_in with_bit
  set_other k ne = elim (ℕ_discrete (k / 8) (n / 8)) [ yes e ↦ same e | no d ↦ ap (λ (x : ℕ). bit x (k % 8)) (get_or-set_other l (n / 8) (k / 8) _ 0 d) ]
    where
      same : k / 8 ≡ n / 8 → bit_in (with_bit true l n) k ≡ bit_in l k
      same e =
          let d : k % 8 ≢ n % 8 = omega arith in
          ap (λ (i : ℕ). bit (get_or (with_bit true l n) i 0) (k % 8)) e
          ∙ (ap (λ (x : ℕ). bit x (k % 8)) (get_or-set_same l (n / 8) _ 0 (omega arith))
          ∙ (or_other (get_or l (n / 8) 0) (k % 8) (n % 8) d ∙ ap (λ (i : ℕ). bit (get_or l i 0) (k % 8)) (sym e)))

  -- the bit is the one that was kept, where the room was clean; no other changes
  pub kept_bit : (one : Bool) → bit_in l n ≡ 0 → bit_in (with_bit one l n) n ≡ cond one 1 0
  unfolding with_bit
  kept_bit true e = set_same
  kept_bit false e = e

  pub other_bit : (one : Bool) (k : ℕ) → k ≢ n → bit_in (with_bit one l n) k ≡ bit_in l k
  unfolding with_bit
  other_bit true k ne = set_other k ne
  other_bit false k ne = refl

pub length_bit : (one : Bool) (l : List ℕ) (n : ℕ) → length (with_bit one l n) ≡ length l
unfolding with_bit
length_bit true l n = length-set l (n / 8) _
length_bit false l n = refl

pub small_bit : (one : Bool) (l : List ℕ) (n : ℕ) → ((k : ℕ) → get_or l k 0 < 256) → (k : ℕ) → get_or (with_bit one l n) k 0 < 256
unfolding with_bit
small_bit false l n h k = h k
small_bit true l n h k = elim (ℕ_discrete k (n / 8)) [ yes e ↦ at e | no d ↦ rw (get_or-set_other l (n / 8) k _ 0 d) (h k) ]
  where
    new : bit_or (get_or l (n / 8) 0) (2 ^ (n % 8)) < 256
    new = or_lt 8 (get_or l (n / 8) 0) (2 ^ (n % 8)) (h (n / 8)) (pow-lt {i = n % 8} {j = 8} (omega arith))

    at : k ≡ n / 8 → get_or (set l (n / 8) (bit_or (get_or l (n / 8) 0) (2 ^ (n % 8)))) k 0 < 256
    at e =
        by_order (n / 8) (length l)
        (λ i. rw (e, get_or-set_same l (n / 8) (bit_or (get_or l (n / 8) 0) (2 ^ (n % 8))) 0 i) new)
        (λ o. rw (set_out l (n / 8) (bit_or (get_or l (n / 8) 0) (2 ^ (n % 8))) o) (h k))

get_d_shifted : (n : ℕ) (l : List ℕ) (i : ℕ) → get_or (shifted n l) i 0 ≡ get_or l (n + i) 0
unfolding shifted
get_d_shifted n l i = get_d_padded (drop n l) n i ∙ get_or-drop n l i 0

pub shifted_bit : (l : List ℕ) (n k : ℕ) → bit_in (shifted n l) k ≡ bit_in l (8 * n + k)
unfolding bit_in
shifted_bit l n k =
    let e : n + k / 8 ≡ (8 * n + k) / 8 = omega arith in
    let f : k % 8 ≡ (8 * n + k) % 8 = omega arith in
    ap (λ (x : ℕ). bit x (k % 8)) (get_d_shifted n l (k / 8))
    ∙ (ap (λ (i : ℕ). bit (get_or l i 0) (k % 8)) e ∙ ap (bit (get_or l ((8 * n + k) / 8) 0)) f)

pub length_shifted : (n : ℕ) (l : List ℕ) → n ≤ length l → length (shifted n l) ≡ length l
unfolding shifted
length_shifted n l h = omega (arith, length-append (drop n l) (replicate n 0), length-drop n l, length-replicate {A = ℕ} n 0)

pub small_shifted : (n : ℕ) (l : List ℕ) → ((k : ℕ) → get_or l k 0 < 256) → (k : ℕ) → get_or (shifted n l) k 0 < 256
small_shifted n l h k = rw (get_d_shifted n l k) (h (n + k))

pub zero_bits : (m k : ℕ) → bit_in (replicate m 0) k ≡ 0
unfolding bit_in
zero_bits m k =
    ap (λ (x : ℕ). bit x (k % 8)) (get_d_zeros m (k / 8)) ∙ (ap (λ (x : ℕ). x % 2) (zero-div (2 ^ (k % 8))) ∙ zero-mod 2)

-- a bit of a byte, by the byte and the place in it
pub bit_at_lem : (l : List ℕ) (b i : ℕ) → i < 8 → bit_in l (8 * b + i) ≡ bit (get_or l b 0) i
unfolding bit_in
bit_at_lem l b i h =
    let e : (8 * b + i) / 8 ≡ b = omega arith in
    let f : (8 * b + i) % 8 ≡ i = omega arith in
    rw (e, f)

-- a number from its bits
from_bits_lem : (b : ℕ → ℕ) (x n : ℕ) → ((i : ℕ) → i < n → bit x i ≡ b i) → from_bits b n ≡ x % 2 ^ n
unfolding from_bits
from_bits_lem b x zero own = sym (mod-one x)
from_bits_lem b x (suc n) own =
    let e : 1 + n ≡ suc n = omega arith in
    ap₂ (λ (y z : ℕ). y + 2 ^ n * z) (from_bits_lem b x n (λ i l. own i (omega arith))) (sym (own n (omega arith)))
    ∙ (omega arith ∙ (sym (mod-pow-add x 1 n) ∙ ap (λ (m : ℕ). x % 2 ^ m) e))

pub byte_is : (b : ℕ → ℕ) (x : ℕ) → x < 256 → ((i : ℕ) → i < 8 → bit x i ≡ b i) → from_bits b 8 ≡ x
byte_is b x l own = from_bits_lem b x 8 own ∙ mod-eq_of_lt l

-- bytes with the same bits are the same
pub same_bytes : (l m : List ℕ) → length l ≡ length m → ((k : ℕ) → get_or l k 0 < 256) → ((k : ℕ) → get_or m k 0 < 256) → ((k : ℕ) → bit_in l k ≡ bit_in m k) → l ≡ m
same_bytes l m size p q same =
    ext_get_or 0 l m size
    (λ b k.
    sym (byte_is (bit (get_or m b 0)) (get_or l b 0) (p b) (λ i j. sym (bit_at_lem l b i j) ∙ (same (8 * b + i) ∙ bit_at_lem m b i j)))
    ∙ byte_is (bit (get_or m b 0)) (get_or m b 0) (q b) (λ i j. refl))
