-- How many of the next samples are kept, in closed form, and the number of a block.
use Prim.Native.Nat.{ℕ, zero, suc, ◌+◌, ◌-◌, ◌*◌, ◌/◌, ◌%◌, ◌<◌, ◌≤◌}
use mathlib.Core.Path.{◌≡◌, refl, sym, ap, ◌∙◌}
use mathlib.Core.List.{[]}
use mathlib.Core.Bool.{Bool, true, false, cond}
use native.Mathlib.Nat.{div-add-mod', lt_of_mul-lt-mul_right, mul-mod_left, zero-div, zero-mod, div-zero, div-eq_of_lt, div-eq-sub-div, div-mul-le_self, mul-le-mul_left}
use native.Mathlib.Omega.{arith}
use native.Mathlib.Decide.{ℕ_discrete}
use lib.Dec.{leb, ltb, eqb}
use lib.ListN.{length}
use borrow.Author.Tests.{lt-ltb, le-ltb, ltb-false, eq-eqb, ne_eqb}
use Rattle.laws.proofs.Tests.{past, same_test}
use Rattle.sound.specs.Mix.{weights, instant_bytes}
use Rattle.laws.proofs.Whole.{by_order}
use Rattle.fingerprint.specs.declared.Fingerprint.{Fingerprint}
use Rattle.fingerprint.specs.History.{kept_among}
use Rattle.fingerprint.specs.State.{after, values_at, instants, values_of, heard_of, whole_instants, new_bits, store_number, sound_number}

-- n whole bytes among h bits
pub whole_bytes : (n h : ℕ) → leb n (h / 8) ≡ leb (8 * n) h
whole_bytes n h = same_test n (h / 8) (8 * n) h (λ l. omega arith) (λ l. omega arith)

module _ (d : ℕ) where
  pub bits_none : (w n : ℕ) → n ≤ w → new_bits d w n ≡ 0
  unfolding new_bits
  bits_none w zero h = refl
  bits_none w (suc n) h = rw (ne_eqb w 0 (omega arith)) (bits_none (w - 1) n (omega arith))

  -- the first sample that is kept, and those after it
  pub bits_first : (w n : ℕ) → w < n → new_bits d w n ≡ suc (new_bits d (d - 1) (n - w - 1))
  unfolding new_bits
  bits_first w zero h = absurd (omega arith)
  bits_first zero (suc n) h =
      let e : n ≡ suc n - 0 - 1 = omega arith in
      ap (λ (m : ℕ). suc (new_bits d (d - 1) m)) e
  bits_first (suc w) (suc n) h =
      let e : n - w - 1 ≡ suc n - suc w - 1 = omega arith in
      let s : suc w - 1 ≡ w = omega arith in
      rw (ne_eqb (suc w) 0 (omega arith), s) (bits_first w n (omega arith) ∙ ap (λ (m : ℕ). suc (new_bits d (d - 1) m)) e)

  bits_upto : 0 < d → (k m : ℕ) → m ≤ k → new_bits d (d - 1) m ≡ m / d
  bits_upto p zero m h = bits_none (d - 1) m (omega arith) ∙ sym (div-eq_of_lt (omega arith))
  bits_upto p (suc k) m h =
      by_order m d
      (λ l. bits_none (d - 1) m (omega arith) ∙ sym (div-eq_of_lt l))
      (λ l.
      let e : m - (d - 1) - 1 ≡ m - d = omega arith in
      bits_first (d - 1) m (omega arith)
      ∙ (ap suc (ap (new_bits d (d - 1)) e ∙ bits_upto p k (m - d) (omega arith)) ∙ omega (arith, div-eq-sub-div p l)))

  -- after a kept sample each d-th is kept
  pub bits_every : 0 < d → (m : ℕ) → new_bits d (d - 1) m ≡ m / d
  bits_every p m = bits_upto p m m (omega arith)

  pub bits_some : 0 < d → (w n : ℕ) → w < n → new_bits d w n ≡ (n - w - 1) / d + 1
  bits_some p w n h = bits_first w n h ∙ omega (arith, bits_every p (n - w - 1))

more_of : (t : Bool) (a b c d : ℕ) → a ≤ b → c ≤ d → cond t (suc a) c ≤ cond t (suc b) d
more_of true a b c d p q = omega arith
more_of false a b c d p q = q

-- one sample more keeps no fewer
pub bits_more : (d w n : ℕ) → new_bits d w n ≤ new_bits d w (suc n)
unfolding new_bits
bits_more d w zero = omega arith
bits_more d w (suc n) =
    more_of (eqb w 0) (new_bits d (d - 1) n) (new_bits d (d - 1) (suc n)) (new_bits d (w - 1) n) (new_bits d (w - 1) (suc n)) (bits_more d (d - 1) n)
    (bits_more d (w - 1) n)

-- with no interval every sample is kept
bits_all : (m : ℕ) → new_bits 0 0 m ≡ m
unfolding new_bits
bits_all zero = refl
bits_all (suc m) = ap suc (bits_all m)

pub bits_rest : (w n : ℕ) → w < n → new_bits 0 w n ≡ n - w
bits_rest w n h = bits_first 0 w n h ∙ omega (arith, bits_all (n - w - 1))

-- ---- the number of kept samples among the first n

module _ (d : ℕ) (p : 0 < d) where
  -- t is the least number whose product with d reaches n
  abbrev pub Least : ℕ → ℕ → Type 0
  Least n t = (n ≤ t * d) × (t * d < n + d)

  -- sample n is kept where n is a multiple of d
  least_kept : (n t : ℕ) → n % d ≡ 0 → Least (suc n) t → t ≡ suc (n / d)
  least_kept n t z l =
      let e = div-add-mod' n d in
      let low : n / d < t = lt_of_mul-lt-mul_right d {m = n / d} {n = t} (omega (arith, l.0)) in
      let high : t < suc (suc (n / d)) = lt_of_mul-lt-mul_right d {m = t} {n = suc (suc (n / d))} (omega (arith, l.1)) in
      omega arith

  least_passed : (n t : ℕ) → (n % d ≡ 0 → ⊥) → Least (suc n) t → Least n t
  least_passed n t z l = (omega (arith, l.0), elim (ℕ_discrete (t * d) (n + d)) [ yes e ↦ absurd (z (multiple t e)) | no ne ↦ omega (arith, l.1) ])
    where
      multiple : (t : ℕ) → t * d ≡ n + d → n % d ≡ 0
      multiple zero e = absurd (let no : ⊥ = omega arith in no)
      multiple (suc m) e =
          let f : n ≡ m * d = omega arith in
          ap (λ (x : ℕ). x % d) f ∙ mul-mod_left m d

  pub kept_count : (n t : ℕ) → Least n t → kept_among d n ≡ t
  unfolding kept_among
  kept_count zero t l =
      let none : t < 1 = lt_of_mul-lt-mul_right d {m = t} {n = 1} (omega (arith, l.1)) in
      omega arith
  kept_count (suc n) t l = elim (ℕ_discrete (n % d) 0) [
    | yes z ↦ rw (eq-eqb (n % d) 0 z) (ap suc (kept_count n (n / d) (at_least z)) ∙ sym (least_kept n t z l))
    | no z ↦ rw (ne_eqb (n % d) 0 z) (kept_count n t (least_passed n t z l))
  ]
    where
      at_least : n % d ≡ 0 → Least n (n / d)
      at_least z = let e = div-add-mod' n d in (omega arith, omega arith)

-- ---- a block

-- an instant has two bytes or more
pub half_instants : (mix len : ℕ) → 2 * instants mix len ≤ len
unfolding instants instant_bytes
half_instants mix len =
    by_order 0 (length (weights mix))
    (λ h.
    let b : ℕ = 2 * length (weights mix) in
    let two : 2 ≤ b = omega arith in
    omega (arith, mul-le-mul_left (len / b) two, div-mul-le_self len b))
    (λ h.
    let z : 2 * length (weights mix) ≡ 0 = omega arith in
    omega (arith, ap (◌/◌ len) z ∙ div-zero len))

pub instants_fit : (mix len : ℕ) → instants mix len * instant_bytes mix ≤ len
unfolding instants
instants_fit mix len = div-mul-le_self len (instant_bytes mix)

-- samples that there is room for
pub store_fits : (held d wait n : ℕ) → store_number held d wait n ≡ 0 → held + new_bits d wait n ≤ 256
store_fits held d wait n e = below (ltb 256 (held + new_bits d wait n)) refl e
  where
    below : (b : Bool) → ltb 256 (held + new_bits d wait n) ≡ b → ◌≡◌ {A = ℕ} (cond b 9 0) 0 → held + new_bits d wait n ≤ 256
    below true t z = absurd (let no : ⊥ = omega arith in no)
    below false t z = ltb-false 256 (held + new_bits d wait n) t

-- the numbers of a block, in their order
module _ (d : ℕ) (f : Fingerprint) (len : ℕ) where
  pub number_8 : whole_instants f.mix len ≡ false → 8 ≡ sound_number d f len
  unfolding sound_number
  number_8 e = rw e

  pub number_whole : whole_instants f.mix len ≡ true → store_number f.held d f.wait (instants f.mix len) ≡ sound_number d f len
  unfolding sound_number
  number_whole e = rw e

  number_9 : whole_instants f.mix len ≡ true → 256 < f.held + new_bits d f.wait (instants f.mix len) → 9 ≡ sound_number d f len
  unfolding sound_number
  number_9 e h = rw (e, lt-ltb 256 (f.held + new_bits d f.wait (instants f.mix len)) h)

  pub number_0 : whole_instants f.mix len ≡ true → f.held + new_bits d f.wait (instants f.mix len) ≤ 256 → 0 ≡ sound_number d f len
  unfolding sound_number
  number_0 e h = rw (e, le-ltb 256 (f.held + new_bits d f.wait (instants f.mix len)) h)

  -- what an accepted block fulfils
  pub number_fits : sound_number d f len ≡ 0 → f.held + new_bits d f.wait (instants f.mix len) ≤ 256
  unfolding sound_number
  number_fits e =
      let n : ℕ = instants f.mix len in
      store_fits f.held d f.wait n (past (whole_instants f.mix len) 8 (store_number f.held d f.wait n) e (omega arith)).1

  -- 256 bits held: a block with a kept sample gives 9, one without is accepted
  module _ (full : f.held ≡ 256) (whole : whole_instants f.mix len ≡ true) where
    pub full_kept : 0 < new_bits d f.wait (instants f.mix len) → sound_number d f len ≡ 9
    full_kept h = sym (number_9 whole (omega arith))

    pub full_passed : new_bits d f.wait (instants f.mix len) ≡ 0 → sound_number d f len ≡ 0
    full_passed h = sym (number_0 whole (omega arith))

-- an empty block is accepted and changes nothing
pub empty_accepted : (d : ℕ) (f : Fingerprint) → f.held ≤ 256 → sound_number d f 0 ≡ 0
unfolding whole_instants instants new_bits
empty_accepted d f h =
    let none : instants f.mix 0 ≡ 0 = zero-div (instant_bytes f.mix) in
    sym (number_0 d f 0 (eq-eqb (0 % instant_bytes f.mix) 0 (zero-mod (instant_bytes f.mix))) (rw none (omega arith)))

pub empty_heard : (rule d : ℕ) (f : Fingerprint) → heard_of rule d f [] ≡ f
unfolding heard_of values_of values_at instants after
empty_heard rule d f = rw (zero-div (instant_bytes f.mix))
