-- What a fingerprint answers is what document 01 says of its history.
use Prim.Native.Nat.{ℕ, zero, suc, ◌+◌, ◌-◌, ◌*◌, ◌/◌, ◌<◌, ◌≤◌}
use mathlib.Core.Path.{◌≡◌, refl, sym, ap, ap₂, ◌∙◌}
use mathlib.Core.List.{List, [], ◌∷◌, ◌++◌}
use mathlib.Core.Bool.{Bool, true, false, ◌&&◌}
use native.Mathlib.Nat.{mul-le-mul_right}
use native.Mathlib.Omega.{arith}
use lib.Dec.{leb, ltb}
use lib.ListN.{length, get_or, take, replicate, get_or-append}
use lib.Seq.{take-suc, get_or-take, length-take-le}
use Rattle.sound.specs.Exact.{exact_envelope, exact_mean, Near}
use Rattle.laws.proofs.Tests.{same_test}
use Rattle.sound.proofs.Exact.{envelope_near, mean_near, bit_one, bit_zero}
use Rattle.floats.specs.declared.Instant.{Instant}
use Rattle.fingerprint.specs.declared.Fingerprint.{Fingerprint}
use Rattle.fingerprint.specs.State.{new_bits, instants, sound_number, instant_number, holds_of, first_bytes, can_take, take_of}
use Rattle.fingerprint.specs.History.{up_to, bit_at, kept_among, kept_bits, bits_from, from_bits, bytes_from, bit_in, Holds}
use Rattle.fingerprint.specs.Paper.{sound_answer, instant_answer, held_answer, leave_answer, bytes_answer, Right, AllRight}
use Rattle.fingerprint.proofs.Bits.{bit, bit_at_lem, byte_is}
use Rattle.fingerprint.proofs.History.{holds_kept, held_with}
use Rattle.fingerprint.proofs.Taking.{can_take_room}

-- n bits above 256, and with those that have left the bits kept above 256 and these
above : (taken n kept : ℕ) → taken + n ≡ kept → ltb 256 n ≡ ltb (256 + taken) kept
above taken n kept e = same_test 257 n (suc (256 + taken)) kept (λ l. omega arith) (λ l. omega arith)

module _ (mix d : ℕ) (h : List ℕ) (taken : ℕ) (f : Fingerprint) (H : Holds mix d h taken f) where
  pub sound_paper : (block : List ℕ) → sound_number d f (length block) ≡ sound_answer mix d h taken block
  unfolding sound_number sound_answer
  sound_paper block =
      let n : ℕ = instants mix (length block) in
      let s = above taken (f.held + new_bits d f.wait n) (kept_among d (n + length h)) (held_with mix d h taken f H n) in
      rw (H.mix_type, s)

  pub instant_paper : (i : Instant) → instant_number d f i ≡ instant_answer mix d h taken i
  unfolding instant_number instant_answer
  instant_paper i =
      let s = above taken (f.held + new_bits d f.wait 1) (kept_among d (suc (length h))) (held_with mix d h taken f H 1 ∙ ap (kept_among d) (omega arith)) in
      rw (H.mix_type, s)

  pub holds_paper : (n : ℕ) → holds_of f n ≡ held_answer d h taken n
  unfolding holds_of held_answer
  holds_paper n =
      let e = holds_kept mix d h taken f H in
      same_test (8 * n) f.held (taken + 8 * n) (kept_bits d h) (λ l. omega arith) (λ l. omega arith)

  pub can_take_paper : (n : ℕ) → can_take f n ≡ leave_answer d h taken n
  unfolding can_take leave_answer
  can_take_paper n = ap (λ (b : Bool). leb n 5 && b) (holds_paper n)

  -- byte b of those held is made of its own samples' bits
  byte_paper : (b : ℕ) → 8 * b + 8 ≤ f.held → get_or f.bytes b 0 ≡ from_bits (bits_from d h (taken + 8 * b)) 8
  unfolding bits_from
  byte_paper b l = sym (byte_is (bits_from d h (taken + 8 * b)) (get_or f.bytes b 0) (H.small b) own)
    where
      own : (i : ℕ) → i < 8 → bit (get_or f.bytes b 0) i ≡ bit_at h ((taken + 8 * b + i) * d)
      own i k =
          let e : taken + (8 * b + i) ≡ taken + 8 * b + i = omega arith in
          sym (bit_at_lem f.bytes b i k) ∙ (H.bits (8 * b + i) (omega arith) ∙ ap (λ (m : ℕ). bit_at h (m * d)) e)

  bytes_paper : (n : ℕ) → 8 * n ≤ f.held → take n f.bytes ≡ bytes_from d h taken n
  unfolding bytes_from
  bytes_paper zero l = refl
  bytes_paper (suc n) l =
      take-suc f.bytes n 0 (omega (arith, H.size, H.room))
      ∙ ap₂ (λ (xs : List ℕ) (x : ℕ). xs ++ (x ∷ [])) (bytes_paper n (omega arith)) (byte_paper n (omega arith))

  pub taken_paper : (n : ℕ) → (take_of f n).bytes ≡ bytes_answer d h taken n
  unfolding take_of bytes_answer first_bytes
  taken_paper n = go (can_take f n) refl
    where
      go : (b : Bool) → can_take f n ≡ b → (take_of f n).bytes ≡ bytes_answer d h taken n
      go true e = rw (e, ← can_take_paper n, e) (ap (λ (xs : List ℕ). xs ++ replicate (5 - n) 0) (bytes_paper n (can_take_room f n e).1))
      go false e = rw (e, ← can_take_paper n, e)

-- ---- demand 3

pub right : (h : List ℕ) (i : ℕ) → Right h i (bit_at h i)
unfolding bit_at
right h i = record { one = bit_one (up_to h i); zero = bit_zero (up_to h i) }

module _ (mix d : ℕ) (h : List ℕ) (taken : ℕ) (f : Fingerprint) (H : Holds mix d h taken f) where
  -- the stored envelope is never below the exact one nor more than 1,023 above it, the stored mean nor more than 8,191
  pub stored_near : Near 1023 f.envelope (exact_envelope h) × Near 8191 f.mean (exact_mean h)
  stored_near = (rw H.envelope (envelope_near h), rw H.mean (mean_near h))

  -- the bits that leave are those that were held
  left_bit : (n j : ℕ) → can_take f n ≡ true → j < 8 * n → bit_in (take_of f n).bytes j ≡ bit_in f.bytes j
  unfolding bit_in take_of first_bytes
  left_bit n j e l =
      let r = can_take_room f n e in
      let k : j / 8 < length (take n f.bytes) = rw (length-take-le n f.bytes (omega (arith, H.size))) (omega arith) in
      let i : j / 8 < n = omega arith in
      rw (e, get_or-append (take n f.bytes) (replicate (5 - n) 0) 0 (j / 8) k, get_or-take n f.bytes (j / 8) 0 i)

  pub all_right : (n : ℕ) → can_take f n ≡ true → AllRight d h taken (take_of f n).bytes n
  all_right n e j l =
      let r = can_take_room f n e in
      let m = mul-le-mul_right {m = taken + j + 1} {n = taken + f.held} d (omega arith) in
      (omega (arith, H.next, H.soon), rw (left_bit n j e l, H.bits j (omega arith)) (right h ((taken + j) * d)))
