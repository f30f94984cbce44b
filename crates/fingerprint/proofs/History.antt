-- A fingerprint is what its history says: one lemma each for a fresh one, a sample, a block heard, bytes taken, and each call.
use Prim.Native.Nat.{ℕ, suc, ◌+◌, ◌-◌, ◌*◌, ◌/◌, ◌<◌, ◌≤◌}
use mathlib.Core.Path.{◌≡◌, refl, sym, ap, subst, ◌∙◌}
use mathlib.Core.Logic.{◌≢◌}
use mathlib.Core.List.{List, [], ◌∷◌, ◌++◌}
use mathlib.Core.Bool.{Bool, true, false, cond}
use native.Mathlib.Nat.{add-mul, div-add-mod', mod-lt, mul-le-mul_right, not-suc-le-zero}
use native.Mathlib.Omega.{arith}
use native.Mathlib.Decide.{ℕ_discrete}
use lib.Dec.{ltb, eqb}
use lib.ListN.{length, get_or, drop, length-append}
use borrow.Author.Tests.{eq-eqb, ne_eqb, lt-ltb, eqb-true}
use Rattle.laws.proofs.Bytes.{bytes_replicate}
use Rattle.sound.specs.Filter.{filter_next, filtered, envelope_after, mean_after, bit_of}
use Rattle.laws.proofs.Whole.{by_order}
use Rattle.floats.specs.declared.Instant.{Instant}
use Rattle.floats.specs.Instants.{refused_by, float_value}
use Rattle.fingerprint.specs.declared.Fingerprint.{Fingerprint}
use Rattle.fingerprint.specs.State.{fresh_of, filtered_of, with_bit, holding, pushed_of, with_wait, kept_of, step_of, after, instants, values_of, heard_of, new_bits, store_number, sound_number, instant_number, can_take, without, take_of}
use Rattle.fingerprint.specs.History.{up_to, bit_at, kept_among, kept_bits, bit_in, some, Holds}
use Rattle.fingerprint.proofs.Bits.{kept_bit, other_bit, length_bit, small_bit, shifted_bit, length_shifted, small_shifted, zero_bits, same_bytes}
use Rattle.fingerprint.proofs.Counts.{bits_none, bits_some, bits_more, kept_count, store_fits, number_fits}
use Rattle.fingerprint.proofs.Steps.{length_values}
use Rattle.fingerprint.proofs.Taking.{can_take_room}

-- ---- the samples

older : (a : ℕ) (h : List ℕ) (i : ℕ) → i < length h → bit_at (a ∷ h) i ≡ bit_at h i
unfolding bit_at up_to
older a h i l =
    let e : suc (length h) - suc i ≡ suc (length h - suc i) = omega arith in
    ap (λ (n : ℕ). bit_of (drop n (a ∷ h))) e

newest : (a : ℕ) (h : List ℕ) → bit_at (a ∷ h) (length h) ≡ bit_of (a ∷ h)
unfolding bit_at up_to
newest a h =
    let e : suc (length h) - suc (length h) ≡ 0 = omega arith in
    ap (λ (n : ℕ). bit_of (drop n (a ∷ h))) e

filtered_next : (k g a : ℕ) (h : List ℕ) → filtered k g (a ∷ h) ≡ cond (some h) (filter_next k g (filtered k g h) a) (filtered k g h)
unfolding filtered some
filtered_next k g a [] = refl
filtered_next k g a (b ∷ h) = refl

-- ---- how many bits have been kept

module _ (mix d : ℕ) (h : List ℕ) (taken : ℕ) (f : Fingerprint) (H : Holds mix d h taken f) where
  positive : 0 < d
  positive = omega (arith, H.soon)

  -- the bits taken and the bits held are those kept
  pub holds_kept : taken + f.held ≡ kept_bits d h
  unfolding kept_bits
  holds_kept = sym (kept_count d positive (length h) (taken + f.held) (omega (arith, H.next), omega (arith, H.next, H.soon)))

  -- and with n samples more
  pub held_with : (n : ℕ) → taken + (f.held + new_bits d f.wait n) ≡ kept_among d (n + length h)
  held_with n =
      by_order f.wait n
      (λ l.
      let k : ℕ = n - f.wait - 1 in
      let q : ℕ = k / d in
      let t : ℕ = taken + f.held + (q + 1) in
      let e : t * d ≡ (taken + f.held) * d + (q * d + d) = add-mul (taken + f.held) (q + 1) d ∙ omega arith in
      let s = div-add-mod' k d in
      let r = mod-lt k positive in
      let c : kept_among d (n + length h) ≡ t = kept_count d positive (n + length h) t (omega (arith, H.next), omega (arith, H.next)) in
      omega (arith, bits_some d positive f.wait n l))
      (λ l.
      let c : kept_among d (n + length h) ≡ taken + f.held =
      kept_count d positive (n + length h) (taken + f.held) (omega (arith, H.next), omega (arith, H.next, H.soon)) in
      omega (arith, bits_none d f.wait n l))

-- ---- the calls

pub holds_fresh : (mix d : ℕ) → 0 < d → Holds mix d [] 0 (fresh_of mix)
unfolding fresh_of filtered some
holds_fresh mix d p = record {
  mix_type = refl;
  envelope = refl;
  mean = refl;
  started = refl;
  next = omega arith;
  soon = p;
  room = omega arith;
  size = refl;
  small = bytes_replicate 32 0 (omega arith);
  bits = λ k l. absurd (not-suc-le-zero l);
  clean = λ k l. zero_bits 32 k;
}

-- a fingerprint of its fields
made : ℕ → ℕ → ℕ → ℕ → Bool → ℕ → List ℕ → Fingerprint
made mix e m w s n bytes = record { mix = mix; envelope = e; mean = m; wait = w; started = s; held = n; bytes = bytes }

made_is : (f : Fingerprint) → made f.mix f.envelope f.mean f.wait f.started f.held f.bytes ≡ f
unfolding made
made_is f = refl

module _ (mix d : ℕ) (h : List ℕ) (taken : ℕ) (f : Fingerprint) (H : Holds mix d h taken f) (a : ℕ) where
  envelope_next : (filtered_of f a).envelope ≡ envelope_after (a ∷ h)
  unfolding filtered_of
  envelope_next = rw (H.envelope, H.started, filtered_next 1024 8 a h)

  mean_next : (filtered_of f a).mean ≡ mean_after (a ∷ h)
  unfolding filtered_of
  mean_next = rw (H.mean, H.started, filtered_next 8192 1 a h)

  held_bit : (k : ℕ) → k < f.held → bit_in f.bytes k ≡ bit_at (a ∷ h) ((taken + k) * d)
  held_bit k l =
      let m = mul-le-mul_right {m = taken + k + 1} {n = taken + f.held} d (omega arith) in
      H.bits k l ∙ sym (older a h ((taken + k) * d) (omega (arith, H.next, H.soon)))

  -- from what becomes of the wait and of the bits
  grown : (w n : ℕ) (bytes : List ℕ) → step_of d f a ≡ made f.mix (filtered_of f a).envelope (filtered_of f a).mean w true n bytes
      → (taken + n) * d ≡ suc (length h) + w → w < d → n ≤ 256 → length bytes ≡ 32 → ((k : ℕ) → get_or bytes k 0 < 256)
      → ((k : ℕ) → k < n → bit_in bytes k ≡ bit_at (a ∷ h) ((taken + k) * d)) → ((k : ℕ) → n ≤ k → bit_in bytes k ≡ 0)
      → Holds mix d (a ∷ h) taken (step_of d f a)
  unfolding made some
  grown w n bytes is next soon room size small bits clean = subst (λ (g : Fingerprint). Holds mix d (a ∷ h) taken g) (sym is) (record {
    mix_type = H.mix_type;
    envelope = envelope_next;
    mean = mean_next;
    started = refl;
    next = next;
    soon = soon;
    room = room;
    size = size;
    small = small;
    bits = bits;
    clean = clean;
  })

  -- a sample that is kept
  module _ (z : f.wait ≡ 0) (free : f.held < 256) where
    one : Bool
    one = ltb (filtered_of f a).mean (filtered_of f a).envelope

    new_bit : cond one 1 0 ≡ bit_at (a ∷ h) ((taken + f.held) * d)
    unfolding one bit_of
    new_bit =
        let own : (taken + f.held) * d ≡ length h = omega (arith, H.next) in
        rw (own, newest a h, mean_next, envelope_next)

    fits : f.held < 8 * length f.bytes
    fits = omega (arith, H.size)

    kept_is : step_of d f a ≡ made f.mix (filtered_of f a).envelope (filtered_of f a).mean (d - 1) true (f.held + 1) (with_bit one f.bytes f.held)
    unfolding step_of kept_of with_wait pushed_of holding filtered_of one made
    kept_is = rw (eq-eqb f.wait 0 z, lt-ltb f.held 256 free)

    bits_kept : (k : ℕ) → k < f.held + 1 → bit_in (with_bit one f.bytes f.held) k ≡ bit_at (a ∷ h) ((taken + k) * d)
    bits_kept k l = elim (ℕ_discrete k f.held) [
      | yes e ↦ rw e (kept_bit f.bytes f.held fits one (H.clean f.held (omega arith)) ∙ new_bit)
      | no ne ↦ other_bit f.bytes f.held fits one k ne ∙ held_bit k (omega arith)
    ]

    holds_keeping : Holds mix d (a ∷ h) taken (step_of d f a)
    holds_keeping =
        grown (d - 1) (f.held + 1) (with_bit one f.bytes f.held) kept_is (omega (arith, H.next, H.soon)) (omega (arith, H.soon)) (omega arith)
        (length_bit one f.bytes f.held ∙ H.size) (small_bit one f.bytes f.held H.small) bits_kept
        (λ k l. other_bit f.bytes f.held fits one k (omega arith) ∙ H.clean k (omega arith))

  -- a sample that is passed
  module _ (z : f.wait ≢ 0) where
    passed_is : step_of d f a ≡ made f.mix (filtered_of f a).envelope (filtered_of f a).mean (f.wait - 1) true f.held f.bytes
    unfolding step_of kept_of with_wait filtered_of made
    passed_is = rw (ne_eqb f.wait 0 z)

    holds_passing : Holds mix d (a ∷ h) taken (step_of d f a)
    holds_passing =
        grown (f.wait - 1) f.held f.bytes passed_is (omega (arith, H.next)) (omega (arith, H.soon)) H.room H.size H.small held_bit H.clean

  -- one sample, where a bit that it gives has room
  pub holds_step : (f.wait ≡ 0 → f.held < 256) → Holds mix d (a ∷ h) taken (step_of d f a)
  holds_step free = elim (ℕ_discrete f.wait 0) [ yes z ↦ holds_keeping z (free z) | no z ↦ holds_passing z ]

-- samples, where all the bits that they give have room
module _ (mix d : ℕ) (h : List ℕ) (taken : ℕ) (f : Fingerprint) (H : Holds mix d h taken f) where
  -- room for the bit of one sample more
  still_free : (xs : List ℕ) (g : Fingerprint) → f.held + new_bits d f.wait (suc (length xs)) ≤ 256 → Holds mix d (xs ++ h) taken g → g.wait ≡ 0 → g.held < 256
  still_free xs g fit K z =
      let p = positive mix d h taken f H in
      let t : ℕ = taken + g.held + 1 in
      let e : t * d ≡ (taken + g.held) * d + d = add-mul (taken + g.held) 1 d ∙ omega arith in
      let n = length-append xs h in
      let c : kept_among d (suc (length xs) + length h) ≡ t =
      kept_count d p (suc (length xs) + length h) t (omega (arith, K.next), omega (arith, K.next)) in
      omega (arith, held_with mix d h taken f H (suc (length xs)))

  pub holds_after : (xs : List ℕ) → f.held + new_bits d f.wait (length xs) ≤ 256 → Holds mix d (xs ++ h) taken (after d f xs)
  unfolding after
  holds_after [] fit = H
  holds_after (a ∷ xs) fit =
      let before = holds_after xs (omega (arith, bits_more d f.wait (length xs))) in
      holds_step mix d (xs ++ h) taken (after d f xs) before a (still_free xs (after d f xs) fit before)

  -- a block
  pub holds_heard : (rule : ℕ) (block : List ℕ) → f.held + new_bits d f.wait (instants mix (length block)) ≤ 256
      → Holds mix d (values_of rule mix block ++ h) taken (heard_of rule d f block)
  unfolding heard_of values_of
  holds_heard rule block fit =
      subst (λ (m : ℕ). Holds mix d (values_of rule mix block ++ h) taken (after d f (values_of rule m block))) (sym H.mix_type)
      (holds_after (values_of rule mix block) (rw (length_values rule mix block 0 (instants mix (length block))) fit))

-- n whole bytes leave
pub holds_taken : (mix d : ℕ) (h : List ℕ) (taken : ℕ) (f : Fingerprint) → Holds mix d h taken f → (n : ℕ) → 8 * n ≤ f.held → Holds mix d h (taken + 8 * n) (without f n)
unfolding without holding
holds_taken mix d h taken f H n fit = record {
  mix_type = H.mix_type;
  envelope = H.envelope;
  mean = H.mean;
  started = H.started;
  next =
      let e : taken + 8 * n + (f.held - 8 * n) ≡ taken + f.held = omega arith in
      ap (λ (m : ℕ). m * d) e ∙ H.next;
  soon = H.soon;
  room = omega (arith, H.room);
  size = length_shifted n f.bytes (omega (arith, H.size, H.room)) ∙ H.size;
  small = small_shifted n f.bytes H.small;
  bits = λ k l.
      let e : taken + (8 * n + k) ≡ taken + 8 * n + k = omega arith in
      shifted_bit f.bytes n k ∙ (H.bits (8 * n + k) (omega arith) ∙ ap (λ (m : ℕ). bit_at h (m * d)) e);
  clean = λ k l. shifted_bit f.bytes n k ∙ H.clean (8 * n + k) (omega arith);
}

module _ (mix d : ℕ) (h : List ℕ) (taken : ℕ) (f : Fingerprint) (H : Holds mix d h taken f) where
  -- a block, heard where its number is 0
  pub holds_sound : (rule : ℕ) (block : List ℕ) (b : Bool) → eqb (sound_number d f (length block)) 0 ≡ b
      → Holds mix d (cond b (values_of rule mix block ++ h) h) taken (cond b (heard_of rule d f block) f)
  holds_sound rule block false e = H
  holds_sound rule block true e =
      let room = number_fits d f (length block) (eqb-true (sound_number d f (length block)) 0 e) in
      holds_heard mix d h taken f H rule block
      (subst (λ (m : ℕ). f.held + new_bits d f.wait (instants m (length block)) ≤ 256) H.mix_type room)

  -- an instant whose number is 0
  pub holds_instant : (rule : ℕ) (i : Instant) → instant_number d f i ≡ 0 → Holds mix d (float_value rule i ∷ h) taken (step_of d f (float_value rule i))
  unfolding instant_number after
  holds_instant rule i e = holds_after mix d h taken f H (float_value rule i ∷ []) (store_fits f.held d f.wait 1 (go (refused_by f.mix i) e))
    where
      go : (t : Bool) → cond t 14 (store_number f.held d f.wait 1) ≡ 0 → store_number f.held d f.wait 1 ≡ 0
      go true z = absurd (let no : ⊥ = omega arith in no)
      go false z = z

  -- n bytes, taken where they are held
  pub holds_take : (n : ℕ) (b : Bool) → can_take f n ≡ b → Holds mix d h (cond b (taken + 8 * n) taken) (take_of f n).fingerprint
  unfolding take_of
  holds_take n false e = rw e H
  holds_take n true e = rw e (holds_taken mix d h taken f H n (can_take_room f n e).1)

  pub holds_restart : Holds mix d [] 0 (fresh_of f.mix)
  holds_restart = subst (λ (m : ℕ). Holds mix d [] 0 (fresh_of m)) (sym H.mix_type) (holds_fresh mix d (positive mix d h taken f H))

-- one history, one fingerprint
module _ (mix d : ℕ) (h : List ℕ) (taken : ℕ) (f g : Fingerprint) (F : Holds mix d h taken f) (G : Holds mix d h taken g) where
  one_held : f.held ≡ g.held
  one_held = omega (arith, holds_kept mix d h taken f F, holds_kept mix d h taken g G)

  one_wait : f.wait ≡ g.wait
  one_wait = omega (arith, F.next, G.next, ap (λ (n : ℕ). (taken + n) * d) one_held)

  one_bits : f.bytes ≡ g.bytes
  one_bits = same_bytes f.bytes g.bytes (F.size ∙ sym G.size) F.small G.small (λ k.
      by_order k f.held
      (λ l. F.bits k l ∙ sym (G.bits k (omega (arith, one_held))))
      (λ l. F.clean k l ∙ sym (G.clean k (omega (arith, one_held)))))

  pub holds_once : f ≡ g
  holds_once =
      let same : made f.mix f.envelope f.mean f.wait f.started f.held f.bytes
      ≡ made g.mix g.envelope g.mean g.wait g.started g.held g.bytes =
      cc (F.mix_type, G.mix_type, F.envelope, G.envelope, F.mean, G.mean, F.started, G.started, one_held, one_wait, one_bits) in
      sym (made_is f) ∙ (same ∙ made_is g)
