-- The two inputs are one sound: an instant of the fingerprint's own mix type, whose values are whole numbers over 32,768, does to a session just what the
-- integer block of that one instant does.
use Prim.Native.Nat.{ℕ, zero, suc, ◌+◌, ◌-◌, ◌*◌, ◌/◌, ◌%◌, ◌<◌}
use mathlib.Core.Path.{◌≡◌, refl, sym, ap, ap₂, subst, ◌∙◌}
use mathlib.Core.Bool.{Bool, true, false, cond}
use mathlib.Core.List.{List, [], ◌∷◌, map}
use native.Mathlib.Nat.{zero-mul}
use native.Mathlib.Omega.{arith}
use lib.Dec.{leb}
use lib.IntN.{ℤ}
use lib.Signed.{mag}
use lib.ListN.{length, get_or}
use lib.Ieee.{Float}
use borrow.Author.Tests.{eq-eqb, leb-false}
use Rattle.rates.specs.Rates.{interval_of}
use Rattle.sound.specs.Mix.{signed, signed_at, instant_samples, weights, mixed, pseudo_absolute, instant_bytes, instant_value}
use Rattle.laws.proofs.Whole.{by_order}
use Rattle.sound.proofs.Rounding.{signed_low, signed_high}
use Rattle.floats.specs.declared.Instant.{Instant}
use Rattle.floats.specs.declared.Instant.TheVariants as kinds
use Rattle.floats.specs.Values.{sample_of}
use Rattle.floats.specs.Instants.{kind_of, values_in, any_nan, has_nan, float_value}
use Rattle.floats.proofs.Meaning.{over_sample, over_number}
use Rattle.fingerprint.specs.declared.Fingerprint.{Fingerprint}
use Rattle.fingerprint.specs.State.{step_of, after, values_at, values_of, heard_of, instants, whole_instants, sound_number, instant_number}
use Rattle.session.specs.declared.Settings.{Settings}
use Rattle.session.specs.declared.Session.{Session}
use Rattle.session.specs.Session.{Sounded}
use Rattle.session.specs.Session.{is_set, no_fingerprint, reached, heard_with, sounded_number, sound_of, instanted_number, instant_of}
use Rattle.demands.specs.Calls.{Setup, sound, instant, saying, Event, begun, answer_of, after_call, Run}
use Rattle.demands.specs.Paper.{accepted}
use Rattle.demands.specs.Blocks.{AllOver, none, more, block_of}
use Rattle.demands.proofs.Voices.{voice_at}
use Rattle.demands.proofs.Runs.{always}

-- ---- the samples

signed_small : (w : ℕ) → w < 65536 → mag (signed w) < 32768
signed_small w h =
    by_order w 32768
    (λ l. rw (signed_low w l) l)
    (λ l. rw (signed_high w (65535 - w) (omega arith) (omega arith)) (omega arith))

samples_are : {xs : List Float} {ws : List ℕ} → AllOver xs ws → map sample_of xs ≡ map signed ws
samples_are none = refl
samples_are (more {x = x} {w = w} h o os) = ap₂ ◌∷◌ (over_sample x (signed w) o (signed_small w h)) (samples_are os)

no_nan : {xs : List Float} {ws : List ℕ} → AllOver xs ws → any_nan xs ≡ false
no_nan none = refl
no_nan (more {x = x} {w = w} h o os) = rw (over_number x (signed w) o) (no_nan os)

as_many : {xs : List Float} {ws : List ℕ} → AllOver xs ws → length xs ≡ length ws
as_many none = refl
as_many (more h o os) = ap suc (as_many os)

-- ---- the block: two bytes for each sample, which are that sample

length_block : (ws : List ℕ) → length (block_of ws) ≡ 2 * length ws
unfolding block_of
length_block [] = refl
length_block (w ∷ ws) = omega (arith, length_block ws)

two_on : (a b : ℕ) (xs : List ℕ) (at : ℕ) → get_or (a ∷ b ∷ xs) (at + 2) 0 ≡ get_or xs at 0
two_on a b xs at = let e : at + 2 ≡ suc (suc at) = omega arith in ap (λ (n : ℕ). get_or (a ∷ b ∷ xs) n 0) e

samples_on : (a b : ℕ) (xs : List ℕ) (at n : ℕ) → instant_samples (a ∷ b ∷ xs) (at + 2) n ≡ instant_samples xs at n
unfolding instant_samples signed_at
samples_on a b xs at zero = refl
samples_on a b xs at (suc n) =
    let e : at + 2 + 1 ≡ at + 1 + 2 = omega arith in
    ap₂ ◌∷◌ (rw (e, two_on a b xs at, two_on a b xs (at + 1)) refl) (samples_on a b xs (at + 2) n)

block_samples : (ws : List ℕ) → instant_samples (block_of ws) 0 (length ws) ≡ map signed ws
unfolding instant_samples signed_at block_of
block_samples [] = refl
block_samples (w ∷ ws) =
    let e : w % 256 + 256 * (w / 256) ≡ w = omega arith in
    ap₂ ◌∷◌ (ap signed e) (samples_on (w % 256) (w / 256) (block_of ws) 0 (length ws) ∙ block_samples ws)

-- ---- one instant

one_instant : (i : Instant) → (instants (kind_of i) (2 * length (values_in i)) ≡ 1) × (whole_instants (kind_of i) (2 * length (values_in i)) ≡ true)
    × (length (weights (kind_of i)) ≡ length (values_in i))
unfolding instants whole_instants instant_bytes weights
one_instant (kinds.Mono x) = (refl, refl, refl)
one_instant (kinds.Stereo l r) = (refl, refl, refl)
one_instant (kinds.Five f) = (refl, refl, refl)

module _ (i : Instant) (ws : List ℕ) (o : AllOver (values_in i) ws) where
  size : length (block_of ws) ≡ 2 * length (values_in i)
  size = length_block ws ∙ ap (◌*◌ 2) (sym (as_many o))

  same_value : (rule : ℕ) → float_value rule i ≡ instant_value rule (kind_of i) (block_of ws) 0
  unfolding float_value instant_value
  same_value rule = ap (λ (zs : List ℤ). pseudo_absolute (mixed rule (kind_of i) zs))
      (samples_are o ∙ sym (block_samples ws) ∙ ap (instant_samples (block_of ws) 0) (sym ((one_instant i).2 ∙ as_many o)))

  module _ (rule d : ℕ) (f : Fingerprint) (own : kind_of i ≡ f.mix) where
    same_number : instant_number d f i ≡ sound_number d f (length (block_of ws))
    unfolding instant_number sound_number has_nan
    same_number = rw (← own, size, (one_instant i).1, (one_instant i).0, no_nan o, eq-eqb (kind_of i) (kind_of i) refl) refl

    same_heard : step_of d f (float_value rule i) ≡ heard_of rule d f (block_of ws)
    unfolding heard_of values_of values_at after
    same_heard = rw (← own, size, (one_instant i).0, zero-mul (instant_bytes (kind_of i)), same_value rule) refl

-- the same outcome, if fingerprint k itself has it
same_outcome : (s : Session) (k number number' : ℕ) (f f' : Fingerprint) → (k < s.programme.settings.count → (number ≡ number') × (f ≡ f'))
    → heard_with s k (reached s.programme.settings k number) f ≡ heard_with s k (reached s.programme.settings k number') f'
same_outcome s k number number' f f' own = go (is_set s.programme.settings) (leb s.programme.settings.count k) refl
  where
    go : (a b : Bool) → leb s.programme.settings.count k ≡ b → heard_with s k (cond a (cond b 7 number) 1) f ≡ heard_with s k (cond a (cond b 7 number') 1) f'
    go true true e = refl
    go true false e = let p = own (leb-false _ _ e) in ap₂ (heard_with s k) p.0 p.1
    go false b e = refl

same : (s : Session) (k : ℕ) (i : Instant) (ws : List ℕ) → AllOver (values_in i) ws
    → (k < s.programme.settings.count → kind_of i ≡ (get_or s.fingerprints k no_fingerprint).mix) → instant_of s k i ≡ sound_of s k (block_of ws)
unfolding instant_of instanted_number sound_of sounded_number
same s k i ws o own =
    let d : ℕ = interval_of s.programme.settings.rate in
    let rule : ℕ = s.programme.settings.rule in
    let f : Fingerprint = get_or s.fingerprints k no_fingerprint in
    same_outcome s k (instant_number d f i) (sound_number d f (length (block_of ws))) (step_of d f (float_value rule i)) (heard_of rule d f (block_of ws))
    (λ l. (same_number i ws o rule d f (own l), same_heard i ws o rule d f (own l)))

pub as_block : (s : Session) (k : ℕ) (i : Instant) (ws : List ℕ) → AllOver (values_in i) ws
    → (k < s.programme.settings.count → kind_of i ≡ (get_or s.fingerprints k no_fingerprint).mix)
    → (answer_of s (instant k i) ≡ answer_of s (sound k (block_of ws))) × (after_call s (instant k i) ≡ after_call s (sound k (block_of ws)))
unfolding answer_of after_call
as_block s k i ws o own = let e = same s k i ws o own in (ap (λ (x : Sounded). saying x.number) e, ap (λ (x : Sounded). x.session) e)

-- so it does after any calls from an accepted setup, of the mix type that fingerprint k was set up with
pub as_block_after : (u : Setup) → accepted u ≡ true → {es : List Event} {t : Session} → Run (begun u) es t → (k : ℕ) (i : Instant) (ws : List ℕ)
    → AllOver (values_in i) ws → kind_of i ≡ get_or u.mixes k 0
    → (answer_of t (instant k i) ≡ answer_of t (sound k (block_of ws))) × (after_call t (instant k i) ≡ after_call t (sound k (block_of ws)))
as_block_after u a {es} {t} r k i ws o own =
    let h = always u a r in
    as_block t k i ws o
    (λ l. own ∙ sym (voice_at h.voices k (subst (λ (s : Settings). k < s.count) h.settings l)).mix_type)
