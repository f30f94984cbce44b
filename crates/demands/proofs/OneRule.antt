-- A run that tells the rules apart: 720p at 59.94 Hz with one stereo fingerprint, which hears one instant of L = R = -2 in silence. Rule 1 mixes it to -2 and
-- rule 2 to -1, so that a(1) is 1 or 0, and from then on the bits are 1 or 0: the first container has the byte FE or 00.
use Prim.Native.Nat.{ℕ, ◌+◌}
use mathlib.Core.Path.{◌≡◌, refl, sym, ap, ap₂, ◌∙◌}
use mathlib.Core.Bool.{true}
use mathlib.Core.List.{List, [], ◌∷◌, ◌++◌}
use native.Mathlib.Omega.{arith}
use lib.ListN.{length, get_or, replicate, length-append, length-replicate}
use Rattle.laws.specs.Calls.{over}
use Rattle.laws.specs.Lists.{is_one_of}
use Rattle.rates.specs.Rates.{rate_listed, interval_of, pairs_with}
use Rattle.rates.specs.Mixes.{mix_listed}
use Rattle.rates.specs.Cadence.{cadence, cadences, frames, from}
use Rattle.picture.specs.History.{fields, frame_shows, a_frame, is_waiting}
use Rattle.sound.specs.Mix.{signed, signed_at, instant_samples, weights, divisor, weighted, floor, towards_zero, quotient, mixed, pseudo_absolute, instant_bytes, instant_value}
use Rattle.sound.specs.Filter.{filter_next, filtered, bit_of}
use Rattle.fingerprint.specs.State.{values_at, instants, values_of, whole_instants}
use Rattle.fingerprint.specs.History.{up_to, bit_at, kept_among, kept_bits, bits_from, from_bits, bytes_from}
use Rattle.fingerprint.proofs.Counts.{kept_count}
use Rattle.fingerprint.specs.Paper.{sound_answer, held_answer}
use Rattle.container.specs.declared.Contents.{Contents}
use Rattle.container.specs.Bytes.{id_bytes, video_bytes, print_bytes, run_bytes, audio_bytes, part_bytes, flag_byte, front_bytes, encode}
use Rattle.session.specs.Fingerprints.{all_listed, with_blanks}
use Rattle.session.specs.Session.{rule_listed, setup_number}
use Rattle.demands.specs.Calls.{Setup, Call, sound, pack, Answer}
use Rattle.demands.specs.Paper.{bytes_due, bits_packed, every_holds, prints_said, accepted, Program, transcript}
use Rattle.demands.specs.Demands.{Demand2}
use Rattle.demands.specs.Rules.{by_rule}
use Rattle.demands.specs.Programs.{IgnoresRule}
use Rattle.demands.proofs.Fade.{silent_values}
use Rattle.demands.proofs.Story.{hd, Follows, room, rows, nothing, hears, packed_as, At, start, sound_at, pack_says, contents_at, frame_at}
use Rattle.demands.proofs.Shots.{dark, dark_length, line16}
use Rattle.demands.proofs.Invented.{no_video_1}
use Rattle.demands.proofs.Against.{as_said, follows}

-- silence and -2, -2; then 363 instants of silence
unfoldable murmur : List ℕ
murmur = 0x00 ∷ 0x00 ∷ 0x00 ∷ 0x00 ∷ 0xFE ∷ 0xFF ∷ 0xFE ∷ 0xFF ∷ []

unfoldable hush : List ℕ
hush = replicate 1452 0

by_1 : values_of 1 2 murmur ≡ 1 ∷ 0 ∷ []
unfolding murmur values_of values_at instants instant_bytes instant_value mixed quotient floor weighted weights divisor instant_samples signed_at signed pseudo_absolute
by_1 = refl

by_2 : values_of 2 2 murmur ≡ 0 ∷ 0 ∷ []
unfolding murmur values_of values_at instants instant_bytes instant_value mixed quotient towards_zero weighted weights divisor instant_samples signed_at signed pseudo_absolute
by_2 = refl

hush_values : (rule : ℕ) → values_of rule 2 hush ≡ replicate 363 0
unfolding hush values_of instants instant_bytes weights
hush_values rule = silent_values rule 2 1452 0 363

-- the samples of the fingerprint, where the instant becomes x
unfoldable heard : ℕ → List ℕ
heard x = replicate 363 0 ++ (x ∷ 0 ∷ [])

murmur_taken : sound_answer 2 52 [] 0 murmur ≡ 0
unfolding murmur sound_answer whole_instants instant_bytes weights kept_among instants
murmur_taken = refl

kept_365 : kept_among 52 365 ≡ 8
kept_365 = kept_count 52 (omega arith) 365 8 (omega arith, omega arith)

hush_length : length hush ≡ 1452
unfolding hush
hush_length = length-replicate {A = ℕ} 1452 0

hush_taken : (x : ℕ) → sound_answer 2 52 (x ∷ 0 ∷ []) 0 hush ≡ 0
unfolding sound_answer whole_instants instants instant_bytes weights
hush_taken x = rw (hush_length, kept_365) refl

kept_8 : (x : ℕ) → kept_bits 52 (heard x) ≡ 8
unfolding kept_bits heard
kept_8 x = ap (kept_among 52) (length-append (replicate 363 0) (x ∷ 0 ∷ []) ∙ ap (λ (n : ℕ). n + 2) (length-replicate {A = ℕ} 363 0)) ∙ kept_365

abbrev run : List Call
run = rows dark 16 (sound 0 hush ∷ sound 0 murmur ∷ [])

module _ (rule x : ℕ) (e : values_of rule 2 murmur ≡ x ∷ 0 ∷ []) (a : accepted (hd rule 10 (2 ∷ [])) ≡ true) (p : Program) (d : Demand2 p) where
  abbrev u : Setup
  u = hd rule 10 (2 ∷ [])

  abbrev g : Follows rule 10 (2 ∷ []) p
  g = follows p d a

  h : ℕ → ℕ → List ℕ
  h = hears rule 0 hush (hears rule 0 murmur nothing)

  h_is : h 2 0 ≡ heard x
  unfolding h hears heard
  h_is = ap₂ (λ (ys zs : List ℕ). ys ++ (zs ++ [])) (hush_values rule) e

  ready : At g run (line16 ++ []) (a_frame (frame_shows 2 (fields (line16 ++ [])))) h 0 0
  unfolding h interval_of bits_packed hears
  ready = frame_at g (sound_at g (sound_at g (start g) 0 (omega arith) murmur murmur_taken) 0 (omega arith) hush two) refl dark dark_length
    where
      two : sound_answer 2 52 (values_of rule 2 murmur ++ []) 0 hush ≡ 0
      two = rw e (hush_taken x)

  holds : every_holds (interval_of 10) (bits_packed 10 0) (bytes_due 10 0) h 0 (2 ∷ []) ≡ true
  unfolding every_holds held_answer interval_of bits_packed bytes_due cadence cadences frames from is_one_of
  holds = rw (h_is, kept_8 x) refl

  -- the only byte of the first container's only fingerprint
  byte_is : get_or (p u (transcript p u run) (pack [] room)).out 7 0 ≡ from_bits (bits_from 52 (heard x) 0) 8
  unfolding over encode front_bytes flag_byte part_bytes id_bytes video_bytes audio_bytes run_bytes print_bytes with_blanks prints_said bytes_due cadence cadences frames from is_one_of bytes_from interval_of bits_packed is_waiting
  byte_is =
      let c = contents_at g ready true holds in
      ap (λ (y : Answer). get_or y.out 7 0) (as_said p d u a run (pack [] room) ∙ (pack_says g ready refl ∙ ap (λ (y : Contents). packed_as (encode y)) c))
      ∙ rw (no_video_1, h_is) refl

accepted_1 : accepted (hd 1 10 (2 ∷ [])) ≡ true
unfolding accepted setup_number rule_listed pairs_with rate_listed all_listed mix_listed
accepted_1 = refl

accepted_2 : accepted (hd 2 10 (2 ∷ [])) ≡ true
unfolding accepted setup_number rule_listed pairs_with rate_listed all_listed mix_listed
accepted_2 = refl

byte_FE : from_bits (bits_from 52 (heard 1) 0) 8 ≡ 0xFE
unfolding from_bits bits_from bit_at up_to bit_of filtered filter_next heard
byte_FE = refl

byte_00 : from_bits (bits_from 52 (heard 0) 0) 8 ≡ 0x00
unfolding from_bits bits_from bit_at up_to bit_of filtered filter_next heard
byte_00 = refl

pub ignores : (p : Program) → IgnoresRule p → Demand2 p → ⊥
unfolding by_rule
ignores p i d =
    let u = hd 1 10 (2 ∷ []) in
    let z : ◌≡◌ {A = ℕ} 0x00 0xFE =
    sym (byte_is 2 0 by_2 accepted_2 p d ∙ byte_00) ∙ (ap (λ (a : Answer). get_or a.out 7 0) (i u run (pack [] room)) ∙ (byte_is 1 1 by_1 accepted_1 p d ∙ byte_FE)) in
    omega arith
