-- The runs of Story, by rule 1, in which n mono fingerprints each hear a click and silence after it, and black frames are packed; and what any program that gives document
-- 01's numbers has to say with one fingerprint at 24 Hz, in three containers with audio each.
use Prim.Native.Nat.{ℕ, zero, suc, ◌+◌, ◌*◌, ◌/◌, ◌%◌, ◌≤◌, ◌<◌}
use mathlib.Core.Path.{◌≡◌, refl, ap, ap₂, subst, ◌∙◌}
use mathlib.Core.Bool.{Bool, true, false}
use mathlib.Core.List.{List, [], ◌∷◌, ◌++◌}
use native.Mathlib.Omega.{arith}
use native.Mathlib.Nat.{not-suc-le-zero}
use lib.Dec.{eqb}
use lib.IntN.{pos}
use lib.Ieee.{fin, is_nan}
use lib.ListN.{length, get_or, replicate, length-replicate, get_or-replicate}
use borrow.Author.Tests.{eqb-true, eqb-false, eq-eqb, ne_eqb, le-leb}
use Rattle.laws.proofs.Bytes.{bytes_nil}
use Rattle.rates.specs.Rates.{rate_listed, interval_of, pairs_with}
use Rattle.rates.specs.Mixes.{mix_listed}
use Rattle.rates.specs.Cadence.{cadence, cadences}
use Rattle.sampling.specs.Formats.{row_of}
use Rattle.sampling.specs.Samples.{pixels}
use Rattle.picture.specs.History.{Waiting, no_frame, a_frame, is_waiting, fields, frame_shows}
use Rattle.floats.specs.declared.Instant.{Instant}
use Rattle.floats.specs.declared.Instant.TheVariants.{Mono}
use Rattle.floats.specs.Instants.{has_nan}
use Rattle.fingerprint.specs.State.{values_of}
use Rattle.fingerprint.specs.History.{kept_among, bit_in}
use Rattle.fingerprint.specs.Paper.{sound_answer, instant_answer, held_answer, Right}
use Rattle.container.specs.declared.Print.{Print}
use Rattle.container.specs.Contents.{blank_print}
use Rattle.session.specs.Fingerprints.{all_listed}
use Rattle.session.specs.Session.{rule_listed, setup_number}
use Rattle.demands.specs.Calls.{Setup, Call, sound, instant, pack}
use Rattle.demands.specs.Paper.{samples, bytes_due, bits_packed, every_holds, audio_after, sounded, instant_said, said, accepted, Program, transcript}
use Rattle.demands.specs.Demands.{Every, read_again, PrintRight, BitsRight, Demand3}
use Rattle.demands.specs.Programs.{Speaks}
use Rattle.demands.proofs.Fade.{click, silence, faded, click_values, all_values, kept_120, click_taken, silence_taken, far_above, far_below}
use Rattle.demands.proofs.Spoken.{some_byte}
use Rattle.demands.proofs.Story.{hd, Follows, room, rows, nothing, hears, T, At, start, number_is, sound_0, sound_at, packs, audio_is, pack_at, frame_at}

-- a black line
unfoldable pub dark : List ℕ
dark = replicate 2560 0

pub dark_length : length dark ≡ 2560
unfolding dark
dark_length = length-replicate {A = ℕ} 2560 0

-- ---- n fingerprints, the samples of each, and the calls up to the first, second and third Pack

abbrev pub monos : ℕ → List ℕ
monos n = replicate n 1

unfoldable pub opening : ℕ → List Call
opening zero = []
opening (suc n) = sound n silence ∷ sound n click ∷ opening n

unfoldable pub played : ℕ → ℕ → ℕ → List ℕ
played zero = nothing
played (suc n) = hears 1 n silence (hears 1 n click (played n))

unfoldable pub first : ℕ → List Call
first n = rows dark 16 (opening n)

unfoldable pub second : ℕ → List Call
second n = rows dark 16 (pack [] room ∷ first n)

unfoldable pub third : ℕ → List Call
third n = rows dark 16 (pack [] room ∷ second n)

played_not : (n mix k : ℕ) → n ≤ k → played n mix k ≡ []
unfolding played hears
played_not zero mix k l = refl
played_not (suc n) mix k l = rw (ne_eqb n k (omega arith)) (played_not n mix k (omega arith))

hears_own : (j : ℕ) (b : List ℕ) (h : ℕ → ℕ → List ℕ) → hears 1 j b h 1 j ≡ values_of 1 1 b ++ h 1 j
unfolding hears
hears_own j b h = rw (eq-eqb j j refl) refl

clicked : (n : ℕ) → hears 1 n click (played n) 1 n ≡ 32767 ∷ 0 ∷ []
clicked n = hears_own n click (played n) ∙ ap₂ (λ (x y : List ℕ). x ++ y) click_values (played_not n 1 n (omega arith))

played_last : (n : ℕ) → played (suc n) 1 n ≡ faded 5998
unfolding played
played_last n = hears_own n silence (hears 1 n click (played n)) ∙ (ap (λ (x : List ℕ). values_of 1 1 silence ++ x) (clicked n) ∙ all_values)

played_at : (n k : ℕ) → k < n → played n 1 k ≡ faded 5998
unfolding played hears
played_at zero k l = absurd (not-suc-le-zero l)
played_at (suc n) k l = go (eqb n k) refl (played_at n k)
  where
    go : (t : Bool) → eqb n k ≡ t → (k < n → played n 1 k ≡ faded 5998) → played (suc n) 1 k ≡ faded 5998
    go true e before = subst (λ (x : ℕ). played (suc n) 1 x ≡ faded 5998) (eqb-true n k e) (played_last n)
    go false e before = let z = eqb-false n k e in rw e (before (omega arith))

-- 120 bits are held of each
all_held : (n taken due : ℕ) → taken + 8 * due ≤ 120 → every_holds 50 taken due (played n) 0 (monos n) ≡ true
unfolding every_holds held_answer
all_held n taken due fit = go n 0 (omega arith)
  where
    go : (m k : ℕ) → k + m ≤ n → every_holds 50 taken due (played n) k (monos m) ≡ true
    go zero k l = refl
    go (suc m) k l = rw (played_at n k (omega arith), kept_120, le-leb (taken + 8 * due) 120 fit) (go m (suc k) (omega arith))

-- D is 50, and the bits of q containers and of the next are among the 120
pub record Spans (rate q : ℕ) : Type 0 where
  pub fifty : interval_of rate ≡ 50
  pub fit : bits_packed rate q + 8 * bytes_due rate q ≤ 120

abbrev pub line16 : List (List ℕ)
line16 = replicate 16 (pixels (row_of 2) dark)

module _ (n : ℕ) {rate : ℕ} {p : Program} (g : Follows 1 rate (monos n) p) where
  opening_at : interval_of rate ≡ 50 → (j : ℕ) → j ≤ n → At g (opening j) [] no_frame (played j) 0 0
  unfolding opening played bits_packed
  opening_at d zero l = start g
  opening_at d (suc j) l = sound_at g (sound_at g (opening_at d j (omega arith)) j here click one) j here silence two
    where
      here : j < length (monos n)
      here = rw (length-replicate {A = ℕ} n 1) l

      one : sound_answer (get_or (monos n) j 0) (interval_of rate) (played j (get_or (monos n) j 0) j) (bits_packed rate 0) click ≡ 0
      one = rw (get_or-replicate {A = ℕ} n j 1 0 l, d, played_not j 1 j (omega arith)) click_taken

      two : sound_answer (get_or (monos n) j 0) (interval_of rate) (hears 1 j click (played j) (get_or (monos n) j 0) j) (bits_packed rate 0) silence ≡ 0
      two = rw (get_or-replicate {A = ℕ} n j 1 0 l, d, clicked j) silence_taken

  pub at_first : Spans rate 0 → At g (first n) (line16 ++ []) (a_frame (frame_shows 2 (fields (line16 ++ [])))) (played n) 0 0
  unfolding first
  at_first s = frame_at g (opening_at s.fifty n (omega arith)) refl dark dark_length

  module _ {cs : List Call} {ls : List (List ℕ)} {w : Waiting} {m q : ℕ} (o : At g cs ls w (played n) m q) (s : Spans rate q) where
    pub holds : every_holds (interval_of rate) (bits_packed rate q) (bytes_due rate q) (played n) 0 (monos n) ≡ true
    holds = rw s.fifty (all_held n (bits_packed rate q) (bytes_due rate q) s.fit)

    pub has_audio : audio_after (hd 1 rate (monos n)) (sounded (hd 1 rate (monos n)) (T g cs)) (T g cs) ≡ true
    has_audio = audio_is g o true holds

    pub next_frame : is_waiting w ≡ true → length ls % 16 ≡ 0
        → At g (rows dark 16 (pack [] room ∷ cs)) (line16 ++ ls) (a_frame (frame_shows 2 (fields (line16 ++ ls)))) (played n) (m + 1) (suc q)
    next_frame e l = frame_at g (pack_at g o e true holds) l dark dark_length

  pub at_second : Spans rate 0 → At g (second n) (line16 ++ (line16 ++ [])) (a_frame (frame_shows 2 (fields (line16 ++ (line16 ++ []))))) (played n) 1 1
  unfolding second is_waiting
  at_second s = next_frame (at_first s) s refl refl

-- ---- 24 Hz: one fingerprint, and audio in the first, second and third container

abbrev pub u : Setup
u = hd 1 3 (monos 1)

pub is_accepted : accepted u ≡ true
unfolding accepted setup_number rule_listed pairs_with rate_listed all_listed mix_listed
is_accepted = refl

pub spans : (q : ℕ) → q < 3 → Spans 3 q
unfolding interval_of bits_packed bytes_due cadence cadences
spans zero l = record { fifty = refl; fit = omega arith }
spans (suc zero) l = record { fifty = refl; fit = omega arith }
spans (suc (suc zero)) l = record { fifty = refl; fit = omega arith }
spans (suc (suc (suc n))) l = absurd (let z : ⊥ = omega arith in z)

-- an instant in floating point: 0.0
abbrev pub still : Instant
still = Mono (fin false 0 (pos 0))

module _ {p : Program} (g : Follows 1 3 (monos 1) p) where
  pub first_block : (p u (T g []) (sound 0 click)).number ≡ 0
  unfolding interval_of bits_packed
  first_block = sound_0 g (start g) 0 (omega arith) click click_taken

  pub first_instant : (p u (T g []) (instant 0 still)).number ≡ 0
  unfolding transcript said instant_said instant_answer has_nan is_nan samples sounded bits_packed interval_of kept_among
  first_instant = number_is g [] (instant 0 still)

  pub at_1 : At g (first 1) (line16 ++ []) (a_frame (frame_shows 2 (fields (line16 ++ [])))) (played 1) 0 0
  at_1 = at_first 1 g (spans 0 (omega arith))

  pub at_2 : At g (second 1) (line16 ++ (line16 ++ [])) (a_frame (frame_shows 2 (fields (line16 ++ (line16 ++ []))))) (played 1) 1 1
  at_2 = at_second 1 g (spans 0 (omega arith))

  pub at_3 : At g (third 1) (line16 ++ (line16 ++ (line16 ++ []))) (a_frame (frame_shows 2 (fields (line16 ++ (line16 ++ (line16 ++ [])))))) (played 1) 2 2
  unfolding third is_waiting
  at_3 = next_frame 1 g at_2 (spans 1 (omega arith)) refl refl

  pub packs_1 : (p u (T g (first 1)) (pack [] room)).number ≡ 0
  unfolding is_waiting
  packs_1 = packs g at_1 refl

  pub packs_2 : (p u (T g (second 1)) (pack [] room)).number ≡ 0
  unfolding is_waiting
  packs_2 = packs g at_2 refl

  pub packs_3 : (p u (T g (third 1)) (pack [] room)).number ≡ 0
  unfolding is_waiting
  packs_3 = packs g at_3 refl

  pub audio_1 : audio_after u (sounded u (T g (first 1))) (T g (first 1)) ≡ true
  audio_1 = has_audio 1 g at_1 (spans 0 (omega arith))

  pub audio_3 : audio_after u (sounded u (T g (third 1))) (T g (third 1)) ≡ true
  audio_3 = has_audio 1 g at_3 (spans 2 (omega arith))

  -- what demand 3 says of a fingerprint whose bytes are xs
  module _ {cs : List Call} {ls : List (List ℕ)} {w : Waiting} {m q : ℕ} (o : At g cs ls w (played 1) m q) (ready : is_waiting w ≡ true) (d : Demand3 p)
      (xs : ℕ → ℕ) (s : Speaks xs (read_again (p u (T g cs) (pack [] room))).contents) where
    abbrev print : Print
    print = get_or (read_again (p u (T g cs) (pack [] room))).contents.prints 0 blank_print

    size : 0 < print.size
    unfolding read_again
    size = some_byte _ s.some

    right : PrintRight u (T g cs) print
    unfolding transcript Every BitsRight
    right = (d u is_accepted (pack [] room ∷ cs)).0 bytes_nil (packs g o ready) 0 s.some

    -- no other fingerprint may speak: none was heard
    own : print.id ≡ 0
    own = go print.id refl
      where
        go : (k : ℕ) → print.id ≡ k → k ≡ 0
        go zero e = refl
        go (suc k) e = absurd (not-suc-le-zero (rw (e, o.heard, played_not 1 0 (suc k) (omega arith)) at (right 0 (omega (arith, size))).0))

    bit_1 : Right (faded 5998) ((bits_packed 3 q + 1) * 50) (xs 0 / 2 % 2)
    unfolding interval_of bit_in
    bit_1 = rw (own, o.heard, o.spoken, played_at 1 0 (omega arith), s.bytes 0 size) at (right 1 (omega (arith, size))).1

  -- bit 1 has to be 1 in the first container and 0 in the third: no byte is right in both
  pub never_both : Demand3 p → (xs : ℕ → ℕ) → Speaks xs (read_again (p u (T g (first 1)) (pack [] room))).contents
      → Speaks xs (read_again (p u (T g (third 1)) (pack [] room))).contents → ⊥
  unfolding is_waiting bits_packed bytes_due cadence cadences
  never_both d xs a b =
      let one = (bit_1 at_1 refl d xs a).one far_above in
      let zero = (bit_1 at_3 refl d xs b).zero far_below in
      omega arith
