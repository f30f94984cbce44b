-- A refusal changes nothing, whatever the session, and its number stands in document 01's row.
use Prim.Native.Nat.{ℕ, suc, ◌+◌, ◌*◌}
use mathlib.Core.Path.{◌≡◌, refl, ap}
use mathlib.Core.Bool.{Bool, true, false, cond, ◌&&◌, ◌||◌, not, false≢true}
use mathlib.Core.List.{List, [], ◌∷◌}
use lib.Dec.{leb, ltb, eqb}
use lib.ListN.{length, get_or, drop}
use lib.Seq.{drop_at}
use borrow.Author.Tests.{eqb-false, ne_eqb}
use Rattle.laws.specs.Calls.{over, room_number, done_with, out_with}
use Rattle.laws.specs.Lists.{is_one_of}
use Rattle.laws.proofs.Tests.{chosen}
use Rattle.rates.specs.Rates.{interval_of}
use Rattle.sampling.specs.Formats.{row_of}
use Rattle.picture.specs.Lines.{monitored, order_number, line_number}
use Rattle.picture.specs.History.{is_waiting, next_line, number_said}
use Rattle.picture.proofs.Answers.{refused_same}
use Rattle.floats.specs.declared.Instant.{Instant}
use Rattle.floats.specs.Instants.{refused_by}
use Rattle.fingerprint.specs.State.{whole_instants, instants}
use Rattle.fingerprint.specs.History.{kept_among}
use Rattle.fingerprint.specs.Paper.{sound_answer, instant_answer}
use Rattle.container.specs.declared.Contents.{Contents}
use Rattle.container.specs.Reading.{Reading}
use Rattle.container.specs.Contents.{empty_contents}
use Rattle.container.specs.Bytes.{encode}
use Rattle.container.proofs.Parts.{part_cases}
use Rattle.container.specs.Reading.{header_number, refusal, id_in, video_in, audio_in, parts_reading, middle, reading}
use Rattle.container.specs.Writing.{write_number, write_done, write_out}
use Rattle.session.specs.declared.Session.{Session}
use Rattle.session.specs.Session.{Begun}
use Rattle.session.specs.Session.{Lined}
use Rattle.session.specs.Session.{Sounded}
use Rattle.session.specs.Packing.{Packed}
use Rattle.session.specs.Session.{is_set, with_picture, setup_number, empty_session, setup_of, line_of, sounded_number, sound_of, instanted_number, instant_of}
use Rattle.session.specs.Packing.{contents_of, pack_number, refused_with, session_after, packed_with, pack_of, pack_out, ready_number}
use Rattle.demands.specs.Calls.{Setup, Call, line, sound, instant, pack, video_restart, audio_restart, Answer, Event, begun, answer_of, after_call}
use Rattle.demands.specs.Paper.{lines, waiting, samples, bits_packed, sounded, contents_said, line_said, sound_said, instant_said, packed_said, said}
use Rattle.demands.specs.Demands.{lent, Untouched, numbers_of, InRow}
use Rattle.demands.proofs.Listed.{Listed}
use Rattle.demands.proofs.Packable.{said_writes}
use Rattle.demands.proofs.Runs.{setup_1}

-- ---- a call that hands out bytes
module _ (number : ℕ) (bytes out : List ℕ) where
  pub nothing_written : (number ≡ 0 → ⊥) → ((done_with number bytes).written ≡ 0) × (out_with number bytes out ≡ out)
  unfolding done_with out_with
  nothing_written n = rw (ne_eqb number 0 n) (refl, refl)

  -- what stands behind the bytes counted stays, refused or not
  pub no_others : drop (done_with number bytes).written (out_with number bytes out) ≡ drop (done_with number bytes).written out
  unfolding done_with out_with over
  no_others = go (eqb number 0)
    where
      go : (t : Bool) → drop (cond t (length bytes) 0) (cond t (over bytes out) out) ≡ drop (cond t (length bytes) 0) out
      go true = drop_at bytes (drop (length bytes) out) (length bytes) refl
      go false = refl

-- ---- the calls on a session
module _ (s : Session) where
  abbrev Refused : ℕ → Type 0
  Refused n = n ≡ 0 → ⊥

  line_same : (n : ℕ) (b : List ℕ) → Refused (line_of s n b).number → (line_of s n b).session ≡ s
  unfolding line_of
  line_same n b = chosen (λ (x : Lined). Refused x.number → x.session ≡ s) (is_set s.programme.settings) _ _
      (λ _ h. ap (with_picture s) (refused_same s.programme.picture s.programme.settings.format n b h))
      (λ _ _. refl)

  abbrev SoundSame : Sounded → Type 0
  SoundSame x = Refused x.number → x.session ≡ s

  sound_same : (k : ℕ) (b : List ℕ) → SoundSame (sound_of s k b)
  unfolding sound_of
  sound_same k b = chosen SoundSame (eqb (sounded_number s k (length b)) 0) _ _ (λ _ h. absurd (h refl)) (λ _ _. refl)

  instant_same : (k : ℕ) (i : Instant) → SoundSame (instant_of s k i)
  unfolding instant_of
  instant_same k i = chosen SoundSame (eqb (instanted_number s k i) 0) _ _ (λ _ h. absurd (h refl)) (λ _ _. refl)

  abbrev PackSame : List ℕ → List ℕ → Packed → Type 0
  PackSame out left x = Refused x.number → (x.session ≡ s) × (x.written ≡ 0) × (left ≡ out)

  -- Write refuses the contents
  unwritten : (c : Contents) (out : List ℕ) → PackSame out (write_out c out) (packed_with s (write_done c (length out)))
  unfolding write_done write_out done_with
  unwritten c out = chosen (PackSame out (out_with (write_number c (length out)) (encode c) out)) (eqb (write_number c (length out)) 0) _ _
      (λ _ h. absurd (h refl))
      (λ e _. (refl, refl, (nothing_written (write_number c (length out)) (encode c) out (eqb-false _ _ e)).1))

  pack_same : (id out : List ℕ) → PackSame out (pack_out s id out) (pack_of s id (length out))
  unfolding pack_of pack_out
  pack_same id out = go (eqb (pack_number s (length id)) 0)
    where
      go : (t : Bool)
          → PackSame out (cond t (write_out (contents_of s id) out) out)
          (cond t (packed_with s (write_done (contents_of s id) (length out))) (refused_with (pack_number s (length id)) s))
      go true = unwritten (contents_of s id) out
      go false = λ _. (refl, refl, refl)

  abbrev Others : List ℕ → List ℕ → Packed → Type 0
  Others out left x = drop x.written left ≡ drop x.written out

  written_others : (c : Contents) (out : List ℕ) → Others out (write_out c out) (packed_with s (write_done c (length out)))
  unfolding write_done write_out done_with
  written_others c out = go (eqb (write_number c (length out)) 0) refl
    where
      n : ℕ
      n = write_number c (length out)

      go : (t : Bool) → eqb n 0 ≡ t
          → Others out (out_with n (encode c) out) (cond t (record { number = 0; written = cond t (length (encode c)) 0; session = session_after s }) (refused_with n s))
      go true e = rw e at (no_others n (encode c) out)
      go false e = (nothing_written n (encode c) out (eqb-false n 0 e)).1

  pub untouched : (c : Call) → ((answer_of s c).number ≡ 0 → ⊥) → Untouched s c
  unfolding answer_of after_call lent
  untouched (line n b) h = record { session = line_same n b h; written = refl; out = refl }
  untouched (sound k b) h = record { session = sound_same k b h; written = refl; out = refl }
  untouched (instant k i) h = record { session = instant_same k i h; written = refl; out = refl }
  untouched (pack id out) h = let r = pack_same id out h in record { session = r.0; written = r.1; out = r.2 }
  untouched video_restart h = absurd (h refl)
  untouched audio_restart h = absurd (h refl)

  -- no byte behind those counted
  pack_others : (id out : List ℕ) → drop (pack_of s id (length out)).written (pack_out s id out) ≡ drop (pack_of s id (length out)).written out
  unfolding pack_of pack_out
  pack_others id out = go (eqb (pack_number s (length id)) 0)
    where
      go : (t : Bool)
          → Others out (cond t (write_out (contents_of s id) out) out)
          (cond t (packed_with s (write_done (contents_of s id) (length out))) (refused_with (pack_number s (length id)) s))
      go true = written_others (contents_of s id) out
      go false = refl

  pub no_others_after : (c : Call) → drop (answer_of s c).written (answer_of s c).out ≡ drop (answer_of s c).written (lent c)
  unfolding answer_of lent
  no_others_after (line n b) = refl
  no_others_after (sound k b) = refl
  no_others_after (instant k i) = refl
  no_others_after (pack id out) = pack_others id out
  no_others_after video_restart = refl
  no_others_after audio_restart = refl

-- ---- Setup and Read container

pub setup_refused : (u : Setup) → ((setup_of u.format u.rate u.rule u.mixes).number ≡ 0 → ⊥)
    → ((setup_of u.format u.rate u.rule u.mixes).number ≡ 1) × (begun u ≡ empty_session)
unfolding begun setup_of
setup_refused u = chosen (λ (x : Begun). (x.number ≡ 0 → ⊥) → (x.number ≡ 1) × (x.session ≡ empty_session)) (eqb (setup_number u.format u.rate u.rule u.mixes) 0) _ _
    (λ _ h. absurd (h refl))
    (λ _ h. (setup_1 u.format u.rate u.rule u.mixes h, refl))

pub reading_refused : (s : List ℕ) → ((reading s).number ≡ 0 → ⊥) → (reading s).contents ≡ empty_contents
unfolding reading parts_reading
reading_refused s =
    let flags : ℕ = get_or s 3 0 in
    let b : List ℕ = middle s in
    chosen P (eqb (header_number s) 0) _ _
    (λ _. part_cases P (id_in flags b) (refusal 25) _ (λ _. refl)
    (λ i _. part_cases P (video_in flags i.used b) (refusal 26) _ (λ _. refl)
    (λ v _. part_cases P (audio_in flags (i.used + v.used) b) (refusal 27) _ (λ _. refl)
    (λ a _. chosen P (eqb (i.used + v.used + a.used) (length b)) _ _ (λ _ h. absurd (h refl)) (λ _ _. refl)))))
    (λ _ _. refl)
  where
    P : Reading → Type 0
    P x = (x.number ≡ 0 → ⊥) → x.contents ≡ empty_contents

-- ---- the numbers that document 01's answers have

module _ (u : Setup) (l : Listed u) (es : List Event) where
  abbrev One : List ℕ → ℕ → Type 0
  One ns n = is_one_of n (0 ∷ ns) ≡ true

  line_number_lem : (f due : ℕ) (ready : Bool) (n len : ℕ) → One (2 ∷ 3 ∷ 4 ∷ 5 ∷ []) (line_number f due ready n len)
  unfolding line_number order_number is_one_of
  line_number_lem f due ready n len =
      chosen P (eqb len (2 * (row_of f).width)) _ _
      (λ _. chosen P (leb 1 n && leb n (row_of f).lines) _ _
      (λ _. chosen P (monitored (row_of f) n && not (eqb n due)) _ _ (λ _. refl) (λ _. chosen P (ready && eqb n (row_of f).vstart1) _ _ (λ _. refl) (λ _. refl)))
      (λ _. refl))
      (λ _. refl)
    where
      P : ℕ → Type 0
      P = One (2 ∷ 3 ∷ 4 ∷ 5 ∷ [])

  sound_number : (k : ℕ) (b : List ℕ) → One (7 ∷ 8 ∷ 9 ∷ []) (sound_said u es k b)
  unfolding sound_said sound_answer is_one_of
  sound_number k b =
      chosen P (leb (length u.mixes) k) _ _ (λ _. refl)
      (λ _. chosen P (whole_instants (get_or u.mixes k 0) (length b)) _ _
      (λ _. chosen P (ltb (256 + bits_packed u.rate (sounded u es)) (kept_among (interval_of u.rate) (instants m (length b) + length (samples u.rule es m k)))) 9 0 (λ _. refl) (λ _. refl))
      (λ _. refl))
    where
      P : ℕ → Type 0
      P = One (7 ∷ 8 ∷ 9 ∷ [])

      m : ℕ
      m = get_or u.mixes k 0

  instant_number : (k : ℕ) (i : Instant) → One (7 ∷ 14 ∷ 9 ∷ []) (instant_said u es k i)
  unfolding instant_said instant_answer is_one_of
  instant_number k i =
      chosen P (leb (length u.mixes) k) _ _ (λ _. refl)
      (λ _. chosen P (refused_by m i) _ _ (λ _. refl)
      (λ _. chosen P (ltb (256 + bits_packed u.rate (sounded u es)) (kept_among (interval_of u.rate) (suc (length (samples u.rule es m k))))) 9 0 (λ _. refl) (λ _. refl)))
    where
      P : ℕ → Type 0
      P = One (7 ∷ 14 ∷ 9 ∷ [])

      m : ℕ
      m = get_or u.mixes k 0

  pack_number_lem : (id out : List ℕ) → One (10 ∷ 11 ∷ 12 ∷ []) (said u es (pack id out)).number
  unfolding said packed_said ready_number write_done write_number done_with room_number is_one_of
  pack_number_lem id out =
      chosen (λ (a : Answer). P a.number) (eqb (ready_number (is_waiting (waiting u.format es)) (length id)) 0) _ _
      (λ _. rw (said_writes u l es id) (chosen P (ltb (length out) (length (encode (contents_said u es id)))) _ _ (λ _. refl) (λ _. refl)))
      (λ _. chosen P (is_waiting (waiting u.format es)) _ _
      (λ _. chosen P (eqb (length id) 0 || eqb (length id) 20) _ _ (λ _. refl) (λ _. refl))
      (λ _. refl))
    where
      P : ℕ → Type 0
      P = One (10 ∷ 11 ∷ 12 ∷ [])

  pub in_row : (c : Call) → InRow es c (said u es c)
  unfolding said line_said number_said numbers_of is_one_of
  in_row (line n b) = line_number_lem u.format (next_line u.format (lines u.format es)) (is_waiting (waiting u.format es)) n (length b)
  in_row (sound k b) = sound_number k b
  in_row (instant k i) = instant_number k i
  in_row (pack id out) = pack_number_lem id out
  in_row video_restart = refl
  in_row audio_restart = refl

-- a number of a row is not 1
pub not_1 : (c : Call) (n : ℕ) → is_one_of n (0 ∷ numbers_of c) ≡ true → n ≡ 1 → ⊥
unfolding is_one_of numbers_of
not_1 (line k b) n e z = false≢true (rw z at e)
not_1 (sound k b) n e z = false≢true (rw z at e)
not_1 (instant k i) n e z = false≢true (rw z at e)
not_1 (pack id out) n e z = false≢true (rw z at e)
not_1 video_restart n e z = false≢true (rw z at e)
not_1 audio_restart n e z = false≢true (rw z at e)
