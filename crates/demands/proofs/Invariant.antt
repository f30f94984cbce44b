-- After any events a session holds what their history says, and each call answers what document 01 says: one event more.
use Prim.Native.Nat.{ℕ, suc, ◌%◌, ◌≤◌}
use mathlib.Core.Path.{◌≡◌, refl, sym, ap, subst, ◌∙◌}
use mathlib.Core.Bool.{Bool, true, false, cond, ◌&&◌, true≢false}
use mathlib.Core.List.{List, [], ◌∷◌, ◌++◌}
use native.Mathlib.Omega.{arith}
use native.Mathlib.Nat.{zero-add, zero-mod, mod-lt}
use native.Mathlib.Numerals.{add-one}
use lib.Dec.{leb, eqb}
use lib.ListN.{length, get_or, set}
use borrow.Author.Tests.{leb-false, eqb-true, eq-eqb}
use Rattle.laws.specs.Calls.{done_with}
use Rattle.laws.proofs.Tests.{chosen}
use Rattle.rates.specs.Rates.{interval_of}
use Rattle.rates.specs.Cadence.{cadence, place_after}
use Rattle.rates.proofs.Table.{due_1_to_5, place_after_lem}
use Rattle.picture.specs.declared.Told.TheVariants.{Open}
use Rattle.picture.specs.declared.Picture.{Picture}
use Rattle.picture.specs.History.{is_waiting}
use Rattle.picture.proofs.Steps as picture
use Rattle.fingerprint.specs.declared.Fingerprint.{Fingerprint}
use Rattle.floats.specs.declared.Instant.{Instant}
use Rattle.floats.specs.Instants.{float_value}
use Rattle.fingerprint.specs.State.{values_of, step_of, heard_of, sound_number, instant_number}
use Rattle.fingerprint.specs.History as fingerprint
use Rattle.fingerprint.proofs.History.{holds_sound, holds_instant}
use Rattle.fingerprint.proofs.Answers.{sound_paper, instant_paper}
use Rattle.container.specs.Writing.{write_number, write_done}
use Rattle.session.specs.declared.Settings.{Settings}
use Rattle.session.specs.declared.Session.{Session}
use Rattle.session.specs.Session.{Begun}
use Rattle.session.specs.Session.{Lined}
use Rattle.session.specs.Session.{Sounded}
use Rattle.session.specs.Packing.{Packed}
use Rattle.session.specs.Fingerprints.{each, fresh_fingerprints, shed, prints_of}
use Rattle.session.specs.Session.{is_set, no_fingerprint, reached, heard_with, line_of, sounded_number, sound_of, instanted_number, instant_of, video_restarted, audio_restarted, setup_number, set_up_with, setup_of}
use Rattle.session.specs.Packing.{due_of, has_audio, spoken_of, contents_of, counter_after, place_from, session_after, pack_number, refused_with, packed_with, pack_of, pack_out, ready_number}
use Rattle.demands.specs.Calls.{Setup, Call, line, sound, instant, pack, video_restart, audio_restart, Answer, saying, Event, begun, answer_of, after_call}
use Rattle.demands.specs.Paper.{lines_at, lines, waiting_at, waiting, samples_at, samples, made_at, made, bytes_due, bits_packed, audio_after, sounded_at, sounded, audio_said, contents_said, line_said, sound_said, instant_said, packed_said, said, accepted}
use Rattle.demands.proofs.Listed.{Listed, listed, settings_of, is_set_lem, listed_format, interval_some, cadence_some}
use Rattle.demands.proofs.Voices.{Voices, fresh_voices, voice_at, same_voices, heard_voices, cleared_voices, all_hold_lem, shed_voices, prints_said_lem}

-- What holds of a session t that was set up with u, after the events es: five parts, each by itself.
pub record Holds (u : Setup) (es : List Event) (t : Session) : Type 0 where
  pub settings : t.programme.settings ≡ settings_of u
  pub picture : picture.Holds u.format (lines u.format es) (waiting u.format es) t.programme.picture
  pub voices : Voices (interval_of u.rate) (bits_packed u.rate (sounded u es)) (samples u.rule es) 0 u.mixes t.fingerprints
  pub counter : t.programme.counter ≡ made es % 256
  pub place : t.programme.place ≡ sounded u es % length (cadence u.rate)

-- the answer is document 01's, and what held holds of the history with the event
pub record Right (u : Setup) (es : List Event) (t : Session) (c : Call) : Type 0 where
  pub answer : answer_of t c ≡ said u es c
  pub holds : Holds u (record { call = c; answer = answer_of t c } ∷ es) (after_call t c)

-- a session by its parts
abbrev by_parts : Setup → Picture → ℕ → ℕ → List Fingerprint → Session
by_parts u v n q fs = record { programme = record { settings = settings_of u; picture = v; counter = n; place = q }; fingerprints = fs }

module _ (u : Setup) (l : Listed u) (es : List Event) (v : Picture) (n q : ℕ) (fs : List Fingerprint) (o : Holds u es (by_parts u v n q fs)) where
  abbrev s : Session
  s = by_parts u v n q fs

  abbrev f : ℕ
  f = u.format

  abbrev p : ℕ
  p = sounded u es

  abbrev d : ℕ
  d = interval_of u.rate

  abbrev LineRight : ℕ → List ℕ → Lined → Type 0
  LineRight k b x =
      (record { number = x.number; told = x.told; written = 0; out = [] } ≡ said u es (line k b))
      × Holds u (record { call = line k b; answer = record { number = x.number; told = x.told; written = 0; out = [] } } ∷ es) x.session

  line_right : (k : ℕ) (b : List ℕ) → Right u es s (line k b)
  unfolding answer_of after_call said line_of line_said lines lines_at waiting waiting_at samples samples_at made made_at sounded sounded_at
  line_right k b =
      let r = picture.line_right f (listed_format u l) (lines f es) (waiting f es) v o.picture k b in
      let x : LineRight k b (line_of s k b) = chosen (LineRight k b) (is_set (settings_of u)) _ _
      (λ _. (rw (r.number, r.told) refl, record { settings = refl; picture = r.holds; voices = o.voices; counter = o.counter; place = o.place }))
      (λ e. absurd (true≢false (sym (is_set_lem u l) ∙ e))) in
      record { answer = x.0; holds = x.1 }

  video_restart_right : Right u es s video_restart
  unfolding answer_of after_call said video_restarted lines lines_at waiting waiting_at samples samples_at made made_at sounded sounded_at
  video_restart_right = record {
    answer = refl;
    holds = rw (is_set_lem u l) (record {
      settings = refl;
      picture = picture.restart_holds f (lines f es) (waiting f es) v o.picture;
      voices = o.voices;
      counter = o.counter;
      place = o.place;
    });
  }

  audio_restart_right : Right u es s audio_restart
  unfolding answer_of after_call said audio_restarted lines lines_at waiting waiting_at samples samples_at made made_at sounded sounded_at bits_packed
  audio_restart_right = record {
    answer = refl;
    holds = rw (is_set_lem u l) (record {
      settings = refl;
      picture = o.picture;
      voices = cleared_voices o.voices;
      counter = o.counter;
      place = sym (zero-mod (length (cadence u.rate)));
    });
  }

  -- ---- Sound, in a block or in floating point: fingerprint k hears it, if it is accepted

  abbrev gone : ℕ
  gone = bits_packed u.rate p

  abbrev voice : ℕ → Fingerprint
  voice k = get_or fs k no_fingerprint

  -- the number, from what fingerprint k itself says
  reached_is : (k : ℕ) (number said : ℕ) → (fingerprint.Holds (get_or u.mixes k 0) d (samples u.rule es (get_or u.mixes k 0) k) gone (voice k) → number ≡ said)
      → reached (settings_of u) k number ≡ cond (leb (length u.mixes) k) 7 said
  reached_is k number said own = rw (is_set_lem u l) (go (leb (length u.mixes) k) refl)
    where
      go : (t : Bool) → leb (length u.mixes) k ≡ t → cond t 7 number ≡ cond t 7 said
      go true e = refl
      go false e = own (rw (zero-add k) at (voice_at o.voices k (leb-false _ _ e)))

  reached_0 : (k number : ℕ) → reached (settings_of u) k number ≡ 0 → number ≡ 0
  reached_0 k number e = go (leb (length u.mixes) k) (rw (is_set_lem u l) at e)
    where
      go : (t : Bool) → cond t 7 number ≡ 0 → number ≡ 0
      go true z = absurd (let no : ⊥ = omega arith in no)
      go false z = z

  -- a call that leaves every history as it was, but that x m is heard by fingerprint k, of mix type m, if it is accepted
  record Heard (c : Call) (k : ℕ) (x : ℕ → List ℕ) (a : Answer) : Type 0 where
    lines_same : lines f (record { call = c; answer = a } ∷ es) ≡ lines f es
    waiting_same : waiting f (record { call = c; answer = a } ∷ es) ≡ waiting f es
    made_same : made (record { call = c; answer = a } ∷ es) ≡ made es
    sounded_same : sounded u (record { call = c; answer = a } ∷ es) ≡ p
    heard : (m j : ℕ) → cond (eqb a.number 0 && eqb k j) (x m ++ samples u.rule es m j) (samples u.rule es m j) ≡ samples u.rule (record { call = c; answer = a } ∷ es) m j

  abbrev SoundRight : Call → ℕ → Sounded → Type 0
  SoundRight c said x = (x.number ≡ said) × Holds u (record { call = c; answer = saying x.number } ∷ es) x.session

  module _ (c : Call) (k : ℕ) (x : ℕ → List ℕ) (h : (a : Answer) → Heard c k x a) where
    hears : (a : Answer) (gs : List Fingerprint) → Voices d gone (λ m j. cond (eqb a.number 0 && eqb k j) (x m ++ samples u.rule es m j) (samples u.rule es m j)) 0 u.mixes gs
        → Holds u (record { call = c; answer = a } ∷ es) (by_parts u v n q gs)
    hears a gs w =
        let y = h a in
        record {
          settings = refl;
          picture = rw (y.lines_same, y.waiting_same) o.picture;
          voices = rw y.sounded_same (same_voices (λ m j _. y.heard m j) w);
          counter = rw y.made_same o.counter;
          place = rw y.sounded_same o.place;
        }

    heard_right : (number said : ℕ) (g : Fingerprint) → number ≡ said
        → (number ≡ 0 → (m : ℕ) (y : List ℕ) → fingerprint.Holds m d y gone (voice k) → fingerprint.Holds m d (x m ++ y) gone g)
        → SoundRight c said (heard_with s k number g)
    heard_right number said g e own = chosen (SoundRight c said) (eqb number 0) _ _
        (λ z.
        let y = eqb-true number 0 z in
        (sym y ∙ e, hears (saying 0) (set fs k g) (heard_voices x k g o.voices k (omega arith) (own y))))
        (λ z. (e, hears (saying number) fs (same_voices (λ m j _. rw z refl) o.voices)))

  sound_right : (k : ℕ) (b : List ℕ) → Right u es s (sound k b)
  unfolding answer_of after_call said sound_of sounded_number sound_said lines lines_at waiting waiting_at samples samples_at made made_at sounded sounded_at
  sound_right k b =
      let only : (a : Answer) → Heard (sound k b) k (λ m. values_of u.rule m b) a =
      λ a. record { lines_same = refl; waiting_same = refl; made_same = refl; sounded_same = refl; heard = λ m j. refl } in
      let number = reached_is k (sound_number d (voice k) (length b)) _ (λ w. sound_paper _ d _ gone (voice k) w b) in
      let r = heard_right (sound k b) k (λ m. values_of u.rule m b) only _ _ (heard_of u.rule d (voice k) b) number
      (λ z m y w. holds_sound m d y gone (voice k) w u.rule b true (eq-eqb _ _ (reached_0 k _ z))) in
      record { answer = ap saying r.0; holds = r.1 }

  instant_right : (k : ℕ) (i : Instant) → Right u es s (instant k i)
  unfolding answer_of after_call said instant_of instanted_number instant_said lines lines_at waiting waiting_at samples samples_at made made_at sounded sounded_at
  instant_right k i =
      let only : (a : Answer) → Heard (instant k i) k (λ m. float_value u.rule i ∷ []) a =
      λ a. record { lines_same = refl; waiting_same = refl; made_same = refl; sounded_same = refl; heard = λ m j. refl } in
      let number = reached_is k (instant_number d (voice k) i) _ (λ w. instant_paper _ d _ gone (voice k) w i) in
      let r = heard_right (instant k i) k (λ m. float_value u.rule i ∷ []) only _ _ (step_of d (voice k) (float_value u.rule i)) number
      (λ z m y w. holds_instant m d y gone (voice k) w u.rule i (reached_0 k _ z)) in
      record { answer = ap saying r.0; holds = r.1 }

  -- ---- Pack

  due_is : due_of s.programme ≡ bytes_due u.rate p
  unfolding due_of bytes_due
  due_is = rw o.place refl

  due_5 : bytes_due u.rate p ≤ 5
  unfolding bytes_due
  due_5 = (due_1_to_5 u.rate (p % length (cadence u.rate)) (mod-lt p (cadence_some u l))).1

  audio_is : has_audio s ≡ audio_after u p es
  unfolding has_audio audio_after
  audio_is = rw due_is (all_hold_lem (bytes_due u.rate p) o.voices)

  -- with audio, and without
  spoken_is : (t : Bool) → audio_after u p es ≡ t → spoken_of s ≡ cond t (length u.mixes) 0
  unfolding spoken_of
  spoken_is t e = rw (audio_is, e) refl

  prints_are : (t : Bool) → audio_after u p es ≡ t
      → prints_of (due_of s.programme) 0 (cond t (length u.mixes) 0) fs ≡ cond t (audio_said u p es) []
  unfolding audio_after audio_said prints_of
  prints_are true e = rw due_is (prints_said_lem (bytes_due u.rate p) due_5 o.voices e)
  prints_are false e = refl

  place_next : (t : Bool) → audio_after u p es ≡ t → place_from s ≡ cond t (suc p) p % length (cadence u.rate)
  unfolding place_from
  place_next t e = rw (audio_is, e, o.place) (go t)
    where
      go : (t : Bool)
          → cond t (place_after u.rate (p % length (cadence u.rate))) (p % length (cadence u.rate)) ≡ cond t (suc p) p % length (cadence u.rate)
      go true = place_after_lem u.rate p (cadence_some u l) ∙ rw (add-one p) refl
      go false = refl

  voices_next : (t : Bool) → audio_after u p es ≡ t
      → Voices d (bits_packed u.rate (cond t (suc p) p)) (samples u.rule es) 0 u.mixes (each (shed (due_of s.programme)) (cond t (length u.mixes) 0) fs)
  unfolding audio_after bits_packed each
  voices_next true e = rw due_is (shed_voices (bytes_due u.rate p) due_5 o.voices e)
  voices_next false e = o.voices

  contents_are : (id : List ℕ) → contents_of s id ≡ contents_said u es id
  unfolding contents_of contents_said
  contents_are id =
      let r = picture.hand_out_right f (lines f es) (waiting f es) v o.picture in
      rw (spoken_is (audio_after u p es) refl, prints_are (audio_after u p es) refl, r.shown, o.counter) refl

  pack_number_lem : (k : ℕ) → pack_number s k ≡ ready_number (is_waiting (waiting f es)) k
  unfolding pack_number ready_number
  pack_number_lem k = rw (is_set_lem u l, picture.ready_is f (lines f es) (waiting f es) v o.picture) refl

  unpacked : (id out : List ℕ) (a : Answer) → eqb a.number 0 ≡ false → Holds u (record { call = pack id out; answer = a } ∷ es) s
  unfolding lines lines_at waiting waiting_at samples samples_at made made_at sounded sounded_at
  unpacked id out a e = record {
    settings = refl;
    picture = rw e o.picture;
    voices = rw e o.voices;
    counter = rw e o.counter;
    place = rw e o.place;
  }

  packed : (id out : List ℕ) (a : Answer) → eqb a.number 0 ≡ true → Holds u (record { call = pack id out; answer = a } ∷ es) (session_after s)
  unfolding session_after lines lines_at waiting waiting_at samples samples_at made made_at sounded sounded_at counter_after
  packed id out a e = record {
    settings = refl;
    picture = rw e (picture.hand_out_right f (lines f es) (waiting f es) v o.picture).holds;
    voices = rw (e, spoken_is (audio_after u p es) refl) (voices_next (audio_after u p es) refl);
    counter = rw e (omega (arith, o.counter));
    place = rw e (place_next (audio_after u p es) refl);
  }

  abbrev answered : List ℕ → List ℕ → Packed → Answer
  answered id out x = record { number = x.number; told = Open; written = x.written; out = pack_out s id out }

  abbrev PackRight : List ℕ → List ℕ → Packed → Type 0
  PackRight id out x =
      (answered id out x ≡ said u es (pack id out)) × Holds u (record { call = pack id out; answer = answered id out x } ∷ es) x.session

  -- the container is written, or Write refuses it
  written : (id out : List ℕ) → eqb (pack_number s (length id)) 0 ≡ true → PackRight id out (packed_with s (write_done (contents_of s id) (length out)))
  unfolding said packed_said pack_out write_done done_with
  written id out e =
      let c = contents_are id in
      chosen (PackRight id out) (eqb (write_number (contents_of s id) (length out)) 0) _ _
      (λ z.
      let y : write_number (contents_of s id) (length out) ≡ 0 = eqb-true _ _ z in
      (rw (← pack_number_lem (length id), e, ← c, y) refl, packed id out _ refl))
      (λ z. (rw (← pack_number_lem (length id), e, ← c, z) refl, unpacked id out _ z))

  refused : (id out : List ℕ) → eqb (pack_number s (length id)) 0 ≡ false
      → answered id out (refused_with (pack_number s (length id)) s) ≡ said u es (pack id out)
  unfolding said packed_said pack_out
  refused id out e = rw (← pack_number_lem (length id), e) refl

  pack_right : (id out : List ℕ) → Right u es s (pack id out)
  unfolding answer_of after_call pack_of
  pack_right id out = let r = both_ways in record { answer = r.0; holds = r.1 }
    where
      both_ways : PackRight id out (pack_of s id (length out))
      both_ways = chosen (PackRight id out) (eqb (pack_number s (length id)) 0) _ _ (written id out) (λ e. (refused id out e, unpacked id out _ e))

  right_by_parts : (c : Call) → Right u es s c
  right_by_parts (line k b) = line_right k b
  right_by_parts (sound k b) = sound_right k b
  right_by_parts (instant k i) = instant_right k i
  right_by_parts (pack id out) = pack_right id out
  right_by_parts video_restart = video_restart_right
  right_by_parts audio_restart = audio_restart_right

-- a session with the settings of its setup
same_parts : (u : Setup) (t : Session) → t.programme.settings ≡ settings_of u
    → by_parts u t.programme.picture t.programme.counter t.programme.place t.fingerprints ≡ t
same_parts u t e =
    ap (λ (x : Settings). record {
      programme = record { settings = x; picture = t.programme.picture; counter = t.programme.counter; place = t.programme.place };
      fingerprints = t.fingerprints;
    })
    (sym e)

pub right : (u : Setup) → Listed u → (es : List Event) (t : Session) → Holds u es t → (c : Call) → Right u es t c
right u l es t o c =
    subst (λ (x : Session). Right u es x c) (same_parts u t o.settings)
    (right_by_parts u l es t.programme.picture t.programme.counter t.programme.place t.fingerprints
    (record { settings = refl; picture = o.picture; voices = o.voices; counter = o.counter; place = o.place }) c)

-- what the session would pack is what the history says
pub packs_said : (u : Setup) → Listed u → (es : List Event) (t : Session) → Holds u es t → (id : List ℕ) → contents_of t id ≡ contents_said u es id
packs_said u l es t o id =
    subst (λ (x : Session). contents_of x id ≡ contents_said u es id) (same_parts u t o.settings)
    (contents_are u l es t.programme.picture t.programme.counter t.programme.place t.fingerprints
    (record { settings = refl; picture = o.picture; voices = o.voices; counter = o.counter; place = o.place }) id)

-- Setup leaves what no event at all leaves
pub begun_holds : (u : Setup) → accepted u ≡ true → Holds u [] (begun u)
unfolding begun setup_of accepted set_up_with fresh_fingerprints lines waiting samples made sounded bits_packed
begun_holds u e = chosen (λ (x : Begun). Holds u [] x.session) (eqb (setup_number u.format u.rate u.rule u.mixes) 0) _ _
    (λ _. record {
      settings = refl;
      picture = picture.fresh_holds u.format;
      voices = fresh_voices (interval_of u.rate) (interval_some u (listed u e)) 0 u.mixes _;
      counter = refl;
      place = sym (zero-mod (length (cadence u.rate)));
    })
    (λ z. absurd (true≢false (sym e ∙ z)))
