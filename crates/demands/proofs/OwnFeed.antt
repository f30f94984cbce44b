-- Our own judge finds our own card clean (02, A13): the packets of consecutive containers of any run, where no audio restart lies between them.
use Prim.Native.Nat.{ℕ, zero, suc, ◌+◌, ◌%◌, ◌≤◌, ◌<◌}
use mathlib.Core.Path.{◌≡◌, refl, sym, ap, ap₂, subst, ◌∙◌}
use mathlib.Core.Bool.{Bool, true, false, cond, ◌&&◌, not, true≢false}
use mathlib.Core.List.{List, [], ◌∷◌, ◌++◌}
use native.Mathlib.Omega.{arith}
use native.Mathlib.Nat.{mod-lt, add-zero, add-suc, suc-add}
use native.Mathlib.Numerals.{add-one}
use lib.Dec.{ltb, eqb}
use lib.ListN.{length, get_or, take}
use borrow.Author.Tests.{eq-eqb, eqb-true, eqb-false, lt-ltb}
use Rattle.laws.specs.Bytes.{Bytes}
use Rattle.laws.proofs.Tests.{chosen}
use Rattle.rates.specs.Cadence.{cadence}
use Rattle.rates.proofs.Table.{place_after_lem}
use Rattle.container.specs.declared.Print.{Print}
use Rattle.container.specs.declared.Contents.{Contents}
use Rattle.container.specs.Reading.{Reading}
use Rattle.container.specs.Reading.{reading}
use Rattle.container_laws.specs.Typed.{Typed}
use Rattle.container_laws.proofs.Container.{written_bytes}
use Rattle.judging.specs.Packets.{packet_number, contents_in, no_print, carried}
use Rattle.judging.specs.Lines.{clean}
use Rattle.judging_laws.specs.Faults.{accepted_of, has_audio, with_audio, counter_fault, rate_fault, unlike, count_fault, fits_from, fits_some, begun, taken_in, fitted, cadence_fault, faults_in, faults_of, is_faultless, is_clean, report_of}
use Rattle.judging_laws.specs.Files.{fields_of, packet_of, Short, file_of, judged_text, printed_of}
use Rattle.judging_laws.proofs.Positions.{fits_some_lem}
use Rattle.judging_laws.proofs.Judging.{as_judged, of_packets, own_accepted, own_contents, own_short}
use Rattle.session.specs.declared.Session.{Session}
use Rattle.session.specs.Fingerprints.{with_blanks}
use Rattle.demands.specs.Calls.{Setup, Call, line, sound, instant, pack, video_restart, audio_restart, Answer, Event, begun as fresh, answer_of, Run, then}
use Rattle.demands.specs.Paper.{made_at, made, bytes_due, audio_after, sounded_at, sounded, audio_said, contents_said, packed_said, said, accepted}
use Rattle.demands.specs.Demands.{read_again}
use Rattle.demands.specs.OwnFeed.{packet_at, packets, unbroken, Unbroken}
use Rattle.demands.proofs.Listed.{Listed, listed, cadence_some}
use Rattle.demands.proofs.Voices.{said_at}
use Rattle.demands.proofs.Runs.{said_next}
use Rattle.demands.proofs.Packable.{said_typed_as}
use Rattle.demands.proofs.Bits.{said_back}

-- ---- the bytes that n containers with audio take of each fingerprint, from the p-th on, fit the cadence where that one stands

unfoldable dues : ℕ → ℕ → ℕ → List ℕ
dues rate p zero = []
dues rate p (suc n) = bytes_due rate p ∷ dues rate (suc p) n

dues_more : (rate p n : ℕ) → dues rate p n ++ bytes_due rate (p + n) ∷ [] ≡ dues rate p (suc n)
unfolding dues
dues_more rate p zero = rw (add-zero p) refl
dues_more rate p (suc n) =
    ap (◌∷◌ (bytes_due rate p)) (ap (λ (m : ℕ). dues rate (suc p) n ++ bytes_due rate m ∷ []) (add-suc p n ∙ sym (suc-add p n)) ∙ dues_more rate (suc p) n)

dues_fit : (rate p n : ℕ) → 0 < length (cadence rate) → fits_from rate (p % length (cadence rate)) (dues rate p n) ≡ true
unfolding dues fits_from bytes_due
dues_fit rate p zero h = refl
dues_fit rate p (suc n) h =
    rw (eq-eqb (get_or (cadence rate) (p % length (cadence rate)) 0) (get_or (cadence rate) (p % length (cadence rate)) 0) refl, place_after_lem rate p h, add-one p) (dues_fit rate (suc p) n h)

dues_fit_some : (rate p n : ℕ) → 0 < length (cadence rate) → fits_some rate (dues rate p n) ≡ true
dues_fit_some rate p n h = fits_some_lem rate (dues rate p n) (record { place = p % length (cadence rate); within = mod-lt p h; fits = dues_fit rate p n h })

-- ---- what is packed is bytes

bytes_packed : (number : ℕ) (c : Contents) (out : List ℕ) → Typed c → (packed_said number c out).number ≡ 0
    → Bytes (take (packed_said number c out).written (packed_said number c out).out)
unfolding packed_said
bytes_packed number c out t =
    chosen (λ (x : Answer). x.number ≡ 0 → Bytes (take x.written x.out)) (eqb number 0) _ _ (λ _. written_bytes c out t) (λ e z. absurd (eqb-false number 0 e z))

said_bytes : (u : Setup) → Listed u → (es : List Event) (id out : List ℕ) → Bytes id → (said u es (pack id out)).number ≡ 0
    → Bytes (take (said u es (pack id out)).written (said u es (pack id out)).out)
unfolding said
said_bytes u l es id out b = bytes_packed _ (contents_said u es id) out (said_typed_as u l es id b)

-- ---- the accepted contents so far, newest first: m containers, and n with audio from the p-th on

-- the previous one
unfoldable Newest : ℕ → ℕ → List Contents → Type 0
Newest rate m [] = Unit {0}
Newest rate m (previous ∷ cs) = ((previous.counter + 1) % 256 ≡ m % 256) × (previous.rate ≡ rate)

-- the previous one with audio
unfoldable Counted : ℕ → List Contents → Type 0
Counted many [] = Unit {0}
Counted many (previous ∷ cs) = previous.count ≡ many

record Own (u : Setup) (m p n : ℕ) (cs : List Contents) : Type 0 where
  newest : Newest u.rate m cs
  counted : Counted (length u.mixes) (with_audio cs)
  fits : fitted cs ≡ dues u.rate p n

-- contents as the next container says them: with audio or without
record Next (u : Setup) (m q : ℕ) (audio : Bool) (c : Contents) : Type 0 where
  counter : c.counter ≡ m % 256
  rate : c.rate ≡ u.rate
  count : c.count ≡ cond audio (length u.mixes) 0
  bytes : audio ≡ true → carried c ≡ bytes_due u.rate q

module _ (u : Setup) (l : Listed u) (m p n : ℕ) (cs : List Contents) (o : Own u m p n cs) (audio : Bool) (c : Contents) (x : Next u m (p + n) audio c) where
  audio_is : has_audio c ≡ audio
  unfolding has_audio
  audio_is = rw x.count (go audio)
    where
      go : (t : Bool) → ltb 0 (cond t (length u.mixes) 0) ≡ t
      go true = lt-ltb 0 (length u.mixes) (omega (arith, l.some))
      go false = refl

  no_counter : counter_fault cs c ≡ false
  unfolding counter_fault Newest
  no_counter = go cs o.newest
    where
      go : (k : List Contents) → Newest u.rate m k → counter_fault k c ≡ false
      go [] _ = refl
      go (previous ∷ k) w = rw (eq-eqb c.counter ((previous.counter + 1) % 256) (x.counter ∙ sym w.0)) refl

  no_rate : rate_fault cs c ≡ false
  unfolding rate_fault Newest
  no_rate = go cs o.newest
    where
      go : (k : List Contents) → Newest u.rate m k → rate_fault k c ≡ false
      go [] _ = refl
      go (previous ∷ k) w = rw (eq-eqb c.rate previous.rate (x.rate ∙ sym w.1)) refl

  no_count : count_fault cs c ≡ false
  unfolding count_fault unlike Counted
  no_count = rw audio_is (go audio (with_audio cs) o.counted x.count)
    where
      go : (t : Bool) (k : List Contents) → Counted (length u.mixes) k → c.count ≡ cond t (length u.mixes) 0 → (t && unlike k c) ≡ false
      go false k w e = refl
      go true [] w e = refl
      go true (previous ∷ k) w e = rw (eq-eqb c.count previous.count (e ∙ sym w)) refl

  goes_on : begun cs c (fitted cs) ≡ dues u.rate p n
  unfolding begun
  goes_on = rw no_rate o.fits

  one_more : audio ≡ true → begun cs c (fitted cs) ++ carried c ∷ [] ≡ dues u.rate p (suc n)
  one_more e = ap₂ (λ (k : List ℕ) (b : ℕ). k ++ b ∷ []) goes_on (x.bytes e) ∙ dues_more u.rate p n

  still_fits : audio ≡ true → fits_some c.rate (begun cs c (fitted cs) ++ carried c ∷ []) ≡ true
  still_fits e = rw (one_more e, x.rate) (dues_fit_some u.rate p (suc n) (cadence_some u l))

  no_cadence : cadence_fault cs c ≡ false
  unfolding cadence_fault
  no_cadence = rw audio_is (go audio refl)
    where
      go : (t : Bool) → audio ≡ t → (t && not (fits_some c.rate (begun cs c (fitted cs) ++ carried c ∷ []))) ≡ false
      go true e = rw (still_fits e) refl
      go false e = refl

  no_fault : is_faultless (faults_in cs c) ≡ true
  unfolding is_faultless faults_in
  no_fault = rw (no_counter, no_rate, no_count, no_cadence) refl

  count_next : Counted (length u.mixes) (with_audio (c ∷ cs))
  unfolding with_audio Counted
  count_next = rw audio_is (go audio x.count)
    where
      go : (t : Bool) → c.count ≡ cond t (length u.mixes) 0 → Counted (length u.mixes) (cond t (c ∷ with_audio cs) (with_audio cs))
      go true e = e
      go false e = o.counted

  fits_next : fitted (c ∷ cs) ≡ dues u.rate p (cond audio (suc n) n)
  unfolding fitted taken_in
  fits_next = rw audio_is (go audio refl)
    where
      next : List ℕ
      next = begun cs c (fitted cs) ++ carried c ∷ []

      go : (t : Bool) → audio ≡ t → cond t (cond (fits_some c.rate next) next (carried c ∷ [])) (begun cs c (fitted cs)) ≡ dues u.rate p (cond t (suc n) n)
      go true e = rw (still_fits e) (one_more e)
      go false e = goes_on

  own_next : Own u (m + 1) p (cond audio (suc n) n) (c ∷ cs)
  unfolding Newest
  own_next = record { newest = (omega (arith, x.counter), x.rate); counted = count_next; fits = fits_next }

-- ---- any run

module _ (u : Setup) (a : accepted u ≡ true) (before : List Event) where
  abbrev l : Listed u
  l = listed u a

  -- of the events after those before: the packets so far
  record OwnRun (during : List Event) : Type 0 where
    n : ℕ
    on : sounded u (during ++ before) ≡ sounded u before + n
    own : Own u (made (during ++ before)) (sounded u before) n (accepted_of (packets during))
    clean_so_far : is_clean (packets during) ≡ true
    short : Short (packets during)

  nothing_yet : OwnRun []
  unfolding packets accepted_of Newest Counted with_audio fitted dues is_clean Short
  nothing_yet = record { n = 0; on = sym (add-zero (sounded u before)); own = record { newest = tt; counted = tt; fits = refl }; clean_so_far = refl; short = tt }

  -- an event that packs nothing, and is no audio restart
  module _ (during : List Event) (e : Event) (o : OwnRun during) where
    idle : packets (e ∷ during) ≡ packets during → made (e ∷ during ++ before) ≡ made (during ++ before) → sounded u (e ∷ during ++ before) ≡ sounded u (during ++ before)
        → OwnRun (e ∷ during)
    idle p m s = record {
      n = o.n;
      on = s ∙ o.on;
      own = rw (p, m) o.own;
      clean_so_far = rw p o.clean_so_far;
      short = rw p o.short;
    }

  -- a container packed after a run
  module _ (during : List Event) {t : Session} (r : Run (fresh u) (during ++ before) t) (id out : List ℕ) (b : Bytes id) (z : (answer_of t (pack id out)).number ≡ 0) (o : OwnRun during) where
    abbrev es : List Event
    es = during ++ before

    abbrev answer : Answer
    answer = answer_of t (pack id out)

    abbrev container : List ℕ
    container = take answer.written answer.out

    abbrev contents : Contents
    contents = contents_said u es id

    abbrev audio : Bool
    audio = audio_after u (sounded u es) es

    as_said : answer ≡ said u es (pack id out)
    as_said = said_next u a r (pack id out)

    said_zero : (said u es (pack id out)).number ≡ 0
    said_zero = sym (ap (λ (x : Answer). x.number) as_said) ∙ z

    reads : reading container ≡ record { number = 0; contents = contents }
    unfolding read_again
    reads = ap read_again as_said ∙ said_back u l es id out b said_zero

    bytes : Bytes container
    bytes = subst (λ (x : Answer). Bytes (take x.written x.out)) (sym as_said) (said_bytes u l es id out b said_zero)

    zero_read : (reading container).number ≡ 0
    zero_read = ap (λ (x : Reading). x.number) reads

    says_contents : contents_in (packet_of container) ≡ contents
    says_contents = own_contents container bytes zero_read ∙ ap (λ (x : Reading). x.contents) reads

    first_size : (s : Bool) → s ≡ true → (get_or (with_blanks (cond s (audio_said u (sounded u es) es) [])) 0 no_print).size ≡ bytes_due u.rate (sounded u es)
    unfolding with_blanks audio_said
    first_size true e = ap (λ (q : Print). q.size) (said_at _ _ _ _ 0 u.mixes _ no_print 0 (omega (arith, l.some)))
    first_size false e = absurd (true≢false (sym e))

    next : Next u (made es) (sounded u before + o.n) audio contents
    unfolding contents_said carried
    next = record { counter = refl; rate = refl; count = refl; bytes = λ e. first_size audio e ∙ ap (bytes_due u.rate) o.on }

    abbrev cs : List Contents
    cs = accepted_of (packets during)

    abbrev event : Event
    event = record { call = pack id out; answer = answer }

    is_zero : eqb answer.number 0 ≡ true
    is_zero = eq-eqb answer.number 0 z

    taken : eqb (packet_number (packet_of container)) 0 ≡ true
    taken = eq-eqb (packet_number (packet_of container)) 0 (own_accepted container bytes zero_read)

    one_packet : packets (event ∷ during) ≡ packet_of container ∷ packets during
    unfolding packets packet_at
    one_packet = rw is_zero refl

    one_made : made (event ∷ es) ≡ made es + 1
    unfolding made made_at
    one_made = rw is_zero refl

    one_accepted : accepted_of (packet_of container ∷ packets during) ≡ contents ∷ cs
    unfolding accepted_of
    one_accepted = rw (taken, says_contents) refl

    still_clean : is_clean (packet_of container ∷ packets during) ≡ true
    unfolding is_clean faults_of
    still_clean = rw (o.clean_so_far, taken, says_contents) (no_fault u l (made es) (sounded u before) o.n cs o.own audio contents next)

    moved_on : sounded u (event ∷ es) ≡ sounded u before + cond audio (suc o.n) o.n
    unfolding sounded sounded_at
    moved_on = rw is_zero (go audio)
      where
        go : (s : Bool) → cond s (suc (sounded u es)) (sounded u es) ≡ sounded u before + cond s (suc o.n) o.n
        go true = omega (arith, o.on)
        go false = o.on

    packed : OwnRun (event ∷ during)
    unfolding Short
    packed = record {
      n = cond audio (suc o.n) o.n;
      on = moved_on;
      own = rw (one_packet, one_accepted, one_made) (own_next u l (made es) (sounded u before) o.n cs o.own audio contents next);
      clean_so_far = rw one_packet still_clean;
      short = rw one_packet (own_short container bytes zero_read, o.short);
    }

  step : (during : List Event) {t : Session} (r : Run (fresh u) (during ++ before) t) (c : Call) → unbroken c → OwnRun during
      → OwnRun (record { call = c; answer = answer_of t c } ∷ during)
  unfolding packets packet_at made made_at sounded sounded_at unbroken
  step during r (line n b) w o = idle during _ o refl refl refl
  step during r (sound k b) w o = idle during _ o refl refl refl
  step during r (instant k i) w o = idle during _ o refl refl refl
  step during {t} r (pack id out) w o = go (eqb (answer_of t (pack id out)).number 0) refl
    where
      go : (s : Bool) → eqb (answer_of t (pack id out)).number 0 ≡ s → OwnRun (record { call = pack id out; answer = answer_of t (pack id out) } ∷ during)
      go true e = packed during r id out w (eqb-true (answer_of t (pack id out)).number 0 e) o
      go false e = idle during _ o (rw e refl) (rw e refl) (rw e refl)
  step during r video_restart w o = idle during _ o refl refl refl
  step during r audio_restart w o = absurd w

  runs : (during : List Event) {t : Session} → Run (fresh u) (during ++ before) t → Unbroken during → OwnRun during
  unfolding Unbroken
  runs [] r w = nothing_yet
  runs (e ∷ during) (then {es} {t} c r) w = step during r c w.0 (runs during r w.1)

  -- Any 1 to 500 containers that come one after the other in a run are clean, as the packets of a file, where no audio restart lies between them; refused
  -- Packs, frames without audio and video restarts may.
  pub own_clean : (during : List Event) {t : Session} → Run (fresh u) (during ++ before) t → Unbroken during
      → 1 ≤ length (packets during) → length (packets during) ≤ 500 → judged_text (file_of (packets during)) ≡ clean
  unfolding report_of
  own_clean during r w some few = let o = runs during r w in of_packets (packets during) o.short some few ∙ rw o.clean_so_far refl

  -- and that is all that is printed of it
  pub own_printed : (during : List Event) {t : Session} → Run (fresh u) (during ++ before) t → Unbroken during
      → 1 ≤ length (packets during) → length (packets during) ≤ 500 → (out : List ℕ) → 35500 ≤ length out → printed_of (fields_of (file_of (packets during))) out ≡ clean
  own_printed during r w some few out h = as_judged (file_of (packets during)) out h ∙ own_clean during r w some few
