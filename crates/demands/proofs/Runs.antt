-- Any run from any setup: what holds after it, and what the next call answers.
use mathlib.Core.Path.{◌≡◌, refl, sym, ap, subst, ◌∙◌}
use mathlib.Core.Bool.{Bool, true, false, cond, true≢false}
use mathlib.Core.List.{List, [], ◌∷◌}
use Prim.Native.Nat.{ℕ}
use lib.Dec.{leb, eqb}
use lib.ListN.{length}
use borrow.Author.Tests.{eqb-false}
use Rattle.laws.proofs.Tests.{chosen}
use Rattle.rates.specs.Rates.{pairs_with}
use Rattle.session.specs.declared.Session.{Session}
use Rattle.session.specs.Session.{Begun}
use Rattle.session.specs.Fingerprints.{all_listed}
use Rattle.session.specs.Session.{is_set, rule_listed, setup_number, set_up_with, empty_session, setup_of, line_of, sounded_number, sound_of, instanted_number, instant_of, video_restarted, audio_restarted}
use Rattle.session.specs.Packing.{pack_number, pack_of, pack_out}
use Rattle.demands.specs.Calls.{Setup, Call, line, sound, instant, pack, video_restart, audio_restart, Answer, Event, calls, begun, answer_of, after_call, Run, none, then}
use Rattle.demands.specs.Paper.{said, said_empty, accepted, paper, Program, transcript}
use Rattle.demands.specs.Demands.{session_at, card, Every}
use Rattle.demands.proofs.Listed.{listed}
use Rattle.demands.proofs.Invariant.{Holds, right, begun_holds}

-- ---- from an accepted setup
module _ (u : Setup) (a : accepted u ≡ true) where
  pub always : {es : List Event} {t : Session} → Run (begun u) es t → Holds u es t
  always none = begun_holds u a
  always (then {es} {t} c r) = (right u (listed u a) es t (always r) c).holds

  pub said_next : {es : List Event} {t : Session} → Run (begun u) es t → (c : Call) → answer_of t c ≡ said u es c
  said_next {es} {t} r c = (right u (listed u a) es t (always r) c).answer

  -- what follows from what holds, of each event
  pub every : (P : List Event → Call → Answer → Type 0) → ((es : List Event) (t : Session) → Holds u es t → (c : Call) → P es c (answer_of t c))
      → {es : List Event} {t : Session} → Run (begun u) es t → Every P es
  unfolding Every
  every P f none = tt
  every P f (then {es} {t} c r) = (f es t (always r) c, every P f r)

-- ---- Setup
pub setup_1 : (f r rule : ℕ) (mixes : List ℕ) → (setup_number f r rule mixes ≡ 0 → ⊥) → setup_number f r rule mixes ≡ 1
unfolding setup_number
setup_1 f r rule mixes =
    chosen P (pairs_with f r) _ _
    (λ _. chosen P (rule_listed rule) _ _
    (λ _. chosen P (leb 1 (length mixes)) _ _
    (λ _. chosen P (leb (length mixes) 32) _ _
    (λ _. chosen P (all_listed mixes) _ _ (λ _ h. absurd (h refl)) (λ _ _. refl))
    (λ _ _. refl))
    (λ _ _. refl))
    (λ _ _. refl))
    (λ _ _. refl)
  where
    P : ℕ → Type 0
    P n = (n ≡ 0 → ⊥) → n ≡ 1

-- ---- the empty session: Line, Sound, an instant and Pack return 1, and nothing changes it
pub empty_answers : (c : Call) → answer_of empty_session c ≡ said_empty c
unfolding empty_session set_up_with is_set pairs_with answer_of said_empty line_of sounded_number sound_of instanted_number instant_of pack_number pack_of pack_out
empty_answers (line n b) = refl
empty_answers (sound k b) = refl
empty_answers (instant k i) = refl
empty_answers (pack id out) = refl
empty_answers video_restart = refl
empty_answers audio_restart = refl

pub empty_stays : (c : Call) → after_call empty_session c ≡ empty_session
unfolding empty_session set_up_with is_set pairs_with after_call line_of sounded_number sound_of instanted_number instant_of pack_number pack_of video_restarted audio_restarted
empty_stays (line n b) = refl
empty_stays (sound k b) = refl
empty_stays (instant k i) = refl
empty_stays (pack id out) = refl
empty_stays video_restart = refl
empty_stays audio_restart = refl

pub refused_empty : (u : Setup) → accepted u ≡ false → begun u ≡ empty_session
unfolding begun setup_of accepted
refused_empty u e = chosen (λ (x : Begun). x.session ≡ empty_session) (eqb (setup_number u.format u.rate u.rule u.mixes) 0) _ _
    (λ z. absurd (true≢false (sym z ∙ e)))
    (λ _. refl)

pub still_empty : (u : Setup) → accepted u ≡ false → {es : List Event} {t : Session} → Run (begun u) es t → t ≡ empty_session
still_empty u e none = refused_empty u e
still_empty u e (then c r) = ap (λ (s : Session). after_call s c) (still_empty u e r) ∙ empty_stays c

-- ---- from any setup
pub setup_answer : (u : Setup) → (setup_of u.format u.rate u.rule u.mixes).number ≡ cond (accepted u) 0 1
unfolding setup_of accepted
setup_answer u = go (eqb n 0) refl
  where
    n : ℕ
    n = setup_number u.format u.rate u.rule u.mixes

    go : (b : Bool) → eqb n 0 ≡ b
        → (cond {A = Begun} b (record { number = 0; session = set_up_with u.format u.rate u.rule (length u.mixes) u.mixes }) (record { number = n; session = empty_session })).number
        ≡ cond b 0 1
    go true e = refl
    go false e = setup_1 u.format u.rate u.rule u.mixes (eqb-false n 0 e)

pub next_answer : (u : Setup) {es : List Event} {t : Session} → Run (begun u) es t → (c : Call) → answer_of t c ≡ paper u es c
unfolding paper
next_answer u {es} {t} r c = go (accepted u) refl
  where
    go : (b : Bool) → accepted u ≡ b → answer_of t c ≡ cond (accepted u) (said u es c) (said_empty c)
    go true e = rw e (said_next u e r c)
    go false e = rw e (ap (λ (s : Session). answer_of s c) (still_empty u e r) ∙ empty_answers c)

-- ---- the card's own transcript is a run
pub calls_of : (p : Program) (u : Setup) (cs : List Call) → calls (transcript p u cs) ≡ cs
unfolding calls transcript
calls_of p u [] = refl
calls_of p u (c ∷ cs) = ap (◌∷◌ c) (calls_of p u cs)

pub card_runs : (u : Setup) (cs : List Call) → Run (begun u) (transcript card u cs) (session_at u cs)
unfolding transcript card session_at
card_runs u [] = none
card_runs u (c ∷ cs) =
    subst (λ (x : List Call). Run (begun u) (record { call = c; answer = answer_of (session_at u x) c } ∷ transcript card u cs) (after_call (session_at u cs) c))
    (sym (calls_of card u cs)) (then c (card_runs u cs))
